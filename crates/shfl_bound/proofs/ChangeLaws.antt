-- Each change leads from a lawful world to one, one step of the line further.
use Rattle.std.proofs.Common.{◌≡◌, ℕ, ◌<◌, Bool, true, false, cond, length, refl, arith}
use Rattle.std.specs.Prelude.{nat_lt}
use Rattle.std.proofs.lemmas.Bool.Decides.{nat_tests}
use Rattle.shfl_line.specs.declared.events.LineEvent.TheVariants as event
use Rattle.shfl_core.specs.declared.phase.Phase.{Phase}
use Rattle.shfl_core.specs.declared.phase.Phase.TheVariants as phase
use Rattle.shfl_core.specs.Words.{look, site, wide}
use Rattle.shfl_core.specs.Plan.{is_idle, attempt_plan}
use Rattle.shfl_core.specs.Take.{to}
use Rattle.shfl_core.specs.Waiting.{idle}
use Rattle.shfl_core.specs.Worlds.{known, placed_at, tried}
use Rattle.shfl_core.specs.Events.{attempt_event}
use Rattle.shfl_core.specs.Lawful.{Terms, Advances}
use Rattle.shfl_core.proofs.Lists.{at-read}
use Rattle.shfl_laws.specs.Moves.{with_one_more}
use Rattle.shfl_laws.proofs.laws.Laws.{laws}
use Rattle.shfl_laws.proofs.laws.MoveLaws.{move-law}
use Rattle.shfl_laws.proofs.laws.MoveRows.{forget-law}
use Rattle.shfl_laws.proofs.laws.AttemptRows.{attempt-law}
use Rattle.shfl_laws.proofs.laws.Opens.{seat-law}
use Rattle.shfl_laws.proofs.laws.Stealing.{disable-law}
use Rattle.shfl_laws.specs.Changes.{Moves, Tries, Disables, Fills, Replaces, is_idle_there, has_seat}
use Rattle.shfl_bound.specs.Overtaking.{ChangeLaw}
use Rattle.shfl_bound.proofs.Changing.{both-true}

pub idle-is : (f : Phase) → is_idle f ≡ true → f ≡ phase.Idle
idle-is f h = grind arith

pub below-is : (a b : ℕ) → nat_lt a b ≡ true → a < b
below-is a b e = grind (arith, nat_tests)

-- each change leads from a lawful world to one
pub change-law : (t : Terms) → ChangeLaw t
change-law t w (Moves m) ok may = move-law t (laws t) m w ok may
change-law t w (Tries p mode) ok may = by (is_idle_there w p) refl
  where
    by : (b : Bool) → is_idle_there w p ≡ b → Advances t w ok (cond b (attempt_event mode p (look w.words (site (attempt_plan mode)))) event.Nothing) (cond b (tried w p (known w.passes p) mode) w)
    by false e = record { lawful = ok; admitted = tt; shown = refl }
    by true e = let u = both-true (nat_lt p (length w.passes)) (is_idle (known w.passes p).phase) e in
        attempt-law t mode w p (known w.passes p) ok (at-read w.passes p (idle p) (below-is p (length w.passes) u.0)) (idle-is (known w.passes p).phase u.1) may
change-law t w (Disables z) ok may = disable-law t w ok
change-law t w Fills ok may = by (has_seat w) refl
  where
    by : (b : Bool) → has_seat w ≡ b → Advances t w ok event.Nothing (cond b (with_one_more w) w)
    by false e = record { lawful = ok; admitted = tt; shown = refl }
    by true e = let a = below-is (wide (length w.passes)) (length w.words) e in let b = ok.room in seat-law t w ok (omega arith)
change-law t w (Replaces p r) ok may = by (is_idle_there w p) refl
  where
    by : (b : Bool) → is_idle_there w p ≡ b → Advances t w ok event.Nothing (cond b (placed_at w p (to phase.Idle (record r { me = p }))) w)
    by false e = record { lawful = ok; admitted = tt; shown = refl }
    by true e = let u = both-true (nat_lt p (length w.passes)) (is_idle (known w.passes p).phase) e in
        forget-law t w p (known w.passes p) (to phase.Idle (record r { me = p })) ok (at-read w.passes p (idle p) (below-is p (length w.passes) u.0)) (idle-is (known w.passes p).phase u.1) refl refl refl
