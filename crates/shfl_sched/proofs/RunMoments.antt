-- The moments of a run are the run: each has the lock after the moves so far, and the form allows each move.
use Rattle.std.proofs.Common.{◌≡◌, ℕ, zero, suc, Bool, true, false, List, [], ◌∷◌, ◌++◌, length, take, IsTrue, refl, sym, ap, subst}
use Rattle.std.specs.List.{AllByRecursion}
use mathlib.Core.Option.{some, some-injective, some-ne-none}
use lib.ListN.{get_elem?}
use Rattle.shfl_line.specs.declared.events.Form.{Form}
use Rattle.shfl_core.specs.declared.phase.Rules.{Rules}
use Rattle.shfl_core.specs.Plan.{shares}
use Rattle.shfl_core.specs.Worlds.{World, Move, opening, after_move, run}
use Rattle.shfl_sched.specs.declared.schedule.Act.{Act}
use Rattle.shfl_sched.specs.declared.schedule.Act.TheVariants.{Write, Read, Free, Step}
use Rattle.shfl_sched.specs.declared.schedule.Event.{Event}
use Rattle.shfl_sched.specs.Schedules.{ScheduleModel, is_act_of, IsEventOf, IsWithin}
use Rattle.shfl_sched.specs.Run.{Setup, setup_of, rules_of, Moment, move_of, move_in, choice_at, after_event, moment_of, moments, moments_of, moves, lock_after}
use Rattle.shfl_sched.specs.RunLaws.{MayMake}

moments-run : (t : Setup) (w : World) (events : List Event) (k : ℕ) (m : Moment) → get_elem? (moments t w events) k ≡ some m
    → m.after ≡ run t.rules w (moves (take (suc k) (moments t w events)))
moments-run t w [] k m e = absurd (some-ne-none m (sym e))
moments-run t w (x ∷ rest) zero m e = ap (λ (n : Moment). n.after) (sym (some-injective (moment_of t w x) m e))
moments-run t w (x ∷ rest) (suc k) m e = moments-run t (after_event t w x) rest k m e

pub moments_are_run : (s : ScheduleModel) (k : ℕ) (m : Moment) → get_elem? (moments_of s) k ≡ some m → m.after ≡ (lock_after s (suc k)).world
moments_are_run s k m e = moments-run (setup_of s) (opening s.passes) s.events k m e

-- no test is both
not-both : (b : Bool) → IsTrue b → b ≡ false → ⊥
not-both true is none = cc
not-both false is none = cc

-- the move of an act that the form allows
pub move-allowed : (form : Form) (act : Act) (pass : ℕ) (choice : Bool) → IsTrue (is_act_of form act) → MayMake form (move_of act pass choice)
move-allowed form Write pass choice is = λ _. refl
move-allowed form Read pass choice is = λ none. absurd (not-both (shares form) is none)
move-allowed form Free pass choice is = tt
move-allowed form Step pass choice is = tt

moves-allowed : (t : Setup) (n : ℕ) (w : World) (events : List Event) → AllByRecursion (IsEventOf t.rules.form n) events → AllByRecursion (λ m. MayMake t.rules.form m.move) (moments t w events)
moves-allowed t n w [] all = tt
moves-allowed t n w (e ∷ rest) all = (move-allowed t.rules.form e.act e.pass (choice_at t w e.pass) all.0.act, moves-allowed t n (after_event t w e) rest all.1)

pub moves_may_be_made : (s : ScheduleModel) → IsWithin s → AllByRecursion (λ m. MayMake s.form m.move) (moments_of s)
moves_may_be_made s within = moves-allowed (setup_of s) (length s.passes) (opening s.passes) s.events within.events

run-append : (t : Rules) (w : World) (front : List Move) (m : Move) → run t w (front ++ m ∷ []) ≡ after_move t (run t w front) m
run-append t w [] m = refl
run-append t w (x ∷ rest) m = run-append t (after_move t w x) rest m

all-append : (form : Form) (front : List Move) (m : Move) → AllByRecursion (MayMake form) front → MayMake form m → AllByRecursion (MayMake form) (front ++ m ∷ [])
all-append form [] m all may = (may, tt)
all-append form (x ∷ rest) m all may = (all.0, all-append form rest m all.1 may)

each-from : (t : Setup) (n : ℕ) (start : World) (P : World → Type 0) (events : List Event) (front : List Move) → AllByRecursion (IsEventOf t.rules.form n) events
    → AllByRecursion (MayMake t.rules.form) front → ((ms : List Move) → AllByRecursion (MayMake t.rules.form) ms → P (run t.rules start ms))
    → AllByRecursion (λ m. P m.after) (moments t (run t.rules start front) events)
each-from t n start P [] front all may holds = tt
each-from t n start P (e ∷ rest) front all may holds =
    let w = run t.rules start front in
    let m = move_in t w e in
    let more = all-append t.rules.form front m may (move-allowed t.rules.form e.act e.pass (choice_at t w e.pass) all.0.act) in
    let is = run-append t.rules start front m in
    (subst P is (holds (front ++ m ∷ []) more), subst (λ (v : World). AllByRecursion (λ k. P k.after) (moments t v rest)) is (each-from t n start P rest (front ++ m ∷ []) all.1 more holds))

-- what holds after all moves that the form allows holds at each moment of a schedule
pub each_moment : (s : ScheduleModel) (P : World → Type 0) → IsWithin s → ((ms : List Move) → AllByRecursion (MayMake s.form) ms → P (run (rules_of s) (opening s.passes) ms))
    → AllByRecursion (λ m. P m.after) (moments_of s)
each_moment s P within holds = each-from (setup_of s) (length s.passes) (opening s.passes) P s.events [] within.events tt holds
