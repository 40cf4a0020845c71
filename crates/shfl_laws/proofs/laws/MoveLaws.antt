-- Every move of a schedule, and every run, from the laws of the phases and of the park states.
use Rattle.std.proofs.Common.{◌≡◌, ℕ, zero, suc, ◌≤◌, Bool, true, false, cond, List, [], ◌∷◌, length, length-set, set, refl, sym, ap, subst, ⊎_elim, arith}
use mathlib.Core.Option.{some}
use lib.ListN.{get_elem?}
use Rattle.shfl_line.specs.declared.events.Mode.{Mode}
use Rattle.shfl_line.specs.declared.events.LineEvent.{LineEvent}
use Rattle.shfl_line.specs.declared.events.LineEvent.TheVariants.{Nothing}
use Rattle.shfl_core.specs.declared.phase.Phase.{Phase}
use Rattle.shfl_core.specs.declared.phase.Phase.TheVariants.{Idle, Held}
use Rattle.shfl_core.specs.declared.phase.Nap.{Nap}
use Rattle.shfl_core.specs.declared.phase.Nap.TheVariants.{Awake, Doze, Hear, Rouse, Ring}
use Rattle.shfl_core.specs.declared.phase.PassState.{PassState}
use Rattle.shfl_core.specs.declared.phase.Rules.{Rules}
use Rattle.shfl_core.specs.Words.{look, site}
use Rattle.shfl_core.specs.Plan.{plan, moving, is_idle, is_resting}
use Rattle.shfl_core.specs.Take.{take, entry, exit, acquired, released}
use Rattle.shfl_core.specs.Waiting.{MayUse, idle}
use Rattle.shfl_core.specs.Worlds.{World, known, placed_at, stepped, opening, Move, Acquire, Release, Step, after_move, run}
use Rattle.shfl_core.specs.Events.{event}
use Rattle.shfl_core.specs.Lawful.{Terms, Lawful, Advances, LawOf}
use Rattle.shfl_core.proofs.Lists.{at-read, past, below-or}
use Rattle.shfl_laws.specs.Moves.{EachMayMove, MoveLaw, terms, RunLaw}
use Rattle.shfl_laws.proofs.laws.MoveRows.{acquire-advances, release-advances}
use Rattle.shfl_laws.proofs.laws.NapRows.{doze-law, hear-law, rouse-law}
use Rattle.shfl_laws.proofs.laws.RingRow.{ring-law}
use Rattle.shfl_laws.proofs.laws.Opens.{opening-law}

pub idle-is : (f : Phase) → is_idle f ≡ true → f ≡ Idle
idle-is f h = grind arith

pub resting-is : (q : PassState) → is_resting q ≡ true → (q.phase ≡ Held) × (q.nap ≡ Awake)
resting-is q h = grind arith

idle-still : (p : ℕ) → moving (idle p) ≡ false
idle-still p = refl

idle-rests : (p : ℕ) → is_resting (idle p) ≡ false
idle-rests p = refl

-- a list has no place past its end
set-past : (l : List PassState) (p : ℕ) (v : PassState) → length l ≤ p → set l p v ≡ l
set-past [] p v h = refl
set-past (x ∷ xs) zero v h = absurd (omega arith)
set-past (x ∷ xs) (suc p) v h = ap (λ l. x ∷ l) (set-past xs p v (omega arith))

-- no move adds a pass or takes one away
pub moved-long : (r : Rules) (w : World) (m : Move) → length (after_move r w m).passes ≡ length w.passes
moved-long r w m = by m
  where
    maybe : (b : Bool) (w' : World) → length w'.passes ≡ length w.passes → length (cond b w' w).passes ≡ length w.passes
    maybe true w' e = e
    maybe false w' e = refl

    by : (m : Move) → length (after_move r w m).passes ≡ length w.passes
    by (Acquire p mode) = let q = known w.passes p in maybe (is_idle q.phase) (placed_at w p (acquired mode q)) (length-set w.passes p (acquired mode q))
    by (Release p) = let q = known w.passes p in maybe (is_resting q) (placed_at w p (released q)) (length-set w.passes p (released q))
    by (Step p choice) = let q = known w.passes p in maybe (moving q) (stepped r w p q choice) (length-set w.passes p (take r p q (look w.words (site (plan r p q))) choice))

module _ (t : Terms) (laws : (f : Phase) → LawOf t f) where
  -- the step of a pass, whatever its phase and park state
  pub any-step : (w : World) (p : ℕ) (q : PassState) (choice : Bool) (ok : Lawful t w) → get_elem? w.passes p ≡ some q
      → Advances t w ok (event t.rules p q (look w.words (site (plan t.rules p q)))) (stepped t.rules w p q choice)
  any-step w p q choice ok at = by q.nap refl
    where
      by : (n : Nap) → q.nap ≡ n → Advances t w ok (event t.rules p q (look w.words (site (plan t.rules p q)))) (stepped t.rules w p q choice)
      by Awake e = laws q.phase w p q choice ok at e refl
      by Doze e = doze-law t w p q choice ok at e
      by Hear e = hear-law t w p q choice ok at e
      by Rouse e = rouse-law t w p q choice ok at e
      by (Ring whom) e = ring-law t whom w p q choice ok at e

  module _ (w : World) (ok : Lawful t w) where
    stays : Advances t w ok Nothing w
    stays = record { lawful = ok; admitted = tt; shown = refl }

    -- no pass stands there
    beyond : (p : ℕ) (v : PassState) → length w.passes ≤ p → Advances t w ok Nothing (placed_at w p v)
    beyond p v h = subst (λ (l : List PassState). Advances t w ok Nothing (record { words = w.words; passes = l })) (sym (set-past w.passes p v h)) stays

    -- a move that may be refused
    maybe : (b : Bool) (e : LineEvent) (w' : World) → (b ≡ true → Advances t w ok e w') → Advances t w ok (cond b e Nothing) (cond b w' w)
    maybe true e w' f = f refl
    maybe false e w' f = stays

    maybe-quiet : (b : Bool) (w' : World) → (b ≡ true → Advances t w ok Nothing w') → Advances t w ok Nothing (cond b w' w)
    maybe-quiet true w' f = f refl
    maybe-quiet false w' f = stays

    acquire : (p : ℕ) (m : Mode) → MayUse t.rules.form m → is_idle (known w.passes p).phase ≡ true → Advances t w ok Nothing (placed_at w p (acquired m (known w.passes p)))
    acquire p m may h = let q : PassState = known w.passes p in let v : PassState = record q { phase = entry m; reg = record q.reg { mode = m } } in ⊎_elim
        (λ below. subst (λ (z : PassState). Advances t w ok Nothing (placed_at w p z)) (sym (ap (λ (b : Bool). cond b v q) h)) (acquire-advances t w ok p below m may (idle-is q.phase h)))
        (λ over. beyond p (acquired m q) over)
        (below-or p (length w.passes))

    release : (p : ℕ) → is_resting (known w.passes p) ≡ true → Advances t w ok Nothing (placed_at w p (released (known w.passes p)))
    release p h = let q : PassState = known w.passes p in let v : PassState = record q { phase = exit q.reg.mode } in let r = resting-is q h in ⊎_elim
        (λ below. subst (λ (z : PassState). Advances t w ok Nothing (placed_at w p z)) (sym (ap (λ (b : Bool). cond b v q) h)) (release-advances t w ok p below r.0 r.1))
        (λ over. beyond p (released q) over)
        (below-or p (length w.passes))

    step : (p : ℕ) (choice : Bool) → moving (known w.passes p) ≡ true
        → Advances t w ok (event t.rules p (known w.passes p) (look w.words (site (plan t.rules p (known w.passes p))))) (stepped t.rules w p (known w.passes p) choice)
    step p choice h = ⊎_elim
        (λ below. any-step w p (known w.passes p) choice ok (at-read w.passes p (idle p) below))
        (λ over. absurd (let e : known w.passes p ≡ idle p = past w.passes p (idle p) over in let i : moving (known w.passes p) ≡ false = ap moving e in cc))
        (below-or p (length w.passes))

  pub move-law : (m : Move) → MoveLaw t m
  move-law (Acquire p mode) w ok may = maybe-quiet w ok (is_idle (known w.passes p).phase) (placed_at w p (acquired mode (known w.passes p))) (acquire w ok p mode may)
  move-law (Release p) w ok may = maybe-quiet w ok (is_resting (known w.passes p)) (placed_at w p (released (known w.passes p))) (release w ok p)
  move-law (Step p choice) w ok may = maybe w ok (moving (known w.passes p)) (event t.rules p (known w.passes p) (look w.words (site (plan t.rules p (known w.passes p))))) (stepped t.rules w p (known w.passes p) choice) (step w ok p choice)

  pub run-lawful : (moves : List Move) (w : World) → Lawful t w → EachMayMove t.rules.form moves → Lawful t (run t.rules w moves)
  run-lawful [] w ok may = ok
  run-lawful (m ∷ rest) w ok may = run-lawful rest (after_move t.rules w m) (move-law m w ok may.0).lawful may.1

pub run-law : ((t : Terms) (f : Phase) → LawOf t f) → RunLaw
run-law laws rules attrs moves may each = run-lawful (terms rules attrs) (laws (terms rules attrs)) moves (opening attrs) (opening-law rules attrs may).lawful each
