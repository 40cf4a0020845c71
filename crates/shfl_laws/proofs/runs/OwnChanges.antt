-- A step of a pass that others see as idle is an acquire and a step; of one that they see as a holder, a release and a step.
use Rattle.std.proofs.Common.{◌≡◌, ℕ, ◌<◌, [], ◌∷◌, Bool, true, cond, length, set, get_or-set_same, sym, ap, ◌∙◌}
use mathlib.Core.Option.{some}
use lib.ListN.{get_elem?}
use Rattle.shfl_line.specs.declared.events.Mode.{Mode}
use Rattle.shfl_core.specs.declared.phase.Phase.TheVariants.{Idle}
use Rattle.shfl_core.specs.declared.phase.PassState.{PassState}
use Rattle.shfl_core.specs.declared.phase.Rules.{Rules}
use Rattle.shfl_core.specs.Words.{look, site}
use Rattle.shfl_core.specs.Plan.{plan, moving, is_idle, is_resting}
use Rattle.shfl_core.specs.Take.{take, entry, exit, acquired, released}
use Rattle.shfl_core.specs.Waiting.{idle}
use Rattle.shfl_core.specs.Worlds.{World, known, placed_at, stepped, Move, Acquire, Release, Step, after_move}
use Rattle.shfl_core.proofs.Lists.{seen-at, set-twice}
use Rattle.shfl_laws.specs.Seen.{SeenAs, Alike, Enters, Leaves}
use Rattle.shfl_laws.specs.Changes.{Moves, after_changes, EachMayChange}
use Rattle.shfl_laws.specs.Runs.{step_changes, unseen_move}

module _ (t : Rules) (w : World) (p : ℕ) (own : PassState) where
  -- the step in a world in which the pass is known as it stands
  pub step-leads : (choice : Bool) → moving own ≡ true → (v : World) → known v.passes p ≡ own → after_move t v (Step p choice) ≡ stepped t v p own choice
  step-leads choice goes v k = (λ i. cond (moving (k i)) (stepped t v p (k i) choice) v) ∙ ap (λ b. cond b (stepped t v p own choice) v) goes

  pub here : p < length w.passes → known (set w.passes p own) p ≡ own
  here below = get_or-set_same w.passes p own (idle p) below

  -- after a move that only places the pass
  pub placed-leads : (choice : Bool) → moving own ≡ true → (m : Move) → after_move t w m ≡ placed_at w p own → p < length w.passes → after_changes t w (Moves m ∷ Moves (Step p choice) ∷ []) ≡ stepped t w p own choice
  placed-leads choice goes m is below = ap (λ (v : World). after_move t v (Step p choice)) is ∙ (step-leads choice goes (placed_at w p own) (here below)
      ∙ (λ i. record { words = (stepped t w p own choice).words; passes = set-twice w.passes p own (take t p own (look w.words (site (plan t p own))) choice) i }))

  -- the acquire and the release that the others haven't seen yet
  pub entered : (m : Mode) (seen : PassState) → seen.phase ≡ Idle → own ≡ record seen { phase = entry m; reg = record seen.reg { mode = m } } → known w.passes p ≡ seen → after_move t w (Acquire p m) ≡ placed_at w p own
  entered m seen f e k = (λ i. cond (is_idle (k i).phase) (placed_at w p (acquired m (k i))) w) ∙ ((λ i. cond (is_idle (f i)) (placed_at w p (cond (is_idle (f i)) (record seen { phase = entry m; reg = record seen.reg { mode = m } }) seen)) w) ∙ ap (λ (q : PassState). placed_at w p q) (sym e))

  pub left : (seen : PassState) → is_resting seen ≡ true → own ≡ record seen { phase = exit seen.reg.mode } → known w.passes p ≡ seen → after_move t w (Release p) ≡ placed_at w p own
  left seen r e k = (λ i. cond (is_resting (k i)) (placed_at w p (released (k i))) w) ∙ ((λ i. cond (r i) (placed_at w p (cond (r i) (record seen { phase = exit seen.reg.mode }) seen)) w) ∙ ap (λ (q : PassState). placed_at w p q) (sym e))

  module _ (seen : PassState) (at : get_elem? w.passes p ≡ some seen) where
    -- by the move that the others haven't seen yet the pass stands where it does
    pub stands : (as_seen : SeenAs t.form own seen) → known (after_changes t w (unseen_move p as_seen)).passes p ≡ own
    stands as_seen = let k = seen-at w.passes p seen (idle p) at in by as_seen k.0 k.1
      where
        by : (a : SeenAs t.form own seen) → known w.passes p ≡ seen → p < length w.passes → known (after_changes t w (unseen_move p a)).passes p ≡ own
        by (Alike e) k below = k ∙ sym e
        by (Enters m may f e) k below = ap (λ (v : World). known v.passes p) (entered m seen f e k) ∙ here below
        by (Leaves r e) k below = ap (λ (v : World). known v.passes p) (left seen r e k) ∙ here below

    -- the changes that a run of threads goes on with lead where the step leads
    pub step-changes-lead : (choice : Bool) → moving own ≡ true → (as_seen : SeenAs t.form own seen) → EachMayChange t.form (step_changes p choice as_seen) × (after_changes t w (step_changes p choice as_seen) ≡ stepped t w p own choice)
    step-changes-lead choice goes as_seen = let k = seen-at w.passes p seen (idle p) at in by as_seen k.0 k.1
      where
        by : (a : SeenAs t.form own seen) → known w.passes p ≡ seen → p < length w.passes → EachMayChange t.form (step_changes p choice a) × (after_changes t w (step_changes p choice a) ≡ stepped t w p own choice)
        by (Alike e) k below = ((tt, tt), step-leads choice goes w (k ∙ sym e))
        by (Enters m may f e) k below = ((may, (tt, tt)), placed-leads choice goes (Acquire p m) (entered m seen f e k) below)
        by (Leaves r e) k below = ((tt, (tt, tt)), placed-leads choice goes (Release p) (left seen r e k) below)
