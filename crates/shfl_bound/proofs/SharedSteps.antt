-- A step of a pass that others see as idle is an acquire and a step; of one that they see as a holder, a release and a step.
use Rattle.std.proofs.Common.{◌≡◌, ℕ, ◌<◌, [], ◌∷◌, Bool, true, cond, length, refl, sym, ap, ◌∙◌}
use Rattle.shfl_line.specs.declared.events.LineEvent.{LineEvent}
use Rattle.shfl_line.specs.declared.events.LineEvent.TheVariants.{Nothing}
use Rattle.shfl_core.specs.declared.phase.PassState.{PassState}
use Rattle.shfl_core.specs.Words.{look, site}
use Rattle.shfl_core.specs.Plan.{plan, moving}
use Rattle.shfl_core.specs.Waiting.{idle}
use Rattle.shfl_core.specs.Worlds.{World, known, placed_at, stepped, Move, Acquire, Release, Step, after_move}
use Rattle.shfl_core.specs.Events.{event}
use Rattle.shfl_core.specs.Lawful.{Terms}
use Rattle.shfl_core.proofs.Lists.{seen-at}
use Rattle.shfl_laws.specs.Moves.{MayMove, move_event}
use Rattle.shfl_laws.specs.Seen.{SeenAs, Alike, Enters, Leaves}
use Rattle.shfl_laws.specs.Changes.{Moves}
use Rattle.shfl_laws.proofs.runs.OwnChanges.{here, step-leads, placed-leads, entered, left}
use Rattle.shfl_bound.specs.Departures.{left_before}
use Rattle.shfl_bound.specs.SharedSteps.{IsMadeOfChanges, SharedStepLaw}

module _ (t : Terms) (w : World) (p : ℕ) (own : PassState) (choice : Bool) (goes : moving own ≡ true) where
  abbrev E : LineEvent
  E = event t.rules p own (look w.words (site (plan t.rules p own)))

  abbrev W : World
  W = stepped t.rules w p own choice

  -- what the step shows in a world in which the pass is known as it stands
  step-shows : (v : World) → known v.passes p ≡ own → v.words ≡ w.words → move_event t.rules v (Step p choice) ≡ E
  step-shows v k same = (λ i. cond (moving (k i)) (event t.rules p (k i) (look (same i) (site (plan t.rules p (k i))))) Nothing) ∙ ap (λ b. cond b E Nothing) goes

  directly : known w.passes p ≡ own → IsMadeOfChanges t.rules w E W
  directly k = record {
    changes = Moves (Step p choice) ∷ [];
    may = (tt, tt);
    leads = step-leads t.rules w p own choice goes w k;
    leave = λ x. ap (λ (e : LineEvent). left_before x (e ∷ [])) (step-shows w k refl);
  }

  placed : (m : Move) → after_move t.rules w m ≡ placed_at w p own → move_event t.rules w m ≡ Nothing → p < length w.passes → MayMove t.rules.form m → IsMadeOfChanges t.rules w E W
  placed m is none below may = record {
    changes = Moves m ∷ Moves (Step p choice) ∷ [];
    may = (may, (tt, tt));
    leads = placed-leads t.rules w p own choice goes m is below;
    leave = λ x. (λ i. left_before x (none i ∷ move_event t.rules (is i) (Step p choice) ∷ [])) ∙ ap (λ (e : LineEvent). left_before x (e ∷ [])) (step-shows (placed_at w p own) (here t.rules w p own below) refl);
  }

pub shared-step-law : (t : Terms) → SharedStepLaw t
shared-step-law t w p own seen choice at alike goes = let k = seen-at w.passes p seen (idle p) at in by alike k.0 k.1
  where
    by : SeenAs t.rules.form own seen → known w.passes p ≡ seen → p < length w.passes → IsMadeOfChanges t.rules w (event t.rules p own (look w.words (site (plan t.rules p own)))) (stepped t.rules w p own choice)
    by (Alike e) k below = directly t w p own choice goes (k ∙ sym e)
    by (Enters m may f e) k below = placed t w p own choice goes (Acquire p m) (entered t.rules w p own m seen f e k) refl below may
    by (Leaves r e) k below = placed t w p own choice goes (Release p) (left t.rules w p own seen r e k) refl below tt
