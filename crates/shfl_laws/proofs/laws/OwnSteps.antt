-- The step of a pass in whatever phase and park state, and of one that stands at `own` where others see it at `seen`.
use Rattle.std.proofs.Common.{◌≡◌, ℕ, zero, suc, Bool, List, [], ◌∷◌, set, refl, ap, ◌∙◌, subst}
use mathlib.Core.Option.{some}
use lib.ListN.{get_elem?}
use Rattle.shfl_line.specs.declared.events.LineEvent.{LineEvent}
use Rattle.shfl_line.specs.declared.events.LineEvent.TheVariants.{Nothing}
use Rattle.shfl_line.specs.Line.{Line}
use Rattle.shfl_line.specs.Steps.{Admits, after}
use Rattle.shfl_core.specs.declared.phase.PassState.{PassState}
use Rattle.shfl_core.specs.Words.{look, index, site, put}
use Rattle.shfl_core.specs.Plan.{plan}
use Rattle.shfl_core.specs.Take.{take}
use Rattle.shfl_core.specs.Worlds.{World, placed_at, stepped}
use Rattle.shfl_core.specs.Events.{event}
use Rattle.shfl_core.specs.Lawful.{Terms, Lawful, Advances}
use Rattle.shfl_core.proofs.Lists.{set-twice}
use Rattle.shfl_laws.specs.Moves.{StepLaw}
use Rattle.shfl_laws.specs.Seen.{SeenAs, OwnStepLaw, OwnRangeLaw}
use Rattle.shfl_laws.proofs.laws.InRange.{in-range-law}
use Rattle.shfl_laws.proofs.laws.Laws.{laws}
use Rattle.shfl_laws.proofs.laws.MoveLaws.{any-step}
use Rattle.shfl_laws.proofs.laws.SeenAs.{seen-law}

pub step-law : (t : Terms) → StepLaw t
step-law t w p q choice ok at = any-step t (laws t) w p q choice ok at

-- what stands where a place was written
pub set-at : {A : Type 0} (l : List A) (i : ℕ) (a b : A) → get_elem? l i ≡ some a → get_elem? (set l i b) i ≡ some b
set-at [] i a b e = absurd (cc)
set-at (x ∷ xs) zero a b e = refl
set-at (x ∷ xs) (suc i) a b e = set-at xs i a b e

module _ (t : Terms) (w : World) (p : ℕ) (own seen : PassState) (ok : Lawful t w) (at : get_elem? w.passes p ≡ some seen) (as_seen : SeenAs t.rules.form own seen) where
  -- with the pass as it stands
  stands : Advances t w ok Nothing (placed_at w p own)
  stands = seen-law t w p own seen ok at as_seen

  stands-at : get_elem? (set w.passes p own) p ≡ some own
  stands-at = set-at w.passes p seen own at

  pub own-step : (choice : Bool) → Advances t w ok (event t.rules p own (look w.words (site (plan t.rules p own)))) (stepped t.rules w p own choice)
  own-step choice = let a = stands in let n : ℕ = look w.words (site (plan t.rules p own)) in let e : LineEvent = event t.rules p own n in
      let b = step-law t (placed_at w p own) p own choice a.lawful stands-at in
      let c : Advances t (placed_at w p own) a.lawful e (stepped t.rules w p own choice) = subst (λ (l : List PassState). Advances t (placed_at w p own) a.lawful e
      (record { words = set w.words (index (site (plan t.rules p own))) (put (plan t.rules p own) n); passes = l })) (set-twice w.passes p own (take t.rules p own n choice)) b in
      record {
        lawful = c.lawful;
        admitted = subst (λ (s : Line). Admits t.rules.limit s e) a.shown c.admitted;
        shown = c.shown ∙ ap (λ (s : Line). after s e) a.shown;
      }

pub own-step-law : (t : Terms) → OwnStepLaw t
own-step-law t w p own seen ok at as_seen choice = own-step t w p own seen ok at as_seen choice

pub own-range : (t : Terms) → OwnRangeLaw t
own-range t w p own seen ok at as_seen = in-range-law t (placed_at w p own) p own (stands t w p own seen ok at as_seen).lawful (stands-at t w p own seen ok at as_seen)
