-- A round that a step begins is short.
use Rattle.std.proofs.Common.{◌≡◌, ℕ, Bool, true, refl, sym, ap, ◌∙◌, subst, eq-eqb, arith}
use Rattle.std.specs.Prelude.{◌&&◌}
use Rattle.shfl_core.specs.Plan.{is_awake}
use Rattle.shfl_core.specs.Worlds.{known, Step}
use Rattle.shfl_core.specs.Runner.{Lock, moved}
use Rattle.shfl_laws.specs.Rounds.{is_own}
use Rattle.shfl_laws.proofs.laws.Laws.{laws}
use Rattle.shfl_laws.proofs.rounds.MeasureRounds.{rounds-short}
use Rattle.shfl_world.specs.LawfulLock.{IsLawfulLock, terms_of}
use Rattle.shfl_world.proofs.Facts.{full}
use Rattle.shfl_solo.specs.Steps.{BeginsShortRound}

pub begins-short : (lock old new : Lock) (p : ℕ) (choice : Bool) → IsLawfulLock lock → lock ≡ old → new ≡ moved lock (Step p choice) → BeginsShortRound old p new
begins-short lock old new p choice ok is e = subst (λ (z : Lock × Lock). BeginsShortRound z.0 p z.1) (λ j. (is j, sym e j)) short
  where
    own : is_awake (known lock.world.passes p).nap ≡ true → is_own lock.world p (Step p choice) ≡ true
    own awake = ap (λ b. b && is_awake (known lock.world.passes p).nap) (eq-eqb p p refl) ∙ awake

    short : BeginsShortRound lock p (moved lock (Step p choice))
    short begins awake moves may = let law = rounds-short laws (terms_of lock) lock.world ok p (Step p choice) moves tt may begins (own awake) in let e = full lock ok in omega arith
