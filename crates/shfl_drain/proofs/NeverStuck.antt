-- In every lawful world all passes are idle, or somebody acts; and where all are idle, the lock is free and empty.
use Rattle.std.proofs.Common.{◌≡◌, ℕ, ◌<◌, false, length, ap, inl, inr, ⊎_elim, arith}
use Rattle.std.specs.Prelude.{◌&&◌, not}
use Rattle.shfl_core.specs.declared.phase.Phase.TheVariants.{Idle}
use Rattle.shfl_core.specs.declared.phase.PassState.{PassState}
use Rattle.shfl_core.specs.Plan.{is_idle, is_resting}
use Rattle.shfl_core.specs.Waiting.{idle}
use Rattle.shfl_core.specs.Worlds.{World, known}
use Rattle.shfl_core.specs.Lawful.{Terms}
use Rattle.shfl_core.proofs.Lists.{past, below-or}
use Rattle.shfl_drain.specs.GoingOn.{waits, goes_on}
use Rattle.shfl_drain.specs.Progress.{GoesOn, MayFree, NeverStuck, FreeAtRest}
use Rattle.shfl_drain.proofs.Bools.{search-below}
use Rattle.shfl_drain.proofs.Quiet.{at-rest, free-and-empty}

-- no pass stands past the last
goes-below : (w : World) → ((p : ℕ) → p < length w.passes → goes_on w p ≡ false) → (p : ℕ) → goes_on w p ≡ false
goes-below w f p = ⊎_elim (λ h. f p h) (λ h. ap (λ (q : PassState). not (is_idle q.phase) && not (is_resting q) && not (waits w p)) (past w.passes p (idle p) h)) (below-or p (length w.passes))

rests-below : (w : World) → ((p : ℕ) → p < length w.passes → is_resting (known w.passes p) ≡ false) → (p : ℕ) → is_resting (known w.passes p) ≡ false
rests-below w f p = ⊎_elim (λ h. f p h) (λ h. ap is_resting (past w.passes p (idle p) h)) (below-or p (length w.passes))

pub never-stuck : (t : Terms) → NeverStuck t
never-stuck t w ok = ⊎_elim
    (λ g. inr (GoesOn g.0 g.1 g.2))
    (λ f. ⊎_elim
    (λ g. inr (MayFree g.0 g.1 g.2))
    (λ g. inl (at-rest t w ok (goes-below w f) (rests-below w g)))
    (search-below (λ p. is_resting (known w.passes p)) (length w.passes)))
    (search-below (goes_on w) (length w.passes))

pub free-at-rest : (t : Terms) → FreeAtRest t
free-at-rest t w ok rest = free-and-empty t w ok
    (λ p. ap (λ f. not (is_idle f) && not (is_resting (known w.passes p)) && not (waits w p)) (rest p))
    (λ p. by (known w.passes p) (rest p))
  where
    by : (q : PassState) → q.phase ≡ Idle → is_resting q ≡ false
    by q e = grind (arith, e)
