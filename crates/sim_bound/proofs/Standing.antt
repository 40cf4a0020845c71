-- Sums in which one term changes, and which passes stand so that they give the lock back.
use Rattle.std.proofs.Common.{◌≡◌, ◌≢◌, ℕ, zero, suc, ◌+◌, ◌<◌, ◌≤◌, ◌==◌, Bool, true, false, cond, List, [], ◌∷◌, set, refl, sym, ap, ◌∙◌, Option, Some, None, arith}
use Rattle.std.proofs.lemmas.List.{get_or-set_other}
use Rattle.shfl_line.proofs.Chain
use Rattle.shfl_core.specs.Holding.{total}
use Rattle.shfl_core.specs.Words.{site}
use Rattle.shfl_core.specs.declared.words.Word.TheVariants.{Lock}
use Rattle.sim_setup.specs.declared.setup.Setup.{Setup}
use Rattle.sim_setup.specs.declared.setup.Costs.{Costs}
use Rattle.sim_setup.specs.Clock.{plus, later}
use Rattle.sim_setup.specs.Places.{is_load, rung, line_of}
use Rattle.sim_model.specs.declared.bench.Bench.{Bench}
use Rattle.sim_model.specs.declared.steps.Made.{Made}
use Rattle.sim_model.specs.declared.turns.Stand.{Stand}
use Rattle.sim_model.specs.declared.turns.Stand.TheVariants.{Due, Spins, Sleeps}
use Rattle.sim_model.specs.declared.turns.Turn.TheVariants.{Call, Step}
use Rattle.sim_model.specs.Steps.{raised, with_ring, with_touch, with_stand, touched_by, ended, settled}
use Rattle.sim_model.specs.Tries.{tried_at, pause_after, with_attempt}
use Rattle.sim_model.specs.Turns.{stand_at, woken, all_woken}
use Rattle.sim_model.proofs.Mapped.{mapped-either}
use Rattle.sim_bound.specs.Overtaken.{is_freeing}

pub total-below : (n : ℕ) (f g : ℕ → ℕ) → ((q : ℕ) → q < n → g q ≤ f q) → total n g ≤ total n f
total-below zero f g h = omega arith
total-below (suc n) f g h = let a = h n (omega arith) in let b = total-below n f g (λ q l. h q (omega arith)) in omega arith

-- where no other term rises
pub total-but : (n p : ℕ) (f g : ℕ → ℕ) → p < n → ((q : ℕ) → q < n → q ≢ p → g q ≤ f q) → total n g + f p ≤ total n f + g p
total-but zero p f g l h = absurd (omega arith)
total-but (suc n) p f g l h = Chain.by_eq n p
    (λ e. let a : f n ≡ f p = ap f e in let b : g n ≡ g p = ap g e in let c = total-below n f g (λ q k. h q (omega arith) (λ i. (let z : q ≡ n = i ∙ sym e in omega arith))) in omega arith)
    (λ d. let a = h n (omega arith) d in let b = total-but n p f g (omega arith) (λ q k i. h q (omega arith) i) in omega arith)

freeing-set : (l : List Stand) (i : ℕ) (v : Stand) (k : ℕ) → is_freeing v ≡ is_freeing (stand_at l i) → is_freeing (stand_at (set l i v) k) ≡ is_freeing (stand_at l k)
freeing-set [] i v k h = refl
freeing-set (x ∷ xs) zero v zero h = h
freeing-set (x ∷ xs) zero v (suc k) h = refl
freeing-set (x ∷ xs) (suc i) v zero h = refl
freeing-set (x ∷ xs) (suc i) v (suc k) h = freeing-set xs i v k h

freeing-woken : (line ends : ℕ) (x : Stand) → is_freeing (woken line ends x) ≡ is_freeing x
freeing-woken line ends (Due at turn) = refl
freeing-woken line ends (Sleeps from) = refl
freeing-woken line ends (Spins own since) = by (own == line)
  where
    by : (b : Bool) → is_freeing (cond b (Due (later ends since) Step) (Spins own since)) ≡ false
    by true = refl
    by false = refl

freeing-raised : (costs : Costs) (standing : List Stand) (whom : ℕ) (x : Stand) (ends k : ℕ) → x ≡ stand_at standing whom → is_freeing (stand_at (raised costs standing whom x ends) k) ≡ is_freeing (stand_at standing k)
freeing-raised costs standing whom (Due at turn) ends k e = refl
freeing-raised costs standing whom (Spins line since) ends k e = refl
freeing-raised costs standing whom (Sleeps from) ends k e = freeing-set standing whom (Due (plus (later (plus ends costs.wake) from) costs.rise) Step) k (ap is_freeing e)

freeing-ring : (costs : Costs) (standing : List Stand) (who : Option ℕ) (ends k : ℕ) → is_freeing (stand_at (with_ring costs standing who ends) k) ≡ is_freeing (stand_at standing k)
unfolding with_ring
freeing-ring costs standing None ends k = refl
freeing-ring costs standing (Some whom) ends k = freeing-raised costs standing whom (stand_at standing whom) ends k refl

module _ (s : Setup) (b : Bench) (p at : ℕ) (m : Made) where
  freeing-touch : (k : ℕ) → is_freeing (stand_at (with_touch s b p m at).stands k) ≡ is_freeing (stand_at b.stands k)
  unfolding with_touch
  freeing-touch k = let line = line_of s.layout (site m.access) in let ends = (touched_by s b p m at).ends in
      elim (is_load m.access) as (λ l. is_freeing (stand_at (cond l b.stands (all_woken s.passes line ends b.stands)) k) ≡ is_freeing (stand_at b.stands k)) [
        | true ↦ refl
        | false ↦ mapped-either (λ y. is_freeing y ≡ is_freeing (stand_at b.stands k)) (woken line ends) b.stands s.passes k (Sleeps 0) refl (freeing-woken line ends (stand_at b.stands k))
      ]

  -- a step of the pass p leaves who gives the lock back
  pub freeing-settled : (k : ℕ) → k ≢ p → is_freeing (stand_at (settled s b p m at).stands k) ≡ is_freeing (stand_at b.stands k)
  unfolding with_stand
  freeing-settled k apart = let ends = ended s.costs m (touched_by s b p m at).ends in
      ap is_freeing (get_or-set_other (with_ring s.costs (with_touch s b p m at).stands (rung m.access) ends) p k _ (Sleeps 0) apart)
      ∙ (freeing-ring s.costs (with_touch s b p m at).stands (rung m.access) ends k ∙ freeing-touch k)

  -- and who is served
  pub served-settled : (settled s b p m at).served ≡ b.served
  unfolding with_stand with_touch
  served-settled = refl

-- so does an attempt in vain of one whose turn it was to call
pub freeing-attempt : (s : Setup) (b : Bench) (p tried at k : ℕ) → is_freeing (stand_at b.stands p) ≡ false
    → is_freeing (stand_at (with_attempt s b p tried at).stands k) ≡ is_freeing (stand_at b.stands k)
unfolding with_attempt
freeing-attempt s b p tried at k calls =
    let line = line_of s.layout Lock in
    let ends = (tried_at s b p at).ends in
    let others = all_woken s.passes line ends b.stands in
    let up : Stand = Due (plus (plus ends s.costs.local) (pause_after s.tries tried)) (Call (tried + 1)) in
    let same : (q : ℕ) → is_freeing (stand_at others q) ≡ is_freeing (stand_at b.stands q) =
    λ q. mapped-either (λ y. is_freeing y ≡ is_freeing (stand_at b.stands q)) (woken line ends) b.stands s.passes q (Sleeps 0) refl (freeing-woken line ends (stand_at b.stands q)) in
    freeing-set others p up k (sym (same p ∙ calls)) ∙ same k
