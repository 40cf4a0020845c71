-- What the order asks of a round at Next, at Give and at Mark: each needs little to be shown.
use Rattle.std.proofs.Common.{◌≡◌, ◌≢◌, ℕ, suc, ◌<◌, ◌⊎◌, List, arith}
use Rattle.shfl_line.specs.Passes.{times}
use Rattle.shfl_core.specs.declared.phase.Phase.TheVariants.{Next, Give, Mark}
use Rattle.shfl_core.specs.declared.phase.Registers.{Registers}
use Rattle.shfl_core.specs.declared.phase.Nap.{Nap}
use Rattle.shfl_core.specs.Order.{Round}

module _ (next mark : ℕ → ℕ) (tail : ℕ) (line : List ℕ) (hand : ℕ) (r : Registers) (nap : Nap) (inside : 0 < times r.prev line) (free : (r.prev ≡ r.last) ⊎ (mark r.prev ≡ 0)) (empty : hand ≡ 0) where
  pub at-next : (r.prev ≢ r.last → next r.last ≡ suc r.first) → Round next mark tail line hand (record { phase = Next; reg = r; nap = nap })
  at-next first = record {
    prev_in = inside;
    prev_free = free;
    cand_next = λ h. absurd (grind arith);
    cand_inner = λ h. absurd (grind arith);
    first_next = λ h. first;
    first_cand = λ h. absurd (grind arith);
    apart = λ h. absurd (grind arith);
    after_next = λ h. absurd (grind arith);
    gap = λ h. absurd (grind arith);
    aimed = λ h. absurd (grind arith);
    hand_is = empty;
    marking = λ h. absurd (grind arith);
  }

  pub at-give : Round next mark tail line hand (record { phase = Give; reg = r; nap = nap })
  at-give = record {
    prev_in = inside;
    prev_free = free;
    cand_next = λ h. absurd (grind arith);
    cand_inner = λ h. absurd (grind arith);
    first_next = λ h. absurd (grind arith);
    first_cand = λ h. absurd (grind arith);
    apart = λ h. absurd (grind arith);
    after_next = λ h. absurd (grind arith);
    gap = λ h. absurd (grind arith);
    aimed = λ h. absurd (grind arith);
    hand_is = empty;
    marking = λ h. absurd (grind arith);
  }

  pub at-mark : (next r.last ≡ suc r.cand) × (mark r.cand ≡ 0) × (r.prev ≢ r.last → (next r.cand ≡ suc r.first) × (r.prev ≢ r.cand)) → Round next mark tail line hand (record { phase = Mark; reg = r; nap = nap })
  at-mark marking = record {
    prev_in = inside;
    prev_free = free;
    cand_next = λ h. absurd (grind arith);
    cand_inner = λ h. absurd (grind arith);
    first_next = λ h. absurd (grind arith);
    first_cand = λ h. absurd (grind arith);
    apart = λ h. absurd (grind arith);
    after_next = λ h. absurd (grind arith);
    gap = λ h. absurd (grind arith);
    aimed = λ h. absurd (grind arith);
    hand_is = empty;
    marking = λ _. marking;
  }
