-- What decoding gives as a whole: so many slots, each with its instruction.
use Rattle.std.proofs.Common.{◌≡◌, ℕ, ◌+◌, ◌*◌, ◌/◌, ◌%◌, ◌<◌, ◌≤◌, zero, suc, List, ◌∷◌, length, false, ◌==◌, nat_lt, Result, Ok, Err, refl, sym, ap, ◌∙◌, arith, subst}
use Rattle.std.proofs.lemmas.Bool.{cond_both, eqb-false, ltb-false}
use Rattle.bpf_isa.specs.declared.error.IsaError.{IsaError}
use Rattle.bpf_isa.specs.declared.fault.SlotFault.{SlotFault}
use Rattle.bpf_isa.specs.declared.insn.Insn.{Insn}
use Rattle.bpf_isa.specs.declared.insn.Profile.{Profile}
use Rattle.bpf_isa.specs.Decoding.{in_front, slot_in, slots_from, decoding}
use Rattle.bpf_isa.specs.Flow.{insn_at}

-- so many slots from this one on have these instructions
pub record Reads (p : Profile) (bytes : List ℕ) (count slot left : ℕ) (xs : List Insn) : Type 0 where
  pub left_is : length xs ≡ left
  pub each : (k : ℕ) → k < length xs → slot_in p bytes count (slot + k) ≡ Ok (insn_at xs k)

abbrev ReadsOk : Profile → List ℕ → ℕ → ℕ → ℕ → Result (List Insn) IsaError → Type 0
ReadsOk p bytes count slot left (Ok xs) = Reads p bytes count slot left xs
ReadsOk p bytes count slot left (Err e) = Unit {0}

one_more : (p : Profile) (bytes : List ℕ) (count slot left : ℕ) (first : Result Insn SlotFault) (others : Result (List Insn) IsaError)
    → slot_in p bytes count slot ≡ first → ReadsOk p bytes count (slot + 1) left others → ReadsOk p bytes count slot (suc left) (in_front slot first others)
one_more p bytes count slot left (Err fault) others e h = tt
one_more p bytes count slot left (Ok x) (Err fault) e h = tt
one_more p bytes count slot left (Ok x) (Ok xs) e h = record { left_is = ap suc h.left_is; each = each }
  where
    each : (k : ℕ) → k < length (x ∷ xs) → slot_in p bytes count (slot + k) ≡ Ok (insn_at (x ∷ xs) k)
    each zero lt = ap (slot_in p bytes count) (omega arith) ∙ e
    each (suc k) lt = ap (slot_in p bytes count) (omega arith) ∙ h.each k (omega (arith, lt))

slots_read : (p : Profile) (bytes : List ℕ) (count slot left : ℕ) → ReadsOk p bytes count slot left (slots_from p bytes count slot left)
unfolding slots_from
slots_read p bytes count slot zero = record { left_is = refl; each = λ k lt. absurd (omega (arith, lt)) }
slots_read p bytes count slot (suc left) = one_more p bytes count slot left (slot_in p bytes count slot) (slots_from p bytes count (slot + 1) left) refl (slots_read p bytes count (slot + 1) left)

-- the slots of bytes that decode
pub record Decoded (p : Profile) (bytes : List ℕ) (xs : List Insn) : Type 0 where
  pub whole : 8 * length xs ≡ length bytes
  pub some : 0 < length xs
  pub few : length xs ≤ 512
  pub each : (slot : ℕ) → slot < length xs → slot_in p bytes (length xs) slot ≡ Ok (insn_at xs slot)

abbrev DecodedOk : Profile → List ℕ → Result (List Insn) IsaError → Type 0
DecodedOk p bytes (Ok xs) = Decoded p bytes xs
DecodedOk p bytes (Err e) = Unit {0}

whole_read : (p : Profile) (bytes : List ℕ) (read : Result (List Insn) IsaError) → (length bytes == 0) ≡ false → nat_lt 0 (length bytes % 8) ≡ false → nat_lt 4096 (length bytes) ≡ false
    → ReadsOk p bytes (length bytes / 8) 0 (length bytes / 8) read → DecodedOk p bytes read
whole_read p bytes (Err e) a b c h = tt
whole_read p bytes (Ok xs) a b c h =
    let even : length bytes % 8 ≤ 0 = ltb-false 0 (length bytes % 8) b in
    let short : length bytes ≤ 4096 = ltb-false 4096 (length bytes) c in
    let all : 8 * length xs ≡ length bytes = omega (arith, h.left_is) in
    record {
      whole = all;
      some = omega (arith, eqb-false (length bytes) 0 a);
      few = omega arith;
      each = λ slot lt. subst (λ (count : ℕ). slot_in p bytes count slot ≡ Ok (insn_at xs slot)) (sym h.left_is) (ap (slot_in p bytes (length bytes / 8)) (omega arith) ∙ h.each slot lt);
    }

pub decoded : (p : Profile) (bytes : List ℕ) (xs : List Insn) → decoding p bytes ≡ Ok xs → Decoded p bytes xs
decoded p bytes xs e = subst (DecodedOk p bytes) e
    (cond_both (length bytes == 0) _ _ (DecodedOk p bytes) (λ _. tt) (λ a.
    cond_both (nat_lt 0 (length bytes % 8)) _ _ (DecodedOk p bytes) (λ _. tt) (λ b.
    cond_both (nat_lt 4096 (length bytes)) _ _ (DecodedOk p bytes) (λ _. tt) (λ c.
    whole_read p bytes (slots_from p bytes (length bytes / 8) 0 (length bytes / 8)) a b c (slots_read p bytes (length bytes / 8) 0 (length bytes / 8))))))
