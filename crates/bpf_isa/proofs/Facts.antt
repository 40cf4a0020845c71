-- What is known of the instruction that decoding gives for a slot.
use Rattle.std.proofs.Common.{◌≡◌, ◌≢◌, ℕ, ℤ, pos, ◌+◌, List, ◌++◌, Bool, true, false, ◌&&◌, ◌==◌, nat_le, Some, Result, Ok, Err, refl, sym, ap, ◌∙◌, subst}
use Rattle.std.proofs.lemmas.Bool.{cond_both, and_parts, leb-true, eqb-true, eqb-false, false≢true, true≢false}
use Rattle.bpf_isa.specs.declared.fault.SlotFault.{SlotFault}
use Rattle.bpf_isa.specs.declared.insn.Insn.{Insn}
use Rattle.bpf_isa.specs.declared.insn.Insn.TheVariants as insn
use Rattle.bpf_isa.specs.declared.insn.Profile.{Profile}
use Rattle.bpf_isa.specs.declared.raw.Raw.{Raw}
use Rattle.bpf_isa.specs.Decoding.{half_at, into_half, half_in, wide_in, unless, slot_in}
use Rattle.bpf_isa.specs.Encoding.{raw, raw_of, insn_bytes}
use Rattle.bpf_isa.specs.Flow.{is_half, is_wide, jump_offset, target}
use Rattle.bpf_isa.specs.Slots.{raw_at, is_second_half, slot_bytes}
use Rattle.bpf_isa.specs.Checks.{is_zero, ◌>>=◌}
use Rattle.bpf_isa.specs.Table.{insn_in}
use Rattle.bpf_isa.specs.WellFormed.{HasFields, has}
use Rattle.bpf_isa.proofs.Halves.{half-step}
use Rattle.bpf_isa.proofs.Inverse.{Sound, same_raw, zero_is, old_form}
use Rattle.bpf_isa.proofs.InverseTable.{insn_sound}
use Rattle.bpf_isa.proofs.SlotBytes.{IsBytes, raw_at_in_range, raw_at-op}

pub record SlotFacts (p : Profile) (bytes : List ℕ) (count slot : ℕ) (x : Insn) : Type 0 where
  pub half : is_half x ≡ is_second_half bytes slot
  pub wide : is_wide x ≡ is_second_half bytes (slot + 1)
  pub fields : HasFields x
  pub owned : has p x ≡ true
  pub not_last : is_wide x ≡ true → slot + 1 ≢ count
  pub no_half_target : (off : ℤ) → jump_offset x ≡ Some off → half_at bytes count (target slot off) ≡ false
  pub half_fields : is_half x ≡ true → raw 0 0 0 (pos 0) (raw_at bytes slot).imm ≡ raw_at bytes slot
  pub plain_bytes : is_half x ≡ false → is_wide x ≡ false → insn_bytes x ≡ slot_bytes (raw_at bytes slot)
  pub wide_bytes : is_wide x ≡ true → insn_bytes x ≡ slot_bytes (raw_at bytes slot) ++ slot_bytes (raw 0 0 0 (pos 0) (raw_at bytes (slot + 1)).imm)

abbrev Facts : Profile → List ℕ → ℕ → ℕ → Result Insn SlotFault → Type 0
Facts p bytes count slot (Ok x) = SlotFacts p bytes count slot x
Facts p bytes count slot (Err e) = Unit {0}

plain_bytes : (x : Insn) → is_half x ≡ false → is_wide x ≡ false → insn_bytes x ≡ slot_bytes (raw_of x)
plain_bytes insn.Half h w = absurd (true≢false h)
plain_bytes (insn.Wide dst low high) h w = absurd (true≢false w)
plain_bytes x h w = refl

half_facts : (p : Profile) (bytes : List ℕ) (count slot : ℕ) → is_second_half bytes slot ≡ true → Facts p bytes count slot (half_in (raw_at bytes slot))
half_facts p bytes count slot h =
    cond_both ((r.op == 0) && (r.dst == 0) && (r.src == 0) && is_zero r.off) _ _ (Facts p bytes count slot) (λ e.
    let three = and_parts ((r.op == 0) && (r.dst == 0) && (r.src == 0)) (is_zero r.off) e in
    let two = and_parts ((r.op == 0) && (r.dst == 0)) (r.src == 0) three.0 in
    let one = and_parts (r.op == 0) (r.dst == 0) two.0 in
    record {
      half = sym h;
      wide = sym (half-step bytes slot ∙ rw h refl);
      fields = tt;
      owned = old_form p insn.Half refl;
      not_last = λ w. absurd (false≢true w);
      no_half_target = λ off j. absurd (cc);
      half_fields = λ _. same_raw r 0 0 0 (pos 0) r.imm (sym (eqb-true r.op 0 one.0)) (sym (eqb-true r.dst 0 one.1)) (sym (eqb-true r.src 0 two.1)) (zero_is r.off three.1) refl;
      plain_bytes = λ f _. absurd (true≢false f);
      wide_bytes = λ w. absurd (false≢true w);
    }) (λ _. tt)
  where
    r : Raw
    r = raw_at bytes slot

-- a slot that has the opcode of a wide load and isn't a second half comes before one
before_half : (bytes : List ℕ) (slot : ℕ) → is_second_half bytes slot ≡ false → is_second_half bytes (slot + 1) ≡ ((raw_at bytes slot).op == 0x18)
before_half bytes slot h = half-step bytes slot ∙ rw (h, raw_at-op bytes slot) refl

wide_facts : (p : Profile) (bytes : List ℕ) (count slot : ℕ) → IsBytes bytes → is_second_half bytes slot ≡ false → ((raw_at bytes slot).op == 0x18) ≡ true → Facts p bytes count slot (wide_in bytes count slot (raw_at bytes slot))
wide_facts p bytes count slot small h e =
    cond_both (nat_le r.dst 9) _ _ (λ m. Facts p bytes count slot (m >>= unless (slot + 1 == count))) (λ dst.
    cond_both ((r.src == 0) && is_zero r.off) _ _ (λ m. Facts p bytes count slot (m >>= unless (slot + 1 == count))) (λ zeros.
    whole dst (and_parts (r.src == 0) (is_zero r.off) zeros) (slot + 1 == count) refl) (λ _. tt)) (λ _. tt)
  where
    r : Raw
    r = raw_at bytes slot

    x : Insn
    x = insn.Wide r.dst r.imm (raw_at bytes (slot + 1)).imm

    same : ((r.src == 0) ≡ true) × (is_zero r.off ≡ true) → raw 0x18 r.dst 0 (pos 0) r.imm ≡ r
    same zeros = same_raw r 0x18 r.dst 0 (pos 0) r.imm (sym (eqb-true r.op 0x18 e)) refl (sym (eqb-true r.src 0 zeros.0)) (zero_is r.off zeros.1) refl

    whole : nat_le r.dst 9 ≡ true → ((r.src == 0) ≡ true) × (is_zero r.off ≡ true) → (last : Bool) → (slot + 1 == count) ≡ last → Facts p bytes count slot (unless last x)
    whole dst zeros true is_last = tt
    whole dst zeros false is_last = record {
      half = sym h;
      wide = sym (before_half bytes slot h ∙ e);
      fields = (leb-true r.dst 9 dst, (raw_at_in_range bytes slot small).imm, (raw_at_in_range bytes (slot + 1) small).imm);
      owned = old_form p x refl;
      not_last = λ _. eqb-false (slot + 1) count is_last;
      no_half_target = λ off j. absurd (cc);
      half_fields = λ f. absurd (false≢true f);
      plain_bytes = λ _ w. absurd (true≢false w);
      wide_bytes = λ _. ap (λ (raw_slot : Raw). slot_bytes raw_slot ++ slot_bytes (raw 0 0 0 (pos 0) (raw_at bytes (slot + 1)).imm)) (same zeros);
    }

plain_facts : (p : Profile) (bytes : List ℕ) (count slot : ℕ) → is_second_half bytes slot ≡ false → ((raw_at bytes slot).op == 0x18) ≡ false
    → (found : Result Insn SlotFault) → Sound p (raw_at bytes slot) found → Facts p bytes count slot (found >>= λ x. unless (into_half bytes count slot (jump_offset x)) x)
plain_facts p bytes count slot h e (Err fault) s = tt
plain_facts p bytes count slot h e (Ok x) s = whole (into_half bytes count slot (jump_offset x)) refl
  where
    whole : (into : Bool) → into_half bytes count slot (jump_offset x) ≡ into → Facts p bytes count slot (unless into x)
    whole true into = tt
    whole false into = record {
      half = s.no_half ∙ sym h;
      wide = s.no_wide ∙ sym (before_half bytes slot h ∙ e);
      fields = s.fields;
      owned = s.owned;
      not_last = λ w. absurd (false≢true (sym s.no_wide ∙ w));
      no_half_target = λ off j. ap (into_half bytes count slot) (sym j) ∙ into;
      half_fields = λ f. absurd (false≢true (sym s.no_half ∙ f));
      plain_bytes = λ f w. plain_bytes x f w ∙ ap slot_bytes s.same;
      wide_bytes = λ w. absurd (false≢true (sym s.no_wide ∙ w));
    }

pub slot_facts : (p : Profile) (bytes : List ℕ) (count slot : ℕ) (x : Insn) → IsBytes bytes → slot_in p bytes count slot ≡ Ok x → SlotFacts p bytes count slot x
unfolding slot_in
slot_facts p bytes count slot x small read = subst (Facts p bytes count slot) read
    (cond_both (is_second_half bytes slot) _ _ (Facts p bytes count slot) (half_facts p bytes count slot) (λ h.
    cond_both ((raw_at bytes slot).op == 0x18) _ _ (Facts p bytes count slot) (wide_facts p bytes count slot small h) (λ e.
    plain_facts p bytes count slot h e (insn_in p (raw_at bytes slot)) (insn_sound p (raw_at bytes slot) (raw_at_in_range bytes slot small)))))
