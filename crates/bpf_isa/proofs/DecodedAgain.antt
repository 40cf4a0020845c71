-- The bytes of well-formed instructions decode to them, slot after slot.
use Rattle.std.proofs.Common.{◌≡◌, ◌≢◌, ℕ, ℤ, pos, negsuc, ◌+◌, ◌*◌, ◌/◌, ◌%◌, ◌<◌, ◌≤◌, suc, List, [], ◌∷◌, length, true, false, ◌==◌, nat_lt, Option, Some, None, Ok, refl, sym, ap, ◌∙◌, arith, inl, inr}
use Rattle.std.proofs.lemmas.Bool.{false≢true, true≢false, le-leb, lt-ltb, le-ltb, ne_eqb, cases_lt}
use Rattle.bpf_isa.specs.declared.insn.Insn.{Insn}
use Rattle.bpf_isa.specs.declared.insn.Insn.TheVariants as insn
use Rattle.bpf_isa.specs.declared.insn.Profile.{Profile}
use Rattle.bpf_isa.specs.declared.raw.Raw.{Raw}
use Rattle.bpf_isa.specs.Decoding.{half_at, into_half, slot_in, slots_from, decoding}
use Rattle.bpf_isa.specs.Encoding.{raw_of, encoding}
use Rattle.bpf_isa.specs.Flow.{insn_at, is_half, is_wide, jump_offset, target}
use Rattle.bpf_isa.specs.Slots.{raw_at, is_second_half}
use Rattle.bpf_isa.specs.WellFormed.{IsWellFormed, IsOf, HasFields, has}
use Rattle.bpf_isa.proofs.Raws.{high_of, fields_of, raws_from, high_before, encoding_is_slots, length-raws_from, length-slots}
use Rattle.bpf_isa.proofs.TableAgain.{insn_again, wide_opcode}
use Rattle.bpf_isa.proofs.EncodedAgain.{slot_fields, halves_again}

plain_slot : (p : Profile) (bytes : List ℕ) (count slot : ℕ) (x : Insn) → is_second_half bytes slot ≡ false → raw_at bytes slot ≡ raw_of x → is_half x ≡ false → is_wide x ≡ false
    → HasFields x → has p x ≡ true → into_half bytes count slot (jump_offset x) ≡ false → slot_in p bytes count slot ≡ Ok x
unfolding slot_in
plain_slot p bytes count slot x h r no_half no_wide fields owned into =
    rw (h, r, wide_opcode x, no_wide, insn_again p x fields owned no_half no_wide, into) refl

read_slot : (p : Profile) (bytes : List ℕ) (count slot : ℕ) (high : ℤ) (x : Insn) → is_second_half bytes slot ≡ is_half x → raw_at bytes slot ≡ fields_of high x
    → HasFields x → has p x ≡ true → (is_wide x ≡ true → ((slot + 1 == count) ≡ false) × ((raw_at bytes (slot + 1)).imm ≡ high_of x))
    → into_half bytes count slot (jump_offset x) ≡ false → slot_in p bytes count slot ≡ Ok x
unfolding slot_in
read_slot p bytes count slot high insn.Half h r fields owned behind into = rw (h, r) refl
read_slot p bytes count slot high (insn.Wide dst low next) h r fields owned behind into =
    rw (h, r, le-leb dst 9 fields.0, (behind refl).0, (behind refl).1) refl
read_slot p bytes count slot high x h r fields owned behind into = plain_slot p bytes count slot x h r refl refl fields owned into

half_has : (high : ℤ) (x : Insn) → is_half x ≡ true → (fields_of high x).imm ≡ high
half_has high insn.Half h = refl
half_has high x h = absurd (false≢true h)

-- no jump leads into a second half of the bytes
no_target : (xs : List Insn) (slot : ℕ) (offset : Option ℤ) → IsWellFormed xs → slot < length xs → jump_offset (insn_at xs slot) ≡ offset → into_half (encoding xs) (length xs) slot offset ≡ false
no_target xs slot None f lt e = refl
no_target xs slot (Some off) f lt e = outside (target slot off) refl
  where
    outside : (place : ℤ) → target slot off ≡ place → half_at (encoding xs) (length xs) place ≡ false
    outside (negsuc n) t = refl
    outside (pos place) t = elim (cases_lt place (length xs)) [
      | inl inside ↦ rw (lt-ltb place (length xs) inside, halves_again xs place f inside, f.targets slot place off lt e t inside) refl
      | inr past ↦ rw (le-ltb place (length xs) past) refl
    ]

each_again : (p : Profile) (xs : List Insn) (slot : ℕ) → IsWellFormed xs → IsOf p xs → slot < length xs → slot_in p (encoding xs) (length xs) slot ≡ Ok (insn_at xs slot)
each_again p xs slot f o lt = read_slot p (encoding xs) (length xs) slot (high_before (pos 0) xs slot) (insn_at xs slot)
    (halves_again xs slot f lt) (slot_fields xs slot f lt) (f.fields slot lt) (o slot lt) behind (no_target xs slot (jump_offset (insn_at xs slot)) f lt refl)
  where
    one : slot + 1 ≡ suc slot
    one = omega arith

    behind : is_wide (insn_at xs slot) ≡ true → ((slot + 1 == length xs) ≡ false) × ((raw_at (encoding xs) (slot + 1)).imm ≡ high_of (insn_at xs slot))
    behind w =
        let not_last : slot + 1 ≢ length xs = λ e. true≢false (sym w ∙ f.last slot e) in
        let inside : slot + 1 < length xs = omega (arith, not_last) in (
          ne_eqb (slot + 1) (length xs) not_last,
          ap (λ (r : Raw). r.imm) (slot_fields xs (slot + 1) f inside)
              ∙ half_has (high_before (pos 0) xs (slot + 1)) (insn_at xs (slot + 1)) (f.halves slot inside ∙ w)
              ∙ ap (high_before (pos 0) xs) one,
        )

slots_again : (p : Profile) (bytes : List ℕ) (count slot : ℕ) (xs : List Insn) → ((k : ℕ) → k < length xs → slot_in p bytes count (slot + k) ≡ Ok (insn_at xs k)) → slots_from p bytes count slot (length xs) ≡ Ok xs
unfolding slots_from
slots_again p bytes count slot [] each = refl
slots_again p bytes count slot (x ∷ xs) each =
    let first : slot_in p bytes count slot ≡ Ok x = ap (slot_in p bytes count) (omega arith) ∙ each 0 (omega arith) in
    let others = slots_again p bytes count (slot + 1) xs (λ k lt. ap (slot_in p bytes count) (omega arith) ∙ each (suc k) (omega (arith, lt))) in
    rw (first, others) refl

-- the bytes of well-formed instructions of a profile decode to them
pub decoding-encoding : (p : Profile) (xs : List Insn) → IsWellFormed xs → IsOf p xs → decoding p (encoding xs) ≡ Ok xs
decoding-encoding p xs f o =
    let long : length (encoding xs) ≡ 8 * length xs = ap length (encoding_is_slots xs f) ∙ length-slots (raws_from (pos 0) xs) ∙ ap (λ (n : ℕ). 8 * n) (length-raws_from (pos 0) xs) in
    let some : 0 < length xs = f.some in
    let few : length xs ≤ 512 = f.few in
    let not_empty : (length (encoding xs) == 0) ≡ false = ne_eqb (length (encoding xs)) 0 (λ e. absurd (omega (arith, e))) in
    let even : nat_lt 0 (length (encoding xs) % 8) ≡ false = le-ltb 0 (length (encoding xs) % 8) (omega arith) in
    let short : nat_lt 4096 (length (encoding xs)) ≡ false = le-ltb 4096 (length (encoding xs)) (omega arith) in
    let count : length (encoding xs) / 8 ≡ length xs = omega arith in
    rw (not_empty, even, short, count) (slots_again p (encoding xs) (length xs) 0 xs (λ k lt. ap (slot_in p (encoding xs) (length xs)) (omega arith) ∙ each_again p xs k f o lt))
