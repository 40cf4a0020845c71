-- What decoding gives encodes to the bytes, and is well formed.
use Rattle.std.proofs.Common.{◌≡◌, ◌≢◌, ℕ, pos, ◌+◌, ◌*◌, ◌<◌, ◌≤◌, suc, List, [], ◌∷◌, ◌++◌, length, get_or, drop, Bool, true, false, not, ◌&&◌, ◌==◌, Ok, refl, sym, ap, ◌∙◌, arith, subst, append_assoc}
use Rattle.std.proofs.lemmas.Bool.{false≢true, lt-ltb}
use Rattle.std.proofs.lemmas.List.{drop_all}
use Rattle.bpf_isa.specs.declared.insn.Insn.{Insn}
use Rattle.bpf_isa.specs.declared.insn.Insn.TheVariants as insn
use Rattle.bpf_isa.specs.declared.insn.Profile.{Profile}
use Rattle.bpf_isa.specs.declared.raw.Raw.{Raw}
use Rattle.bpf_isa.specs.Decoding.{half_at, decoding}
use Rattle.bpf_isa.specs.Encoding.{insn_bytes, encoding}
use Rattle.bpf_isa.specs.Flow.{insn_at, is_half, is_wide}
use Rattle.bpf_isa.specs.Slots.{raw_at, is_second_half, slot_bytes}
use Rattle.bpf_isa.specs.WellFormed.{IsWellFormed, IsOf}
use Rattle.bpf_isa.proofs.Decoded.{Decoded, decoded}
use Rattle.bpf_isa.proofs.Facts.{SlotFacts, slot_facts}
use Rattle.bpf_isa.proofs.Halves.{half-step, half-zero}
use Rattle.bpf_isa.proofs.SlotBytes.{IsBytes, slot_bytes-raw_at}

-- the bytes from a slot on, without those of a second half
abbrev rest_at : Bool → List ℕ → ℕ → List ℕ
rest_at false bytes slot = drop (8 * slot) bytes
rest_at true bytes slot = drop (8 * (slot + 1)) bytes

half_has_none : (x : Insn) → is_half x ≡ true → insn_bytes x ≡ []
half_has_none insn.Half h = refl
half_has_none x h = absurd (false≢true h)

slot_before : (bytes : List ℕ) (slot : ℕ) → IsBytes bytes → 8 * slot + 8 ≤ length bytes → slot_bytes (raw_at bytes slot) ++ drop (8 * (slot + 1)) bytes ≡ drop (8 * slot) bytes
slot_before bytes slot small long = ap (λ (k : ℕ). slot_bytes (raw_at bytes slot) ++ drop k bytes) (omega arith) ∙ slot_bytes-raw_at bytes slot small long

half_after : (bytes : List ℕ) (slot : ℕ) → is_second_half bytes slot ≡ true → is_second_half bytes (slot + 1) ≡ false
half_after bytes slot h = half-step bytes slot ∙ ap (λ (b : Bool). not b && (get_or bytes (8 * slot) 0 == 0x18)) h

encoded_from : (p : Profile) (bytes : List ℕ) (count : ℕ) (xs : List Insn) (slot : ℕ) → IsBytes bytes → slot + length xs ≡ count → 8 * count ≡ length bytes
    → ((k : ℕ) → k < length xs → SlotFacts p bytes count (slot + k) (insn_at xs k)) → encoding xs ≡ rest_at (is_second_half bytes slot) bytes slot
encoded_from p bytes count [] slot small end whole facts = nothing (is_second_half bytes slot)
  where
    nothing : (half : Bool) → [] ≡ rest_at half bytes slot
    nothing true = sym (drop_all (8 * (slot + 1)) bytes (omega arith))
    nothing false = sym (drop_all (8 * slot) bytes (omega arith))
encoded_from p bytes count (x ∷ xs) slot small end whole facts = step (is_second_half bytes slot) refl (is_wide x) refl
    (encoded_from p bytes count xs (slot + 1) small (omega arith) whole (λ k lt. subst (λ (j : ℕ). SlotFacts p bytes count j (insn_at xs k)) (omega arith) (facts (suc k) (omega (arith, lt)))))
  where
    here : SlotFacts p bytes count slot x
    here = subst (λ (j : ℕ). SlotFacts p bytes count j x) (omega arith) (facts 0 (omega arith))

    fits : 8 * slot + 8 ≤ length bytes
    fits = omega arith

    next : slot + 1 < count → SlotFacts p bytes count (slot + 1) (insn_at (x ∷ xs) 1)
    next lt = facts 1 (omega (arith, lt))

    step : (half : Bool) → is_second_half bytes slot ≡ half → (wide : Bool) → is_wide x ≡ wide → encoding xs ≡ rest_at (is_second_half bytes (slot + 1)) bytes (slot + 1) → encoding (x ∷ xs) ≡ rest_at half bytes slot
    step true h w is_w others = ap (λ (front : List ℕ). front ++ encoding xs) (half_has_none x (here.half ∙ h)) ∙ others ∙ ap (λ (b : Bool). rest_at b bytes (slot + 1)) (half_after bytes slot h)
    step false h false is_w others =
        ap (λ (front : List ℕ). front ++ encoding xs) (here.plain_bytes (here.half ∙ h) is_w)
        ∙ ap (λ (back : List ℕ). slot_bytes (raw_at bytes slot) ++ back) (others ∙ ap (λ (b : Bool). rest_at b bytes (slot + 1)) (sym here.wide ∙ is_w))
        ∙ slot_before bytes slot small fits
    step false h true is_w others =
        let not_last : slot + 1 ≢ count = here.not_last is_w in
        let second = next (omega (arith, not_last)) in
        let fields = second.half_fields (second.half ∙ sym here.wide ∙ is_w) in
        let behind : encoding xs ≡ drop (8 * (slot + 1 + 1)) bytes = others ∙ ap (λ (b : Bool). rest_at b bytes (slot + 1)) (sym here.wide ∙ is_w) in
        ap (λ (front : List ℕ). front ++ encoding xs) (here.wide_bytes is_w ∙ ap (λ (r : Raw). slot_bytes (raw_at bytes slot) ++ slot_bytes r) fields)
        ∙ ap (λ (back : List ℕ). (slot_bytes (raw_at bytes slot) ++ slot_bytes (raw_at bytes (slot + 1))) ++ back) behind
        ∙ append_assoc (slot_bytes (raw_at bytes slot)) (slot_bytes (raw_at bytes (slot + 1))) (drop (8 * (slot + 1 + 1)) bytes)
        ∙ ap (λ (back : List ℕ). slot_bytes (raw_at bytes slot) ++ back) (slot_before bytes (slot + 1) small (omega (arith, not_last)))
        ∙ slot_before bytes slot small fits

all_facts : (p : Profile) (bytes : List ℕ) (xs : List Insn) → IsBytes bytes → Decoded p bytes xs → (slot : ℕ) → slot < length xs → SlotFacts p bytes (length xs) slot (insn_at xs slot)
all_facts p bytes xs small d slot lt = slot_facts p bytes (length xs) slot (insn_at xs slot) small (d.each slot lt)

-- what decoding gives encodes to the bytes
pub encoding-decoding : (p : Profile) (bytes : List ℕ) (xs : List Insn) → IsBytes bytes → decoding p bytes ≡ Ok xs → encoding xs ≡ bytes
encoding-decoding p bytes xs small e =
    let d = decoded p bytes xs e in
    encoded_from p bytes (length xs) xs 0 small (omega arith) d.whole (λ k lt. subst (λ (j : ℕ). SlotFacts p bytes (length xs) j (insn_at xs k)) (omega arith) (all_facts p bytes xs small d k lt))
    ∙ ap (λ (b : Bool). rest_at b bytes 0) (sym (half-zero bytes))

-- what decoding gives is well formed
pub decoding_is_well_formed : (p : Profile) (bytes : List ℕ) (xs : List Insn) → IsBytes bytes → decoding p bytes ≡ Ok xs → IsWellFormed xs
decoding_is_well_formed p bytes xs small e =
    let d = decoded p bytes xs e in
    let facts = all_facts p bytes xs small d in
    record {
      some = d.some;
      few = d.few;
      fields = λ slot lt. (facts slot lt).fields;
      first = (facts 0 d.some).half ∙ sym (half-zero bytes);
      halves = λ slot lt. (facts (slot + 1) lt).half ∙ sym (facts slot (omega (arith, lt))).wide;
      last = λ slot end. never (is_wide (insn_at xs slot)) (λ w. (facts slot (omega (arith, end))).not_last w end);
      targets = λ slot place off lt jump leads inside. (facts place inside).half ∙ target_half bytes (length xs) place inside (ap (half_at bytes (length xs)) (sym leads) ∙ (facts slot lt).no_half_target off jump);
    }
  where
    never : (b : Bool) → (b ≡ true → ⊥) → b ≡ false
    never true h = absurd (h refl)
    never false h = refl

    target_half : (bytes : List ℕ) (count place : ℕ) → place < count → half_at bytes count (pos place) ≡ false → is_second_half bytes place ≡ false
    target_half bytes count place lt h = ap (λ (b : Bool). b && is_second_half bytes place) (sym (lt-ltb place count lt)) ∙ h

pub decoding_is_of : (p : Profile) (bytes : List ℕ) (xs : List Insn) → IsBytes bytes → decoding p bytes ≡ Ok xs → IsOf p xs
decoding_is_of p bytes xs small e = λ slot lt. (all_facts p bytes xs small (decoded p bytes xs e) slot lt).owned
