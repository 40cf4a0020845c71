-- The fields of all slots of encoded instructions.
use Rattle.std.proofs.Common.{◌≡◌, ℕ, ℤ, pos, ◌+◌, ◌*◌, ◌/◌, ◌%◌, ◌<◌, zero, suc, List, [], ◌∷◌, ◌++◌, length, get_or, drop, Bool, true, false, refl, sym, ap, ◌∙◌, arith, append_assoc, FitsSigned}
use Rattle.std.specs.Int.{w16, w32, cast_signed, cast_unsigned, from_le_bytes, to_le_bytes}
use Rattle.std.specs.List.{flat_map}
use Rattle.std.proofs.lemmas.Bool.{false≢true, true≢false}
use Rattle.std.proofs.lemmas.Int.{to_z-of_z}
use Rattle.std.proofs.Math.Facts.{Fits-of_z}
use Rattle.std.proofs.lemmas.List.{get_or-drop, drop-drop, drop_more, drop_all}
use Rattle.std.proofs.lemmas.Nat.{from_le_bytes-to_le_bytes_2, from_le_bytes-to_le_bytes_4}
use Rattle.bpf_isa.specs.declared.insn.Insn.{Insn}
use Rattle.bpf_isa.specs.declared.insn.Insn.TheVariants as insn
use Rattle.bpf_isa.specs.declared.raw.Raw.{Raw}
use Rattle.bpf_isa.specs.Encoding.{raw, raw_of, encoding}
use Rattle.bpf_isa.specs.Flow.{insn_at, is_half, is_wide}
use Rattle.bpf_isa.specs.Slots.{raw_at, slot_bytes}
use Rattle.bpf_isa.specs.WellFormed.{IsWellFormed}
use Rattle.bpf_isa.proofs.Inverse.{same_raw}

-- the high half that an instruction leaves to the slot behind it
abbrev pub high_of : Insn → ℤ
high_of (insn.Wide dst low high) = high
high_of x = pos 0

-- the fields of a slot, a second half with the high half left to it
abbrev pub fields_of : ℤ → Insn → Raw
fields_of high insn.Half = raw 0 0 0 (pos 0) high
fields_of high x = raw_of x

abbrev pub raws_from : ℤ → List Insn → List Raw
raws_from high [] = []
raws_from high (x ∷ xs) = fields_of high x ∷ raws_from (high_of x) xs

-- each wide load has its second half behind it, and the first slot is one as half says
abbrev pub Shape : Bool → List Insn → Type 0
Shape half [] = half ≡ false
Shape half (x ∷ xs) = (is_half x ≡ half) × Shape (is_wide x) xs

shape_from : (half : Bool) (xs : List Insn) → (0 < length xs → is_half (insn_at xs 0) ≡ half) → (length xs ≡ 0 → half ≡ false)
    → ((slot : ℕ) → slot + 1 < length xs → is_half (insn_at xs (slot + 1)) ≡ is_wide (insn_at xs slot))
    → ((slot : ℕ) → slot + 1 ≡ length xs → is_wide (insn_at xs slot) ≡ false) → Shape half xs
shape_from half [] first none halves last = none refl
shape_from half (x ∷ xs) first none halves last = (
  first (omega arith),
  shape_from (is_wide x) xs (λ lt. halves 0 (omega (arith, lt))) (λ e. last 0 (omega (arith, e)))
      (λ slot lt. behind slot lt) (λ slot e. last (suc slot) (omega (arith, e))),
)
  where
    behind : (slot : ℕ) → slot + 1 < length xs → is_half (insn_at xs (slot + 1)) ≡ is_wide (insn_at xs slot)
    behind slot lt = ap (λ (k : ℕ). is_half (insn_at (x ∷ xs) k)) (sym (suc_one slot)) ∙ halves (suc slot) (omega (arith, lt))
      where
        suc_one : (slot : ℕ) → suc slot + 1 ≡ suc (slot + 1)
        suc_one slot = omega arith

pub well_shaped : (xs : List Insn) → IsWellFormed xs → Shape false xs
well_shaped xs f = shape_from false xs (λ _. f.first) (λ _. refl) f.halves f.last

-- a second half that is still to be written
abbrev pending : Bool → ℤ → List ℕ
pending true high = slot_bytes (raw 0 0 0 (pos 0) high)
pending false high = []

slots_encoded : (half : Bool) (high : ℤ) (xs : List Insn) → Shape half xs → pending half high ++ encoding xs ≡ flat_map slot_bytes (raws_from high xs)
slots_encoded true high [] shape = absurd (true≢false shape)
slots_encoded false high [] shape = refl
slots_encoded true high (insn.Half ∷ xs) shape = ap (λ (back : List ℕ). slot_bytes (raw 0 0 0 (pos 0) high) ++ back) (slots_encoded false (pos 0) xs shape.1)
slots_encoded false high (insn.Half ∷ xs) shape = absurd (true≢false shape.0)
slots_encoded true high (insn.Wide dst low next ∷ xs) shape = absurd (false≢true shape.0)
slots_encoded false high (insn.Wide dst low next ∷ xs) shape =
    append_assoc (slot_bytes (raw 0x18 dst 0 (pos 0) low)) (slot_bytes (raw 0 0 0 (pos 0) next)) (encoding xs)
    ∙ ap (λ (back : List ℕ). slot_bytes (raw 0x18 dst 0 (pos 0) low) ++ back) (slots_encoded true next xs shape.1)
slots_encoded true high (x ∷ xs) shape = absurd (false≢true shape.0)
slots_encoded false high (x ∷ xs) shape = ap (λ (back : List ℕ). slot_bytes (raw_of x) ++ back) (slots_encoded false (pos 0) xs shape.1)

-- the bytes of well-formed instructions are those of their slots
pub encoding_is_slots : (xs : List Insn) → IsWellFormed xs → encoding xs ≡ flat_map slot_bytes (raws_from (pos 0) xs)
encoding_is_slots xs f = slots_encoded false (pos 0) xs (well_shaped xs f)

pub length-raws_from : (high : ℤ) (xs : List Insn) → length (raws_from high xs) ≡ length xs
length-raws_from high [] = refl
length-raws_from high (x ∷ xs) = ap suc (length-raws_from (high_of x) xs)

pub length-slots : (rs : List Raw) → length (flat_map slot_bytes rs) ≡ 8 * length rs
unfolding slot_bytes
length-slots [] = refl
length-slots (r ∷ rs) = omega (arith, length-slots rs)

-- the high half that the slot before this one left to it
abbrev pub high_before : ℤ → List Insn → ℕ → ℤ
high_before high xs zero = high
high_before high xs (suc slot) = high_of (insn_at xs slot)

pub raws_at : (high : ℤ) (xs : List Insn) (slot : ℕ) (d : Raw) → slot < length xs → get_or (raws_from high xs) slot d ≡ fields_of (high_before high xs slot) (insn_at xs slot)
raws_at high [] slot d lt = absurd (omega (arith, lt))
raws_at high (x ∷ xs) zero d lt = refl
raws_at high (x ∷ xs) (suc zero) d lt = raws_at (high_of x) xs zero d (omega (arith, lt))
raws_at high (x ∷ xs) (suc (suc slot)) d lt = raws_at (high_of x) xs (suc slot) d (omega (arith, lt))

-- the bytes from a slot on
slots_from_on : (slot : ℕ) (rs : List Raw) → drop (8 * slot) (flat_map slot_bytes rs) ≡ flat_map slot_bytes (drop slot rs)
unfolding slot_bytes
slots_from_on zero rs = refl
slots_from_on (suc slot) [] = drop_all (8 * suc slot) [] (omega arith)
slots_from_on (suc slot) (r ∷ rs) =
    ap (λ (k : ℕ). drop k (slot_bytes r ++ flat_map slot_bytes rs)) (omega arith)
    ∙ sym (drop-drop (8 * slot) 8 (slot_bytes r ++ flat_map slot_bytes rs)) ∙ slots_from_on slot rs

-- the numbers of a slot are within their fields
pub record RawFits (r : Raw) : Type 0 where
  pub dst : r.dst < 16
  pub src : r.src < 16
  pub off : FitsSigned w16 r.off
  pub imm : FitsSigned w32 r.imm

signed_2 : (z : ℤ) → FitsSigned w16 z → cast_signed w16 (from_le_bytes w16 (to_le_bytes w16 (cast_unsigned w16 z))) ≡ z
signed_2 z f = ap (cast_signed w16) (from_le_bytes-to_le_bytes_2 (cast_unsigned w16 z) (Fits-of_z f).fits) ∙ to_z-of_z w16 z f

signed_4 : (z : ℤ) → FitsSigned w32 z → cast_signed w32 (from_le_bytes w32 (to_le_bytes w32 (cast_unsigned w32 z))) ≡ z
signed_4 z f = ap (cast_signed w32) (from_le_bytes-to_le_bytes_4 (cast_unsigned w32 z) (Fits-of_z f).fits) ∙ to_z-of_z w32 z f

raw_in_front : (r : Raw) (more : List ℕ) → RawFits r → raw_at (slot_bytes r ++ more) 0 ≡ r
unfolding raw_at slot_bytes
raw_in_front r more f = sym (same_raw (raw_at (slot_bytes r ++ more) 0) r.op r.dst r.src r.off r.imm refl (omega (arith, f.dst, f.src)) (omega (arith, f.dst, f.src)) (sym (signed_2 r.off f.off)) (sym (signed_4 r.imm f.imm)))

-- a slot's fields, from its eight bytes
abbrev fields : ℕ → ℕ → ℕ → ℕ → ℕ → ℕ → ℕ → ℕ → Raw
fields a b c d e f g h = raw a (b % 16) (b / 16) (cast_signed w16 (from_le_bytes w16 (c ∷ d ∷ []))) (cast_signed w32 (from_le_bytes w32 (e ∷ f ∷ g ∷ h ∷ [])))

raw_at-drop : (bytes : List ℕ) (slot : ℕ) → raw_at bytes slot ≡ raw_at (drop (8 * slot) bytes) 0
unfolding raw_at
raw_at-drop bytes slot = same (sym (get_or-drop at bytes 0 0 ∙ ap (λ (k : ℕ). get_or bytes k 0) (omega arith))) (byte 1) (byte 2) (byte 3) (byte 4) (byte 5) (byte 6) (byte 7)
  where
    at : ℕ
    at = 8 * slot

    byte : (k : ℕ) → get_or bytes (8 * slot + k) 0 ≡ get_or (drop at bytes) k 0
    byte k = sym (get_or-drop at bytes k 0)

    same : {a b c d e f g h a' b' c' d' e' f' g' h' : ℕ} → a ≡ a' → b ≡ b' → c ≡ c' → d ≡ d' → e ≡ e' → f ≡ f' → g ≡ g' → h ≡ h' → fields a b c d e f g h ≡ fields a' b' c' d' e' f' g' h'
    same p q r s t u v w = rw (p, q, r, s, t, u, v, w) refl

-- a slot of well-formed instructions has the fields of its instruction
pub raw_at-slots : (rs : List Raw) (slot : ℕ) (d : Raw) → slot < length rs → RawFits (get_or rs slot d) → raw_at (flat_map slot_bytes rs) slot ≡ get_or rs slot d
raw_at-slots rs slot d lt f =
    raw_at-drop (flat_map slot_bytes rs) slot
    ∙ ap (λ (bytes : List ℕ). raw_at bytes 0) (slots_from_on slot rs ∙ ap (flat_map slot_bytes) (drop_more rs slot d lt))
    ∙ raw_in_front (get_or rs slot d) (flat_map slot_bytes (drop (slot + 1) rs)) f
