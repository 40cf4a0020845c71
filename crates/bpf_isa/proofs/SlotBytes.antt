-- The eight bytes of a slot and its fields.
use Rattle.std.proofs.Common.{◌≡◌, ℕ, ◌+◌, ◌*◌, ◌/◌, ◌%◌, ◌<◌, ◌≤◌, ◌^◌, List, [], ◌∷◌, ◌++◌, length, get_or, drop, zero, suc, refl, sym, ap, ◌∙◌, arith}
use Rattle.std.specs.Int.{w16, w32, cast_signed, cast_unsigned, from_le_bytes, to_le_bytes}
use Rattle.std.proofs.lemmas.Int.{of_z-to_z}
use Rattle.std.proofs.Math.Facts.{sfits_to_z}
use Rattle.std.proofs.lemmas.List.{get_or-drop, drop-drop, length-drop}
use Rattle.std.proofs.lemmas.Nat.{le_bytes_2, le_bytes_4}
use Rattle.bpf_isa.specs.Slots.{raw_at, slot_bytes}
use Rattle.bpf_isa.proofs.Inverse.{InRange}

-- a list of bytes
abbrev pub IsBytes : List ℕ → Type 0
IsBytes bytes = (i : ℕ) → get_or bytes i 0 < 256

-- the first eight items, and those behind them
eight : (xs : List ℕ) → 8 ≤ length xs
    → xs ≡ get_or xs 0 0 ∷ get_or xs 1 0 ∷ get_or xs 2 0 ∷ get_or xs 3 0 ∷ get_or xs 4 0 ∷ get_or xs 5 0 ∷ get_or xs 6 0 ∷ get_or xs 7 0 ∷ drop 8 xs
eight (a ∷ b ∷ c ∷ d ∷ e ∷ f ∷ g ∷ h ∷ xs) long = refl
eight [] long = absurd (omega (arith, long))
eight (a ∷ []) long = absurd (omega (arith, long))
eight (a ∷ b ∷ []) long = absurd (omega (arith, long))
eight (a ∷ b ∷ c ∷ []) long = absurd (omega (arith, long))
eight (a ∷ b ∷ c ∷ d ∷ []) long = absurd (omega (arith, long))
eight (a ∷ b ∷ c ∷ d ∷ e ∷ []) long = absurd (omega (arith, long))
eight (a ∷ b ∷ c ∷ d ∷ e ∷ f ∷ []) long = absurd (omega (arith, long))
eight (a ∷ b ∷ c ∷ d ∷ e ∷ f ∷ g ∷ []) long = absurd (omega (arith, long))

-- the eight bytes from a place on
pub eight_at : (bytes : List ℕ) (at : ℕ) → at + 8 ≤ length bytes
    → drop at bytes ≡ get_or bytes at 0 ∷ get_or bytes (at + 1) 0 ∷ get_or bytes (at + 2) 0 ∷ get_or bytes (at + 3) 0 ∷ get_or bytes (at + 4) 0
    ∷ get_or bytes (at + 5) 0 ∷ get_or bytes (at + 6) 0 ∷ get_or bytes (at + 7) 0 ∷ drop (at + 8) bytes
eight_at bytes at long =
    let far : 8 ≤ length (drop at bytes) = omega (arith, length-drop at bytes) in
    let first : get_or (drop at bytes) 0 0 ≡ get_or bytes at 0 = get_or-drop at bytes 0 0 ∙ ap (λ (k : ℕ). get_or bytes k 0) (omega arith) in
    eight (drop at bytes) far
    ∙ rw (first, get_or-drop at bytes 1 0, get_or-drop at bytes 2 0, get_or-drop at bytes 3 0, get_or-drop at bytes 4 0, get_or-drop at bytes 5 0, get_or-drop at bytes 6 0, get_or-drop at bytes 7 0, drop-drop 8 at bytes) refl

two_bytes : (a b : ℕ) → a < 256 → b < 256 → from_le_bytes w16 (a ∷ b ∷ []) < 2 ^ 16
two_bytes a b x y = omega arith

four_bytes : (a b c d : ℕ) → a < 256 → b < 256 → c < 256 → d < 256 → from_le_bytes w32 (a ∷ b ∷ c ∷ d ∷ []) < 2 ^ 32
four_bytes a b c d x y z w = omega arith

are_two : (a b : ℕ) → a < 256 → b < 256 → (i : ℕ) → get_or (a ∷ b ∷ []) i 0 < 256
are_two a b x y zero = x
are_two a b x y (suc zero) = y
are_two a b x y (suc (suc i)) = omega arith

are_four : (a b c d : ℕ) → a < 256 → b < 256 → c < 256 → d < 256 → (i : ℕ) → get_or (a ∷ b ∷ c ∷ d ∷ []) i 0 < 256
are_four a b c d x y z w zero = x
are_four a b c d x y z w (suc zero) = y
are_four a b c d x y z w (suc (suc zero)) = z
are_four a b c d x y z w (suc (suc (suc zero))) = w
are_four a b c d x y z w (suc (suc (suc (suc i)))) = omega arith

offset_bytes : (a b : ℕ) → a < 256 → b < 256 → to_le_bytes w16 (cast_unsigned w16 (cast_signed w16 (from_le_bytes w16 (a ∷ b ∷ [])))) ≡ a ∷ b ∷ []
offset_bytes a b x y = ap (to_le_bytes w16) (of_z-to_z w16 _ (two_bytes a b x y)) ∙ le_bytes_2 (a ∷ b ∷ []) _ refl (are_two a b x y) refl

number_bytes : (a b c d : ℕ) → a < 256 → b < 256 → c < 256 → d < 256
    → to_le_bytes w32 (cast_unsigned w32 (cast_signed w32 (from_le_bytes w32 (a ∷ b ∷ c ∷ d ∷ [])))) ≡ a ∷ b ∷ c ∷ d ∷ []
number_bytes a b c d x y z w = ap (to_le_bytes w32) (of_z-to_z w32 _ (four_bytes a b c d x y z w)) ∙ le_bytes_4 (a ∷ b ∷ c ∷ d ∷ []) _ refl (are_four a b c d x y z w) refl

-- a slot's fields have its bytes
pub slot_bytes-raw_at : (bytes : List ℕ) (slot : ℕ) → IsBytes bytes → 8 * slot + 8 ≤ length bytes → slot_bytes (raw_at bytes slot) ++ drop (8 * slot + 8) bytes ≡ drop (8 * slot) bytes
unfolding slot_bytes raw_at
slot_bytes-raw_at bytes slot small long =
    let b = λ (k : ℕ). get_or bytes (8 * slot + k) 0 in
    let op : ℕ = get_or bytes (8 * slot) 0 in
    let at : (k : ℕ) → get_or bytes (8 * slot + k) 0 < 256 = λ k. small (8 * slot + k) in
    let registers : get_or bytes (8 * slot + 1) 0 % 16 + 16 * (get_or bytes (8 * slot + 1) 0 / 16) ≡ get_or bytes (8 * slot + 1) 0 = omega arith in
    let rest : List ℕ = drop (8 * slot + 8) bytes in
    ap (λ (k : ℕ). op ∷ k ∷ (to_le_bytes w16 (cast_unsigned w16 (raw_at bytes slot).off) ++ to_le_bytes w32 (cast_unsigned w32 (raw_at bytes slot).imm)) ++ rest) registers
    ∙ ap (λ (xs : List ℕ). op ∷ b 1 ∷ (xs ++ to_le_bytes w32 (cast_unsigned w32 (raw_at bytes slot).imm)) ++ rest) (offset_bytes (b 2) (b 3) (at 2) (at 3))
    ∙ ap (λ (xs : List ℕ). op ∷ b 1 ∷ b 2 ∷ b 3 ∷ xs ++ rest) (number_bytes (b 4) (b 5) (b 6) (b 7) (at 4) (at 5) (at 6) (at 7))
    ∙ sym (eight_at bytes (8 * slot) long)

-- the fields of a slot are within their types
pub raw_at_in_range : (bytes : List ℕ) (slot : ℕ) → IsBytes bytes → InRange (raw_at bytes slot)
unfolding raw_at
raw_at_in_range bytes slot small =
    let at : (k : ℕ) → get_or bytes (8 * slot + k) 0 < 256 = λ k. small (8 * slot + k) in
    record {
      op = small (8 * slot);
      off = sfits_to_z (record { fits = two_bytes _ _ (at 2) (at 3) });
      imm = sfits_to_z (record { fits = four_bytes _ _ _ _ (at 4) (at 5) (at 6) (at 7) });
    }

pub raw_at-op : (bytes : List ℕ) (slot : ℕ) → (raw_at bytes slot).op ≡ get_or bytes (8 * slot) 0
unfolding raw_at
raw_at-op bytes slot = refl
