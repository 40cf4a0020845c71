-- The slots of bytes, eight bytes each, and their fields.
use Rattle.std.specs.Prelude.{◌≡◌, ◌<◌, length, slice_index_or, ℕ, zero, suc, ◌+◌, ◌*◌, ◌/◌, ◌%◌, List, [], ◌∷◌, ◌++◌, Bool, false, ◌&&◌, not, ◌==◌, slice_index}
use Rattle.std.specs.Int.{w16, w32, cast_signed, cast_unsigned, from_le_bytes, to_le_bytes}
use Rattle.bpf_isa.specs.declared.raw.Raw.{Raw}

-- the fields of a slot
unfoldable pub raw_at : List ℕ → ℕ → Raw
raw_at bytes slot = record {
  op = slice_index bytes (8 * slot);
  dst = slice_index bytes (8 * slot + 1) % 16;
  src = slice_index bytes (8 * slot + 1) / 16;
  off = cast_signed w16 (from_le_bytes w16 (slice_index bytes (8 * slot + 2) ∷ slice_index bytes (8 * slot + 3) ∷ []));
  imm = cast_signed w32 (from_le_bytes w32 (slice_index bytes (8 * slot + 4) ∷ slice_index bytes (8 * slot + 5) ∷ slice_index bytes (8 * slot + 6) ∷ slice_index bytes (8 * slot + 7) ∷ []));
}

-- a slot is a second half where the slot before it isn't one and has the opcode of a wide load
unfoldable pub is_second_half : List ℕ → ℕ → Bool
is_second_half bytes zero = false
is_second_half bytes (suc slot) = not (is_second_half bytes slot) && (slice_index bytes (8 * slot) == 0x18)

-- the marks are those of the second halves
abbrev pub MarksHalves : List Bool → List ℕ → Type 0
MarksHalves marks bytes = (slot : ℕ) → slot < length marks → slice_index_or marks slot false ≡ is_second_half bytes slot

-- the eight bytes of a slot with these fields
unfoldable pub slot_bytes : Raw → List ℕ
slot_bytes raw = raw.op ∷ (raw.dst + 16 * raw.src) ∷ to_le_bytes w16 (cast_unsigned w16 raw.off) ++ to_le_bytes w32 (cast_unsigned w32 raw.imm)
