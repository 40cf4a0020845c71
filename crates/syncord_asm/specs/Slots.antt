-- The slots of a program as digits.
use Rattle.std.specs.Prelude.{ℕ, ◌*◌, ◌/◌, List, length, take, drop}
use Rattle.std.specs.List.{flat_map, range_with_len}
use Rattle.hex.specs.Hex.{encode_lower}
use Rattle.doc_text.specs.Text.{ended}

-- the eight bytes of a slot
abbrev pub slot_at : List ℕ → ℕ → List ℕ
slot_at bytes slot = take 8 (drop (8 * slot) bytes)

-- bytes as a line of hexadecimal digits in lower case, two a byte
abbrev pub digits_line : List ℕ → List ℕ
digits_line bytes = ended (encode_lower bytes)

-- each slot of the bytes as a line of its sixteen digits
abbrev pub slot_lines : List ℕ → List ℕ
slot_lines bytes = flat_map (λ slot. digits_line (slot_at bytes slot)) (range_with_len 0 (length bytes / 8))
