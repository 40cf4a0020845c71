-- Worked programs: what their bytes compute, on any context.
use Rattle.std.specs.Prelude.{◌≡◌, ℕ, List, [], ◌∷◌, ◌++◌}
use Rattle.std.specs.Int.{w64, to_be_bytes}
use Rattle.std.specs.List.{flat_map}
use Rattle.bpf_run.specs.Meaning.{outcome_of_bytes}

-- the eight bytes of a slot, written as one number in the order of its bytes
abbrev pub slot : ℕ → List ℕ
slot n = to_be_bytes w64 n

-- the slots and then an exit
abbrev pub bytes_of : List ℕ → List ℕ
bytes_of slots = flat_map slot (slots ++ 0x9500000000000000 ∷ [])

abbrev pub Computes : List ℕ → ℕ → ℕ → Type 0
Computes slots value count = (context : List ℕ) → outcome_of_bytes (bytes_of slots) context ≡ record { value = value; count = count }

pub record WorkedPrograms : Type 0 where
  pub divide_by_zero : Computes (0xb700000007000000 ∷ 0x3700000000000000 ∷ []) 0 3
  pub modulo_zero : Computes (0xb700000007000000 ∷ 0x9700000000000000 ∷ []) 7 3
  pub modulo_zero_clears_the_upper_half : Computes (0xb7000000ffffffff ∷ 0x9400000000000000 ∷ []) 4294967295 3
  pub shift_by_64 : Computes (0xb700000001000000 ∷ 0x6700000040000000 ∷ []) 1 3
  pub shift_by_32_at_32 : Computes (0xb7000000ffffffff ∷ 0x6400000020000000 ∷ []) 4294967295 3
  pub add_wraps_at_32 : Computes (0xb7000000ffffffff ∷ 0x0400000001000000 ∷ []) 0 3
  pub divide_by_minus_one : Computes (0xb7000000ffffffff ∷ 0x37000000ffffffff ∷ []) 1 3
  pub arithmetic_shift : Computes (0xb7000000f8ffffff ∷ 0xc700000001000000 ∷ []) 18446744073709551612 3
  pub wide_load : Computes (0x1800000001000000 ∷ 0x0000000002000000 ∷ []) 8589934593 2

-- the instructions that profile two adds
pub record WorkedExtensions : Type 0 where
  pub move_extends_a_byte : Computes (0xb700000080000000 ∷ 0xbf00080000000000 ∷ []) 18446744073709551488 3
  pub move_extends_at_32 : Computes (0xb700000080000000 ∷ 0xbc00080000000000 ∷ []) 4294967168 3
  pub swap_of_16 : Computes (0xb700000034120000 ∷ 0xd700000010000000 ∷ []) 13330 3
  pub big_endian_of_32 : Computes (0xb700000078563412 ∷ 0xdc00000020000000 ∷ []) 2018915346 3
  pub little_endian_of_16 : Computes (0xb7000000ffffffff ∷ 0xd400000010000000 ∷ []) 65535 3
