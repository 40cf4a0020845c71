-- How registers, numbers, names and places are spelled.
use Rattle.std.specs.Prelude.{ℕ, ℤ, pos, ◌-◌, ◌^◌, List, [], ◌∷◌, length, Bool, ◌&&◌, ◌||◌, Result, Ok, Err, nat_le, ◌==◌, neg_ℤ, if◌then◌else◌}
use Rattle.std.specs.List.{list_all}
use Rattle.bpf_isa.specs.declared.insn.Operand.{Operand}
use Rattle.bpf_isa.specs.declared.insn.Operand.TheVariants as operand
use Rattle.doc_text.specs.Numbers.{is_decimal, value_on}
use Rattle.bpf_isa.specs.Checks.{◌>>=◌}
use Rattle.bpf_asm.specs.Faults.{no_form, no_register, out_of_range}

-- a well-spelled number of at most this
abbrev pub magnitude_in : ℕ → List ℕ → Result ℕ ℕ
magnitude_in most word = if is_decimal word then (if nat_le (value_on 0 word) most then Ok (value_on 0 word) else Err out_of_range) else Err no_form

-- the number below 0 of this magnitude; there is no minus in front of 0
abbrev pub below_zero : ℕ → Result ℤ ℕ
below_zero n = if n == 0 then Err no_form else Ok (neg_ℤ (pos n))

-- a number from minus low to high, with a minus in front where it is below 0
abbrev pub signed_in : ℕ → ℕ → List ℕ → Result ℤ ℕ
signed_in low high [] = Err no_form
signed_in low high (b ∷ bs) = if b == 45 then (magnitude_in low bs >>= below_zero) else (magnitude_in high (b ∷ bs) >>= λ n. Ok (pos n))

-- the ranges of the fields of 16 and 32 bits
abbrev pub short_in : List ℕ → Result ℤ ℕ
short_in word = signed_in (2 ^ 15) (2 ^ 15 - 1) word

abbrev pub long_in : List ℕ → Result ℤ ℕ
long_in word = signed_in (2 ^ 31) (2 ^ 31 - 1) word

-- a number of 64 bits without a sign; one below 0 is out of its range
abbrev pub wide_in : List ℕ → Result ℕ ℕ
wide_in [] = Err no_form
wide_in (b ∷ bs) = if b == 45 then (magnitude_in 0 bs >>= λ n. Err no_form) else magnitude_in (2 ^ 64 - 1) (b ∷ bs)

-- the number of a register, 0 to 9
abbrev pub register_number : List ℕ → Result ℕ ℕ
register_number digits = if is_decimal digits then (if nat_le (value_on 0 digits) 9 then Ok (value_on 0 digits) else Err no_register) else Err no_form

-- `r` and its number
abbrev pub register_in : List ℕ → Result ℕ ℕ
register_in [] = Err no_form
register_in (b ∷ bs) = if b == 114 then register_number bs else Err no_form

-- a register, where the word begins with `r`, else a number of 32 bits
abbrev pub source_in : List ℕ → Result Operand ℕ
source_in [] = Err no_form
source_in (b ∷ bs) = if b == 114 then (register_number bs >>= λ r. Ok (operand.Reg r)) else (long_in (b ∷ bs) >>= λ n. Ok (operand.Imm n))

-- `a` to `z`, `0` to `9`, `_`
abbrev pub is_name_byte : ℕ → Bool
is_name_byte b = (nat_le 97 b && nat_le b 122) || (nat_le 48 b && nat_le b 57) || (b == 95)

-- 1 to 32 such bytes
abbrev pub is_name : List ℕ → Bool
is_name name = nat_le 1 (length name) && nat_le (length name) 32 && list_all is_name_byte name

-- where a jump leads: over so many slots, or to a named slot
pub data Place : Type 0 where
  By : ℤ → Place
  To : List ℕ → Place

abbrev pub place_in : (List ℕ → Result ℤ ℕ) → List ℕ → Result Place ℕ
place_in number [] = Err no_form
place_in number (b ∷ bs) = if b == 64 then (if is_name bs then Ok (Place.To bs) else Err no_form) else (number (b ∷ bs) >>= λ off. Ok (Place.By off))
