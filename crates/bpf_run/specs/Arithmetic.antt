-- What an operation makes of two values of a width, by RFC 9669 section 4.1: unsigned, wrapping and total.
use Rattle.std.specs.Prelude.{ℕ, ◌+◌, ◌-◌, ◌*◌, ◌/◌, ◌%◌, ◌^◌, ◌==◌, Bool, if◌then◌else◌, int_lt, int_le}
use Rattle.std.specs.Int.{Width, cast_signed, cast_unsigned, int_shr, swap_bytes}
use mir.Val.{bits}

-- the low bits of a value that the width keeps
abbrev pub low : Width → ℕ → ℕ
low w a = a % 2 ^ bits w

abbrev pub sum : Width → ℕ → ℕ → ℕ
sum w a b = (a + b) % 2 ^ bits w

abbrev pub difference : Width → ℕ → ℕ → ℕ
difference w a b = (a + (2 ^ bits w - b)) % 2 ^ bits w

abbrev pub product : Width → ℕ → ℕ → ℕ
product w a b = (a * b) % 2 ^ bits w

-- division is unsigned, and by 0 it gives 0
abbrev pub quotient : ℕ → ℕ → ℕ
quotient a b = if b == 0 then 0 else a / b

-- modulo is unsigned, and by 0 it leaves the dividend
abbrev pub remainder : ℕ → ℕ → ℕ
remainder a b = if b == 0 then a else a % b

-- a shift count is taken below the number of bits
abbrev pub shifted_left : Width → ℕ → ℕ → ℕ
shifted_left w a b = (a * 2 ^ (b % bits w)) % 2 ^ bits w

abbrev pub shifted_right : Width → ℕ → ℕ → ℕ
shifted_right w a b = a / 2 ^ (b % bits w)

-- the shift that fills with the sign
abbrev pub shifted_signed : Width → ℕ → ℕ → ℕ
shifted_signed w a b = cast_unsigned w (int_shr (cast_signed w a) (b % bits w))

-- a value of the first width as a signed number, at the second
abbrev pub extended : Width → Width → ℕ → ℕ
extended from w a = cast_unsigned w (cast_signed from a)

-- the low bits of a value with their bytes reversed
abbrev pub reversed : Width → ℕ → ℕ
reversed w a = swap_bytes w (low w a)

abbrev pub signed_lt : Width → ℕ → ℕ → Bool
signed_lt w a b = int_lt (cast_signed w a) (cast_signed w b)

abbrev pub signed_le : Width → ℕ → ℕ → Bool
signed_le w a b = int_le (cast_signed w a) (cast_signed w b)
