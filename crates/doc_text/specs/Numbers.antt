-- Decimal numbers without a sign or a leading zero.
use Rattle.std.specs.Prelude.{ℕ, ◌+◌, ◌-◌, ◌*◌, List, [], ◌∷◌, Bool, true, false, ◌&&◌, not, Option, Some, None, min, nat_le, ◌==◌, if◌then◌else◌}
use Rattle.std.specs.Str.{all_ascii_digits}

-- the number that decimal digits write behind those of n
abbrev pub value_on : ℕ → List ℕ → ℕ
value_on n [] = n
value_on n (b ∷ bs) = value_on (n * 10 + (b - 48)) bs

-- no digit, or a zero in front of others
abbrev pub is_padded : List ℕ → Bool
is_padded [] = true
is_padded (b ∷ []) = false
is_padded (b ∷ c ∷ bs) = b == 48

-- a number that is well spelled, however large
abbrev pub is_decimal : List ℕ → Bool
is_decimal word = not (is_padded word) && all_ascii_digits word

-- the number, where the word is one of at most `most`
abbrev pub number_in : ℕ → List ℕ → Option ℕ
number_in most word = if is_decimal word && nat_le (value_on 0 word) most then Some (value_on 0 word) else None

-- the number that a well spelled word is, where `cap` stands for every larger one
abbrev pub capped_in : ℕ → List ℕ → Option ℕ
capped_in cap word = if is_decimal word then Some (min cap (value_on 0 word)) else None
