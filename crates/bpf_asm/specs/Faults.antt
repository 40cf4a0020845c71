-- Faults of a line, by their numbers, the lowest first.
use Rattle.std.specs.Prelude.{ℕ, Option, Some, None, Result, Ok, Err, min}

-- a line of no form, a register above 9, a number out of its range
abbrev pub no_form : ℕ
no_form = 2

abbrev pub no_register : ℕ
no_register = 3

abbrev pub out_of_range : ℕ
out_of_range = 4

-- both values, or the lowest fault of the two
abbrev pub both : {A B : Type 0} → Result A ℕ → Result B ℕ → Result (A × B) ℕ
both (Ok a) (Ok b) = Ok (a, b)
both (Ok a) (Err e) = Err e
both (Err d) (Ok b) = Err d
both (Err d) (Err e) = Err (min d e)

-- what is found, or a line of no form
abbrev pub found : {A B : Type 0} → Option A → (A → Result B ℕ) → Result B ℕ
found None f = Err no_form
found (Some x) f = f x
