-- Hexadecimal digits with blanks anywhere between them.
use Rattle.std.specs.Prelude.{ℕ, ◌+◌, List, [], ◌∷◌, ◌++◌, Bool, ◌||◌, Result, Ok, ◌==◌, if◌then◌else◌}
use Rattle.hex.specs.Hex.{is_hex_digit}
use Rattle.doc_text.specs.declared.fault.Fault.{Fault}
use Rattle.doc_text.specs.Digits.{bytes_in}
use Rattle.doc_text.specs.Faults.{fault, ◌>>=◌, or_fault}

-- space, tab, carriage return or line feed
abbrev pub is_blank : ℕ → Bool
is_blank b = b == 32 || b == 9 || b == 13 || b == 10

-- the line that the byte behind this one stands on
abbrev pub line_behind : ℕ → ℕ → ℕ
line_behind line b = if b == 10 then line + 1 else line

-- the digits behind those before, and the line where the bytes end; any byte but a digit or a blank is fault 1 of its line
unfoldable pub digits_from : List ℕ → ℕ → List ℕ → Result (List ℕ × ℕ) Fault
digits_from before line [] = Ok (before, line)
digits_from before line (b ∷ bs) = if is_hex_digit b then digits_from (before ++ b ∷ []) line bs else if is_blank b then digits_from before (line_behind line b) bs else fault line 1

-- the bytes that the digits write, two a byte; a digit left over is fault 2 of the last line
unfoldable pub spread_bytes : List ℕ → Result (List ℕ) Fault
spread_bytes input = digits_from [] 1 input >>= λ found. or_fault found.1 2 (bytes_in found.0)
