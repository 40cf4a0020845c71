-- Hexadecimal digits, two a byte, the high four bits first.
use Rattle.std.specs.Prelude.{ℕ, List, Option}
use Rattle.std.specs.Result.{result_ok}
use Rattle.hex.specs.Hex.{decode_of}

-- the bytes, where the word is an even number of digits in either case
abbrev pub bytes_in : List ℕ → Option (List ℕ)
bytes_in word = result_ok (decode_of word)
