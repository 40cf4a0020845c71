-- The programs of a policy as words.
use Rattle.std.specs.Prelude.{◌≡◌, ℕ, List, Option, Some, None, Ok, if◌then◌else◌, codes}
use Rattle.hex.specs.Hex.{encode_lower, decode_of, IsBytes}
use Rattle.policy_source.specs.Source.{SourceModel}
use Rattle.doc_text.specs.Words.{same, ◌>>?◌}
use Rattle.doc_text.specs.Digits.{bytes_in}

-- `-` for no program, else its bytes in hexadecimal digits
abbrev pub program_in : List ℕ → Option (Option (List ℕ))
program_in word = if same word (codes "-") then Some None else bytes_in word >>? λ bytes. Some (Some bytes)

-- both programs
abbrev pub source_in : List ℕ → List ℕ → Option SourceModel
source_in should skip = program_in should >>? λ a. program_in skip >>? λ b. Some (record { should = a; skip = b })

-- digits in lower case
abbrev pub program_word : Option (List ℕ) → List ℕ
program_word None = codes "-"
program_word (Some program) = encode_lower program

-- a word that writes the program: `-` for none, else its digits, in either case
abbrev pub IsProgramWord : Option (List ℕ) → List ℕ → Type 0
IsProgramWord None word = word ≡ codes "-"
IsProgramWord (Some bytes) word = decode_of word ≡ Ok bytes

-- a program that is there is made of bytes
abbrev pub IsBytesOf : Option (List ℕ) → Type 0
IsBytesOf None = Unit {0}
IsBytesOf (Some bytes) = IsBytes bytes
