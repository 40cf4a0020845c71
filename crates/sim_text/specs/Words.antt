-- Words of a line, one behind the other.
use Rattle.std.specs.Prelude.{ℕ, List, [], ◌∷◌, Option, Some, None, if◌then◌else◌}
use Rattle.doc_text.specs.Words.{words, same, ◌>>?◌}
use Rattle.doc_text.specs.Numbers.{number_in}

-- the words of a text, or of none
abbrev pub words_left : Option (List ℕ) → List (List ℕ)
words_left None = []
words_left (Some text) = words text

-- a number of 32 bits, and the words behind it
unfoldable pub number_next : List (List ℕ) → Option (ℕ × List (List ℕ))
number_next [] = None
number_next (w ∷ ws) = number_in 4294967295 w >>? λ n. Some (n, ws)

-- the words behind a name
unfoldable pub name_next : List ℕ → List (List ℕ) → Option (List (List ℕ))
name_next name [] = None
name_next name (w ∷ ws) = if same w name then Some ws else None

-- no word is left
abbrev pub none_left : List (List ℕ) → Option (List (List ℕ))
none_left [] = Some []
none_left (w ∷ ws) = None
