-- From bytes to lines.
use Rattle.std.specs.Prelude.{◌≡◌, ℕ, List, [], ◌∷◌, ◌++◌, Bool, ◌&&◌, Option, Some, None, IsTrue, nat_le, ◌==◌, if◌then◌else◌}
use Rattle.std.specs.List.{list_all}
use Rattle.std.specs.Option.{option_map}

-- the same parts with one byte more at the front of the first
abbrev pub onto : ℕ → List (List ℕ) → List (List ℕ)
onto b [] = (b ∷ []) ∷ []
onto b (p ∷ ps) = (b ∷ p) ∷ ps

-- the lines, each with its line feed, and what stands behind the last line feed
abbrev pub pieces : List ℕ → List (List ℕ)
pieces [] = []
pieces (b ∷ bs) = if b == 10 then (b ∷ []) ∷ pieces bs else onto b (pieces bs)

-- what may stand in a line: the printable bytes of ASCII, a blank among them
abbrev pub is_plain : ℕ → Bool
is_plain b = nat_le 32 b && nat_le b 126

-- nothing stands behind the end
abbrev pub at_end : List ℕ → Option (List ℕ)
at_end [] = Some []
at_end (b ∷ bs) = None

-- what a piece says: plain bytes, and then a line feed
abbrev pub text_in : List ℕ → Option (List ℕ)
text_in [] = None
text_in (b ∷ bs) = if b == 10 then at_end bs else if is_plain b then option_map (λ t. b ∷ t) (text_in bs) else None

-- the first of some pieces is no line of a document: it isn't ended, or has a byte that may not stand in a line
abbrev pub BeginsOddly : List (List ℕ) → Type 0
BeginsOddly [] = ⊥
BeginsOddly (p ∷ ps) = text_in p ≡ None

-- bytes that may stand in a line
abbrev pub IsPlain : List ℕ → Type 0
IsPlain text = IsTrue (list_all is_plain text)

-- a line as it stands in a document: its text and a line feed
abbrev pub ended : List ℕ → List ℕ
ended text = text ++ 10 ∷ []

-- the first of some pieces is a line with this text, and these stand behind it
abbrev pub BeginsWith : List ℕ → List (List ℕ) → List (List ℕ) → Type 0
BeginsWith text behind ps = IsPlain text × (ps ≡ ended text ∷ behind)
