-- From the words of a line to its columns: a label and what stands behind it.
use Rattle.std.specs.Prelude.{ℕ, List, ◌∷◌, Option, Some, None, if◌then◌else◌}
use Rattle.doc_text.specs.Words.{same, two, ◌>>?◌}

-- the first word, where others follow, and these
abbrev pub next_in : List (List ℕ) → Option (List ℕ × List (List ℕ))
next_in (a ∷ b ∷ ws) = Some (a, b ∷ ws)
next_in ws = None

-- the word behind this label, where others follow, and these
abbrev pub labelled_in : List ℕ → List (List ℕ) → Option (List ℕ × List (List ℕ))
labelled_in label ws = next_in ws >>? λ w. if same w.0 label then next_in w.1 else None

-- the last word, behind this label
abbrev pub last_in : List ℕ → List (List ℕ) → Option (List ℕ)
last_in label ws = two ws >>? λ w. if same w.0 label then Some w.1 else None
