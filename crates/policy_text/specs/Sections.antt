-- Lines of attributes, one behind the other.
use Rattle.std.specs.Prelude.{ℕ, List, [], ◌∷◌, length, Bool, false, not, Option, Some, None, Result, Ok, nat_le, ◌==◌, if◌then◌else◌}
use Rattle.shfl_line.specs.declared.words.Attr.{Attr}
use Rattle.doc_text.specs.declared.fault.Fault.{Fault}
use Rattle.doc_text.specs.Words.{words, same}
use Rattle.doc_text.specs.Faults.{fault, ◌>>=◌, or_fault, section_from}
use Rattle.policy_text.specs.Attributes.{attr_in}

-- What each line begins with, the one line that ends them if just one does, and how many there may be; the faults of a bad line, of one
-- too many, and of a document that ends behind some.
pub record SectionModel : Type 0 where
  pub word : List ℕ
  pub last : Option (List ℕ)
  pub most : ℕ
  pub bad : ℕ
  pub over : ℕ
  pub short : ℕ

-- the line begins with this word
abbrev pub begins : List ℕ → List (List ℕ) → Bool
begins word [] = false
begins word (w ∷ ws) = same w word

-- the line ends them: it is the one that does, or begins otherwise
abbrev pub ends : List ℕ → Option (List ℕ) → List ℕ → Bool
ends word None text = not (begins word (words text))
ends word (Some last) text = same text last

-- A line that ends them stands behind one at least; any other is good, bad, or one too many.
unfoldable pub attr_says : SectionModel → List Attr → ℕ → List ℕ → Result (Option Attr) Fault
attr_says s before line text =
    if ends s.word s.last text then (if length before == 0 then fault line s.bad else Ok None)
    else or_fault line s.bad (attr_in s.word (words text)) >>= λ attr. if nat_le s.most (length before) then fault line s.over else Ok (Some attr)

-- the fault where the document ends among them
abbrev pub short_of : SectionModel → List Attr → ℕ
short_of s before = if length before == 0 then s.bad else s.short

-- all of them, and the pieces from the line on that ends them
unfoldable pub attrs_in : SectionModel → ℕ → List (List ℕ) → Result (List Attr × List (List ℕ)) Fault
attrs_in s line ps = section_from (attr_says s) (short_of s) [] line ps
