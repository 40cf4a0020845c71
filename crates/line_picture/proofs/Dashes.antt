-- A column that is no dash is a list of parts.
use Rattle.std.proofs.Common.{◌≡◌, ℕ, List, Bool, false, codes, refl, sym, ◌∙◌}
use Rattle.std.specs.List.{list_all}
use Rattle.doc_text.specs.Words.{same}
use Rattle.line_picture.specs.Lists.{is_list, parts}

pub no_dash : (is_part : List ℕ → Bool) (word : List ℕ) (dash : Bool) → dash ≡ same word (codes "-") → dash ≡ false
    → list_all is_part (parts word) ≡ is_list is_part word
no_dash is_part word dash e f = let no : same word (codes "-") ≡ false = sym e ∙ f in rw no refl
