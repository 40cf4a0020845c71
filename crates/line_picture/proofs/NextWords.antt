-- Where a text goes on behind a blank, its words have a next one.
use Rattle.std.proofs.Common.{◌≡◌, ℕ, List, ◌∷◌, Some, refl}
use Rattle.doc_text.specs.Words.{words}
use Rattle.doc_text.proofs.Splitting.{words_cons}
use Rattle.line_picture.specs.Columns.{next_in}

pub next_more : (a text : List ℕ) → next_in (a ∷ words text) ≡ Some (a, words text)
next_more a text = let w = words_cons text in rw w.2 refl
