-- A text has a word at least, so that something is left where a text is; where none is, no name is.
use Rattle.std.proofs.Common.{◌≡◌, ℕ, List, [], ◌∷◌, false, None, refl}
use Rattle.doc_text.specs.Words.{words}
use Rattle.doc_text.proofs.Splitting.{words_cons}
use Rattle.sim_text.specs.Words.{none_left, name_next}
use Rattle.sim_text.specs.Lines.{is_usual}

pub none_more : (text : List ℕ) → none_left (words text) ≡ None
none_more text = let w = words_cons text in rw w.2 refl

pub usual_more : (word text : List ℕ) → is_usual (word ∷ words text) ≡ false
usual_more word text = let w = words_cons text in rw w.2 refl

pub no_name : (name : List ℕ) → name_next name [] ≡ None
unfolding name_next
no_name name = refl
