-- Words behind a blank.
use Rattle.std.proofs.Common.{◌≡◌, ℕ, List, false, refl}
use Rattle.bpf_asm.specs.Statements.{no_words}
use Rattle.doc_text.specs.Words.{words}
use Rattle.doc_text.proofs.Splitting.{words_cons}

-- there is a word behind each blank
pub some_words : (text : List ℕ) → no_words (words text) ≡ false
some_words text = let w = words_cons text in rw w.2 refl
