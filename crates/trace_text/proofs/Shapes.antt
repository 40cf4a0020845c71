-- What follows a verb, where there is something.
use Rattle.std.proofs.Common.{◌≡◌, ℕ, List, Some, refl}
use Rattle.doc_text.specs.Words.{words, one, ◌>>?◌}
use Rattle.doc_text.proofs.Splitting.{words_cons}
use Rattle.trace_text.specs.Lines.{name_in, after_in}

pub words_after : (text : List ℕ) → after_in (words text) ≡ (one (words text) >>? λ n. name_in n >>? λ name. Some (Some name))
words_after text = let w = words_cons text in rw w.2 refl
