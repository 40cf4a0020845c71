use Rattle.doc_text.proofs.Joining.{text_in-some, spaced-words}
use Rattle.doc_text.proofs.laws.read_is_joined.Goals as goal

pub returns-clause-text : goal.returns-clause-text
returns-clause-text c = text_in-some

pub returns-clause-words : goal.returns-clause-words
returns-clause-words c = spaced-words
