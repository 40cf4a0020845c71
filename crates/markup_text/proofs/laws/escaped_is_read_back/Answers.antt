use Rattle.markup_text.proofs.ReadBack.{said-escaped, escaped_has_no_tag}
use Rattle.markup_text.proofs.laws.escaped_is_read_back.Goals as goal

pub returns-clause-inside : goal.returns-clause-inside
returns-clause-inside c = escaped_has_no_tag

pub returns-clause-said : goal.returns-clause-said
returns-clause-said c = said-escaped
