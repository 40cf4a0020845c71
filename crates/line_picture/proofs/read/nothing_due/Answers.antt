use Rattle.std.proofs.Common.{refl}
use Rattle.doc_text.proofs.Joining.{text_in-ended}
use Rattle.line_picture.specs.Grammar.{nothing_due}
use Rattle.line_picture.proofs.read.nothing_due.Goals as goal

pub returns-in-Some : goal.returns-in-Some
unfolding nothing_due
returns-in-Some c = rw (c.in-Some.ensures.text.1, text_in-ended c.in-Some.field-0.0.now c.in-Some.ensures.text.0) refl
