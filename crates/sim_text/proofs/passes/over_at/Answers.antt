use Rattle.std.proofs.Common.{refl}
use Rattle.doc_text.proofs.Joining.{text_in-ended}
use Rattle.sim_text.specs.Grammar.{over_in}
use Rattle.sim_text.proofs.passes.over_at.Goals as goal

pub returns-in-Some : goal.returns-in-Some
unfolding over_in
returns-in-Some c = rw (c.in-Some.ensures.text.1, text_in-ended c.in-Some.field-0.0.now c.in-Some.ensures.text.0) refl
