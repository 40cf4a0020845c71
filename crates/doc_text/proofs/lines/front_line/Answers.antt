use Rattle.doc_text.specs.Text.{pieces}
use Rattle.doc_text.proofs.Due.{line_due-ended}
use Rattle.doc_text.proofs.lines.front_line.Goals as goal

pub returns-in-Some-clause-exact : goal.returns-in-Some-clause-exact
returns-in-Some-clause-exact c =
    rw c.in-Some.ensures.text.1 (line_due-ended c.args.line c.args.what c.in-Some.text.now (pieces c.in-Some.rest.now) c.in-Some.ensures.text.0)
