use Rattle.doc_text.proofs.Due.{line-found, line-only}
use Rattle.doc_text.proofs.lines.line_due.Goals as goal

pub returns-clause-found : goal.returns-clause-found
returns-clause-found c = line-found c.args.line c.args.what c.args.bytes.now c.front_line.result c.front_line.ensures.exact

pub returns-clause-only : goal.returns-clause-only
returns-clause-only c = line-only c.args.line c.args.what c.args.bytes.now c.front_line.result c.front_line.ensures.exact
