use Rattle.trace_text.proofs.Only.{returned-found, returned-only}
use Rattle.trace_text.proofs.read.read_trace.Goals as goal

pub returns-clause-found : goal.returns-clause-found
returns-clause-found c = returned-found c.args.bytes.now c.trace_of.result c.trace_of.ensures.exact

pub returns-clause-only : goal.returns-clause-only
returns-clause-only c = returned-only c.args.bytes.now c.trace_of.result c.trace_of.ensures.exact
