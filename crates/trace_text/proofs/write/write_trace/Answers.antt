use Rattle.trace_text.specs.Traces.{document_of}
use Rattle.trace_text.proofs.Only.{written-text}
use Rattle.trace_text.proofs.write.write_trace.Goals as goal

pub returns-clause-again : goal.returns-clause-again
returns-clause-again c = written-text (λ v. v.items) (document_of c.args.trace.now) c.spelled.result c.spelled.ensures
