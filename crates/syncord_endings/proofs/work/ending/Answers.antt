use Rattle.syncord_endings.specs.Traffic.{through}
use Rattle.syncord_endings.proofs.Parts.{Took-nil}
use Rattle.syncord_endings.proofs.Ends.{ends_unread, ends_delivered}
use Rattle.syncord_endings.proofs.work.ending.Goals as goal

pub returns-in-Err-clause-ends : goal.returns-in-Err-clause-ends
returns-in-Err-clause-ends g c =
    ends_unread (g.K.Work.reports c.args.work.now) (g.K.Work.refuses c.args.work.now)
    (through g.R.Source.left g.R.Source.faults c.args.src.now c.read_input.new.src) (through g.W.Sink.held g.W.Sink.faults c.args.out.now c.args.out.now)
    c.in-Err.ending c.in-Err.ensures.unread (Took-nil (g.W.Sink.held c.args.out.now))

pub returns-in-Ok-report-clause-ends : goal.returns-in-Ok-report-clause-ends
returns-in-Ok-report-clause-ends g c =
    ends_delivered (g.K.Work.reports c.args.work.now) (g.K.Work.refuses c.args.work.now)
    (through g.R.Source.left g.R.Source.faults c.args.src.now c.read_input.new.src) (through g.W.Sink.held g.W.Sink.faults c.args.out.now c.deliver.new.out)
    c.in-Ok.bytes.items c.in-Ok-report.text.items c.deliver.result c.in-Ok.ensures.whole c.in-Ok-report.ensures.report (rw c.deref.ensures.value at c.deliver.ensures)
