use Rattle.syncord_endings.specs.Traffic.{through}
use Rattle.syncord_endings.proofs.Decided.{decides_by_status}
use Rattle.syncord_line.specs.Reports.{Reports, Refuses}
use Rattle.syncord_line.proofs.run.run_line.Goals as goal

pub returns-clause-complete : goal.returns-clause-complete
returns-clause-complete g c =
    decides_by_status Reports Refuses (through g.R.Source.left g.R.Source.faults c.args.src.now c.ending-ending.new.src)
    (through g.W.Sink.held g.W.Sink.faults c.args.out.now c.ending-ending.new.out) c.ending-ending.result c.status.result c.status.ensures c.ending-ending.ensures.ends
