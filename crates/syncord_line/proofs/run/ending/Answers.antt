use Rattle.std.proofs.Common.{refl}
use Rattle.shfl_sched.specs.Report.{line_report}
use Rattle.syncord_endings.specs.Traffic.{through}
use Rattle.syncord_endings.proofs.Parts.{Took-nil}
use Rattle.syncord_endings.proofs.Ends.{ends_unread}
use Rattle.syncord_line.specs.Reports.{Reports, Refuses}
use Rattle.syncord_line.proofs.run.ending.Goals as goal

pub returns-in-Err-clause-ends : goal.returns-in-Err-clause-ends
returns-in-Err-clause-ends g c =
    ends_unread Reports Refuses (through g.R.Source.left g.R.Source.faults c.args.src.now c.read_input.new.src)
    (through g.W.Sink.held g.W.Sink.faults c.args.out.now c.args.out.now) c.in-Err.ending c.in-Err.ensures.unread (Took-nil (g.W.Sink.held c.args.out.now))

pub returns-clause-ends : goal.returns-clause-ends
returns-clause-ends g c =
    let stopped = rw c.in-Err-Write.field-0-is at c.in-Err-Write.ensures.stopped in
    let bytes = c.in-Ok.bytes.items in
    let told : Reports bytes (line_report c.in-Ok-schedule_of.schedule) = record {
      schedule = c.in-Ok-schedule_of.schedule;
      read = rw c.deref.ensures.value at c.in-Ok-schedule_of.ensures.read;
      within = c.in-Ok-schedule_of.ensures.within;
      told = refl;
      safe = c.write_report.ensures.safe;
    } in
    (bytes, line_report c.in-Ok-schedule_of.schedule, c.in-Ok.ensures.whole, told, stopped.0, stopped.1, stopped.2)
