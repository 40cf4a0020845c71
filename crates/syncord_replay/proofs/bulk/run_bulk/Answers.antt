use Rattle.std.proofs.Common.{inl}
use Rattle.syncord_endings.specs.declared.ending.Ending.TheVariants.{NoReport}
use Rattle.syncord_endings.specs.declared.ending.Refusal.TheVariants.{NoMemory}
use Rattle.syncord_endings.specs.Traffic.{through}
use Rattle.syncord_endings.proofs.Parts.{Took-nil}
use Rattle.syncord_replay.specs.Sums.{Summarizes}
use Rattle.syncord_replay.proofs.Delivered.{writes_delivered}
use Rattle.syncord_replay.proofs.bulk.run_bulk.Goals as goal

pub returns-in-Ok-clause-answer : goal.returns-in-Ok-clause-answer
returns-in-Ok-clause-answer g c =
    let written = writes_delivered (Summarizes g.M.Manner.ran c.args.seed c.args.workers c.args.calls) (through g.W.Sink.held g.W.Sink.faults c.args.out.now c.deliver-ending.new.out)
    c.in-Ok.text.items c.deliver-ending.result c.in-Ok.ensures (rw c.deref.ensures.value at c.deliver-ending.ensures) in
    (c.deliver-ending.result, c.status.ensures, written, c.tell_ending.ensures)

pub returns-in-Err-clause-answer : goal.returns-in-Err-clause-answer
returns-in-Err-clause-answer g c =
    (NoReport NoMemory, c.status-in-Err.ensures, Took-nil (g.W.Sink.held c.args.out.now), inl (Took-nil (g.E.Sink.held c.args.err.now)))
