use Rattle.syncord_endings.proofs.Parts.{told}
use Rattle.syncord_endings.proofs.telling.tell_slot.Goals as goal

pub returns : goal.returns
returns g c =
    let held = g.E.Sink.held c.args.err.now in
    let faults = g.E.Sink.faults c.args.err.now in
    told _ _ _ _ _ _ (c.say-all.ensures.told held faults _ c.begin_at_slot-first.ensures)
