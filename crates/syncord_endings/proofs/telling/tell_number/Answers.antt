use Rattle.syncord_endings.proofs.Parts.{told}
use Rattle.syncord_endings.proofs.telling.tell_number.Goals as goal

pub returns : goal.returns
returns g c =
    let held = g.E.Sink.held c.args.err.now in
    let faults = g.E.Sink.faults c.args.err.now in
    let two = c.say_number-second.ensures.told held faults _ c.begin-first.ensures in
    told _ _ _ _ _ _ (c.say-all.ensures.told held faults _ two)
