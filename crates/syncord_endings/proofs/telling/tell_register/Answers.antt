use Rattle.syncord_endings.proofs.Parts.{told}
use Rattle.syncord_endings.proofs.telling.tell_register.Goals as goal

pub returns : goal.returns
returns g c =
    let held = g.E.Sink.held c.args.err.now in
    let faults = g.E.Sink.faults c.args.err.now in
    let two = c.say-second.ensures.told held faults _ c.begin_at_slot-first.ensures in
    let three = c.say_number-third.ensures.told held faults _ two in
    let four = c.say-all.ensures.told held faults _ three in
    told _ _ _ _ _ _ (rw c.from.ensures at four)
