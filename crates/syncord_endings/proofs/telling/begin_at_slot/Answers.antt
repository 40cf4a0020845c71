use Rattle.syncord_endings.proofs.telling.begin_at_slot.Goals as goal

pub returns : goal.returns
returns g c =
    let held = g.E.Sink.held c.args.err.now in
    let faults = g.E.Sink.faults c.args.err.now in
    let two = c.say_number-second.ensures.told held faults _ c.begin-first.ensures in
    let three = c.say-third.ensures.told held faults _ two in
    let four = c.say_number.ensures.told held faults _ three in
    rw (c.from.ensures, c.from-2.ensures) at four
