use Rattle.syncord_endings.proofs.Parts.{told}
use Rattle.syncord_endings.proofs.telling.tell_line.Goals as goal

pub returns : goal.returns
returns g c =
    let held = g.E.Sink.held c.args.err.now in
    let faults = g.E.Sink.faults c.args.err.now in
    let two = c.say_number-second.ensures.told held faults _ c.begin-first.ensures in
    let three = c.say-third.ensures.told held faults _ two in
    let four = c.say_number-fourth.ensures.told held faults _ three in
    let five = c.say-all.ensures.told held faults _ four in
    told _ _ _ _ _ _ (rw (c.from.ensures, c.from-2.ensures) at five)
