use Rattle.std.proofs.Common.{[]}
use Rattle.syncord_endings.proofs.Parts.{begins}
use Rattle.syncord_endings.proofs.telling.begin.Goals as goal

pub returns : goal.returns
returns g c =
    let held = g.E.Sink.held c.args.err.now in
    let faults = g.E.Sink.faults c.args.err.now in
    let named = c.say-named.ensures.told held faults [] (begins held faults) in
    c.say.ensures.told held faults _ named
