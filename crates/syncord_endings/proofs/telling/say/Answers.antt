use Rattle.std.proofs.Common.{Bool, true, subst}
use Rattle.syncord_endings.specs.Traffic.{Telling, traffic}
use Rattle.syncord_endings.proofs.Parts.{goes_on}
use Rattle.syncord_endings.proofs.telling.say.Goals as goal

pub returns-then-going : goal.returns-then-going
returns-then-going g c = record {
  told = λ held faults text so_far.
      let going : Telling true (traffic held (g.E.Sink.held c.args.err.now) faults (g.E.Sink.faults c.args.err.now)) text = let P : Bool → Type 0 = λ v. Telling v (traffic held (g.E.Sink.held c.args.err.now) faults (g.E.Sink.faults c.args.err.now)) text in subst P c.if-going.true so_far in
      rw c.is_ok.ensures.value (goes_on _ _ _ _ _ _ text c.args.bytes.now c.write_all.result going c.write_all.ensures.all c.write_all.ensures.part c.write_all.ensures.unfinished c.write_all.ensures.fault c.write_all.ensures.later);
}
