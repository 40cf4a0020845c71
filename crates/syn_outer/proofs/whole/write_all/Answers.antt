use Rattle.std.proofs.Common.{arith}
use Rattle.std.proofs.lemmas.Grind.{common_steps}
use Rattle.syn_outer.proofs.TakenBytes.{Took-front}
use Rattle.syn_outer.proofs.whole.write_all.Goals as goal

pub loop-written-preserved : goal.loop-written-preserved
loop-written-preserved g c = record {
  front = Took-front _ _ _ c.loop-written.written c.in-Ok.count c.args.bytes.now c.loop-written.invariant.front c.in-Ok.ensures.bytes;
  within = grind (arith, common_steps);
  later = grind (arith, common_steps);
}
