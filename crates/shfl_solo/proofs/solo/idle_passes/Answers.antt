use Rattle.std.proofs.Common.{◌+◌, ◌<◌, ◌++◌, [], ◌∷◌, ◌∙◌, length, ap, arith}
use Rattle.shfl_core.specs.Waiting.{idle}
use Rattle.shfl_solo.proofs.Opens.{one-more-pass}
use Rattle.shfl_solo.proofs.solo.idle_passes.Goals as goal

pub loop-preserved : goal.loop-preserved
loop-preserved c = let i = c.loop.invariant in let h : c.loop.index < length c.args.attrs.now = c.loop-test.true in let pushed = c.push_reserved.ensures in record {
  number = ap (λ n. n + 1) i.number;
  passes = pushed.items ∙ (ap (λ q. c.loop.passes.items ++ q ∷ []) (c.idle_pass.ensures ∙ ap idle i.number) ∙ one-more-pass c.args.attrs.now c.loop.index c.loop.passes.items h i.passes);
  room = let m = i.room in let r = pushed.capacity in let n = pushed.len in omega (arith, h);
}
