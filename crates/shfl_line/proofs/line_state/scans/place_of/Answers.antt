use Rattle.std.proofs.Common.{◌≡◌, ◌∙◌, sym, arith, get_or}
use Rattle.std.proofs.lemmas.Grind.{common_steps}
use Rattle.shfl_line.proofs.Behind
use Rattle.shfl_line.proofs.line_state.scans.place_of.Goals as goal

pub returns-then-waiter-pass : goal.returns-then-waiter-pass
returns-then-waiter-pass c = let at : get_or c.args.line.now c.loop-i.i 0 ≡ c.args.pass = c.if-waiter-pass.true in (
  omega arith,
  sym (Behind.without-here c.args.pass c.loop-i.i c.args.line.now (omega arith) at) ∙ c.loop-i.invariant.without,
  λ k. sym (Behind.put-here c.args.pass k c.loop-i.i c.args.line.now (omega arith) at) ∙ c.loop-i.invariant.put k,
)

pub loop-i-preserved : goal.loop-i-preserved
loop-i-preserved c = record {
  times = let t = c.loop-i.invariant.times in grind (arith, common_steps);
  without = let t = c.loop-i.invariant.without in grind (arith, common_steps);
  put = λ k. Behind.put-more c.args.pass k c.loop-i.i c.args.line.now (omega arith) c.if-waiter-pass.false ∙ c.loop-i.invariant.put k;
}
