use Rattle.std.proofs.Common.{◌+◌, ◌<◌, take, length, sym, ap, subst, arith}
use Rattle.std.proofs.lemmas.List.{take_more}
use Rattle.shfl_workers.specs.Shares.{AreShares}
use Rattle.shfl_workers.proofs.shares.shares_of.Goals as goal

pub loop-call-preserved : goal.loop-call-preserved
loop-call-preserved c = let t = c.args.trace.now in let i = c.loop-call.call-index in let calls = c.as_slice-call-items.result.now in
    let shares = c.count_call.new.shares.items in let count = length t.workers.items in let same = c.as_slice-call-items.ensures.value in
    let within : i < length calls = (let e = ap length same in omega (arith, e)) in
    subst (λ l. AreShares (take (i + 1) l) count shares) same
    (subst (λ l. AreShares l count shares) (sym (take_more calls i _ within))
    (c.count_call.ensures (take i calls) count (subst (λ l. AreShares (take i l) count c.loop-call.shares.items) (sym same) c.loop-call.invariant)))
