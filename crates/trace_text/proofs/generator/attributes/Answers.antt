use Rattle.std.proofs.Common.{◌≡◌, suc, ◌+◌, ◌-◌, ◌++◌, sym, ap, ◌∙◌, arith, append-nil}
use Rattle.trace_text.specs.Generator.{workers_from}
use Rattle.trace_text.proofs.Generated.{workers_more, workers_all}
use Rattle.trace_text.proofs.generator.attributes.Goals as goal

pub loop-worker-preserved : goal.loop-worker-preserved
loop-worker-preserved c =
    let more : c.args.workers - c.loop-worker.worker ≡ suc (c.args.workers - (c.loop-worker.worker + 1)) = omega arith in
    ap (λ xs. xs ++ workers_from (c.loop-worker.worker + 1) (c.args.workers - (c.loop-worker.worker + 1))) c.in_ok-push.ensures.items
    ∙ workers_more c.loop-worker.attributes.items c.loop-worker.worker (c.args.workers - c.loop-worker.worker) (c.args.workers - (c.loop-worker.worker + 1)) more
    ∙ c.loop-worker.invariant

pub returns : goal.returns
returns c =
    let none : c.args.workers - c.loop-worker.worker ≡ 0 = omega arith in
    sym (workers_all c.loop-worker.attributes.items c.loop-worker.worker (c.args.workers - c.loop-worker.worker) none ∙ append-nil c.loop-worker.attributes.items)
    ∙ c.loop-worker.invariant
