use Rattle.std.proofs.Common.{◌+◌, suc, take, drop, sym, ◌∙◌, subst, arith}
use Rattle.shfl_workers.specs.Progress.{Progress}
use Rattle.round_log.proofs.WholeRounds.{in_rounds_more}
use Rattle.shfl_workers.proofs.AskedTurns.{turned}
use Rattle.shfl_workers.proofs.Turns.{at_place, past_place}
use Rattle.shfl_workers.proofs.worker.take_turns.Goals as goal

pub take_turn-requires-clause-progress : goal.take_turn-requires-clause-progress
take_turn-requires-clause-progress g c κs within =
    let i = c.loop-call.call-index in let calls = c.args.calls.now in let v = c.loop-call.invariant in
    let p = subst (λ w. Progress g.D.SharedDir.made g.D.SharedDir.left c.args.registry.now w (take i calls) (drop i calls) c.loop-call.pass c.loop-call.attaching) (sym v.worker) v.progress in
    (take i calls, drop (suc i) calls, at_place _ _ _ _ calls i _ _ _ (omega arith) p)

pub loop-call-preserved : goal.loop-call-preserved
loop-call-preserved g c =
    let i = c.loop-call.call-index in let calls = c.args.calls.now in let v = c.loop-call.invariant in let e = c.take_turn.ensures in
    let p = subst (λ w. Progress g.D.SharedDir.made g.D.SharedDir.left c.args.registry.now w (take i calls) (drop i calls) c.loop-call.pass c.loop-call.attaching) (sym v.worker) v.progress in
    let next = e.progress (take i calls) (drop (suc i) calls) (at_place _ _ _ _ calls i _ _ _ (omega arith) p) in
    record {
      pass = e.pass;
      worker = e.worker ∙ v.worker;
      progress = subst (λ w. Progress g.D.SharedDir.made g.D.SharedDir.left c.args.registry.now w (take (i + 1) calls) (drop (i + 1) calls) c.take_turn.new.pass c.take_turn.new.attaching) v.worker
          (past_place _ _ _ _ calls i _ _ _ (omega arith) next);
      asked = turned _ _ _ v.worker calls i _ _ _ _ _ _ _ (omega arith) v.asked e.asked;
      whole = in_rounds_more _ _ _ v.whole e.whole;
      in_round = λ out. e.in_round (v.in_round out);
      home = e.home ∙ v.home;
    }
