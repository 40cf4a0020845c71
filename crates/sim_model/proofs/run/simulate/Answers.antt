use Rattle.std.proofs.Common.{refl, ap}
use Rattle.shfl_core.specs.Runner.{Lock}
use Rattle.sim_model.specs.Runs.{State, state_of}
use Rattle.sim_model.proofs.Running.{opened-passes, opened-run}
use Rattle.sim_model.proofs.run.simulate.Goals as goal

pub run_turns-requires-clause-passes : goal.run_turns-requires-clause-passes
run_turns-requires-clause-passes g c =
    opened-passes c.in_ok-lock.lock c.args.setup.now.rules c.args.attrs.now c.args.setup.now.passes c.in_ok-lock.ensures c.requires.cores

pub run_turns-requires-clause-rules : goal.run_turns-requires-clause-rules
run_turns-requires-clause-rules g c = ap (λ (l : Lock). l.rules) c.in_ok-lock.ensures

pub returns-clause-bench : goal.returns-clause-bench
returns-clause-bench g c = ap (λ (x : State). x.bench) (opened-run c.args.setup.now (g.A.Adviser.answers c.args.adviser.now) c.args.most c.args.attrs.now
    c.in_ok-lock.lock c.opening-bench.result c.new-waits.result.items (state_of c.run_turns.new.lock c.run_turns.new.bench c.run_turns.new.waits.items)
    c.in_ok-lock.ensures c.opening-bench.ensures c.new-waits.ensures.items (c.in_ok-run_turns.ensures.run refl))

pub returns-clause-waits : goal.returns-clause-waits
returns-clause-waits g c = ap (λ (x : State). x.waits) (opened-run c.args.setup.now (g.A.Adviser.answers c.args.adviser.now) c.args.most c.args.attrs.now
    c.in_ok-lock.lock c.opening-bench.result c.new-waits.result.items (state_of c.run_turns.new.lock c.run_turns.new.bench c.run_turns.new.waits.items)
    c.in_ok-lock.ensures c.opening-bench.ensures c.new-waits.ensures.items (c.in_ok-run_turns.ensures.run refl))
