use Rattle.std.proofs.Common.{refl, ap}
use Rattle.shfl_core.specs.Runner.{Lock}
use Rattle.sim_model.proofs.Running.{opened-passes}
use Rattle.sim_line.proofs.EventRuns.{opened-events}
use Rattle.sim_line.proofs.events.first_events.Goals as goal

pub run_events-requires-clause-passes : goal.run_events-requires-clause-passes
run_events-requires-clause-passes g c =
    opened-passes c.in_ok-lock.lock c.args.setup.now.rules c.args.attrs.now c.args.setup.now.passes c.in_ok-lock.ensures c.requires.cores

pub run_events-requires-clause-rules : goal.run_events-requires-clause-rules
run_events-requires-clause-rules g c = ap (λ (l : Lock). l.rules) c.in_ok-lock.ensures

pub returns : goal.returns
returns g c = record {
  first = opened-events c.args.setup.now (g.A.Adviser.answers c.args.adviser.now) c.args.turns c.args.attrs.now
      c.in_ok-lock.lock c.opening-bench.result c.new-found.result.items c.run_events.new.found.items c.truncate.new.self.items c.args.most
      c.in_ok-lock.ensures c.opening-bench.ensures c.new-found.ensures.items c.truncate.ensures.items (c.in_ok-run_events.ensures.first refl);
}
