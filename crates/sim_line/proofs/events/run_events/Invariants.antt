use Rattle.std.proofs.Common.{◌≡◌, [], ◌-◌, ◌++◌, length}
use Rattle.sim_line.specs.Events.{events_of}
use Rattle.sim_model.specs.Runs.{state_of}
use Rattle.sim_line.proofs.events.run_events.Given as goal

-- the events so far, and those from here on, are those of the whole run
abbrev pub invariant-loop-turn : goal.invariant-loop-turn
invariant-loop-turn g l =
    let answers = g.A.Adviser.answers l.adviser in record {
      found : l.found.items ++ events_of l.setup answers (l.turns - l.turn) (state_of l.lock l.bench []) ≡ l.initial.found.items ++ events_of l.setup answers l.turns (state_of l.initial.lock l.initial.bench []);
      rules : l.lock.rules ≡ l.setup.rules;
      passes : length l.lock.world.passes ≡ l.setup.passes;
    }
