use Rattle.std.proofs.Common.{◌≡◌, ◌-◌, length}
use Rattle.sim_model.specs.Runs.{ran, state_of}
use Rattle.sim_model.proofs.run.run_turns.Given as goal

-- the run from here on is the whole run
abbrev pub invariant-loop-turn : goal.invariant-loop-turn
invariant-loop-turn g l =
    let answers = g.A.Adviser.answers l.adviser in record {
      run : ran l.setup answers (l.most - l.turn) (state_of l.lock l.bench l.waits.items) ≡ ran l.setup answers l.most (state_of l.initial.lock l.initial.bench l.initial.waits.items);
      rules : l.lock.rules ≡ l.setup.rules;
      passes : length l.lock.world.passes ≡ l.setup.passes;
    }
