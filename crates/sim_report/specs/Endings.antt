-- How the run of a policy ends.
use Rattle.std.specs.Prelude.{ℕ, List, Bool, length}
use Rattle.sim_setup.specs.declared.setup.Setup.{Setup}
use Rattle.sim_setup.specs.Cores.{cores_below}
use Rattle.sim_model.specs.declared.bench.Bench.{Bench}
use Rattle.sim_model.specs.Runs.{State, ran, opening_state, is_cut, time_reached}
use Rattle.sim_text.specs.declared.setup.Rule.{Rule}
use Rattle.sim_text.specs.Answering.{rule_advice}
use Rattle.sim_text.specs.Queueing.{tries_of}
use Rattle.sim_text.specs.Setups.{SetupModel}
use Rattle.sim_report.specs.Tallies.{rising}

-- what a run of a policy with this seed is set up with
abbrev pub run_setup : SetupModel → ℕ → Rule → Setup
run_setup s seed rule = record {
  rules = record { limit = s.machine.limit; form = s.machine.form };
  layout = s.machine.layout;
  costs = s.machine.costs;
  work = s.load.work;
  tries = tries_of s.load.queueing rule;
  until = s.load.until;
  seed = seed;
  passes = length s.passes;
  cores = cores_below s.passes (length s.passes);
}

-- how the run of a policy with this seed ends
unfoldable pub end_of : SetupModel → ℕ → Rule → State
end_of s seed rule = ran (run_setup s seed rule) (rule_advice rule) s.load.turns (opening_state (run_setup s seed rule) s.passes)

-- whether it had turns left then
unfoldable pub cut_of : SetupModel → ℕ → Rule → Bool
cut_of s seed rule = is_cut (run_setup s seed rule) (end_of s seed rule).bench

-- up to when it had come: a run without turns left to its end
unfoldable pub time_of : SetupModel → ℕ → Rule → ℕ
time_of s seed rule = time_reached (run_setup s seed rule) (end_of s seed rule).bench

-- how a run ended: what was counted, the waits in rising order, whether it had turns left, and up to when it had come
pub record EndedModel : Type 0 where
  pub bench : Bench
  pub waits : List ℕ
  pub cut : Bool
  pub time : ℕ

unfoldable pub ended : SetupModel → ℕ → Rule → EndedModel
ended s seed rule = record {
  bench = (end_of s seed rule).bench;
  waits = rising (end_of s seed rule).waits;
  cut = cut_of s seed rule;
  time = time_of s seed rule;
}
