use Rattle.std.proofs.Common.{◌≡◌, ◌++◌, drop}
use Rattle.std.specs.List.{flat_map}
use Rattle.sim_report.specs.Reports.{heading_text, policy_text}
use Rattle.sim_report.proofs.report.single_of.Given as goal

abbrev pub invariant-loop-candidate : goal.invariant-loop-candidate
invariant-loop-candidate l =
    l.out.items ++ flat_map (policy_text l.setup) (drop l.candidate-index l.setup.policies) ≡ heading_text l.setup ++ flat_map (policy_text l.setup) l.setup.policies
