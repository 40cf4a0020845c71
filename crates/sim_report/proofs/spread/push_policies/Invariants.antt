use Rattle.std.proofs.Common.{◌≡◌, ◌++◌, map, drop}
use Rattle.std.specs.List.{flat_map}
use Rattle.sim_report.specs.Spreads.{beside_text, policies_text}
use Rattle.sim_report.proofs.spread.push_policies.Given as goal

abbrev pub invariant-loop-candidate : goal.invariant-loop-candidate
invariant-loop-candidate l =
    l.out.items ++ flat_map (beside_text l.setup (map (λ r. r.items) l.base.items)) (drop l.candidate-index l.others)
    ≡ l.fn.out.items ++ policies_text l.setup l.setup.policies
