use Rattle.std.proofs.Common.{rules, sym, ◌∙◌}
use denote.Enum.Bare.{same_true, true_same}
use Rattle.shfl_core.specs.contracts.phase.Phase.{the_type}
use Rattle.shfl_table.proofs.outcomes.same_phase.Goals as goal

pub returns : goal.returns
returns c = (
  (λ is. same_true the_type (search rules) _ _ (sym c.eq.ensures ∙ is)),
  (λ is. c.eq.ensures ∙ true_same the_type _ _ is),
)
