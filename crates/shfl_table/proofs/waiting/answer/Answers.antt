use Rattle.std.proofs.Common.{◌≡◌, true, false, sym, ap, ◌∙◌}
use Rattle.shfl_core.specs.Asking.{opens_round}
use Rattle.shfl_table.proofs.waiting.answer.Goals as goal

pub returns-in-Skip-clause-in_round : goal.returns-in-Skip-clause-in_round
returns-in-Skip-clause-in_round g c closed = absurd (let x : true ≡ false = sym (ap opens_round c.in-Skip.is) ∙ closed in cc)
