use Rattle.std.proofs.Common.{rules, ◌==◌, ◌∙◌}
use Rattle.std.specs.Prelude.{not}
use Rattle.std.proofs.lemmas.Fn.{filter_same}
use Rattle.shfl_seats.proofs.Holds.{left-out}
use Rattle.shfl_seats.proofs.held.leave_out.Goals as goal

pub returns-clause-items : goal.returns-clause-items
returns-clause-items c = filter_same _ (λ x. not (x.0 == c.args.lock)) _ (λ x b f' k. search rules) _ _ c.retain.ensures.filtered ∙ left-out c.args.lock c.args.others.now.items
