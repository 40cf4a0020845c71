use Rattle.std.proofs.Common.{rules}
use Rattle.sim_model.proofs.locks.open_lock.Goals as goal

pub returns : goal.returns
returns c = c.open.ensures c.args.rules.form (λ p a w made. search rules)
