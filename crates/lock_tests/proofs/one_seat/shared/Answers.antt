use Rattle.std.proofs.Common.{rules, ap}
use Rattle.shfl_line.specs.declared.events.Form.TheVariants.{Rw}
use Rattle.shfl_core.specs.Runner.{Lock}
use Rattle.lock_tests.proofs.one_seat.shared.Goals as goal

pub new-requires-clause-plain : goal.new-requires-clause-plain
new-requires-clause-plain c = ap (λ (l : Lock). l.rules.form) (c.in_ok-plain.ensures Rw (search rules))
