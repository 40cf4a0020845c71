use Rattle.std.proofs.Common.{rules, ap}
use Rattle.shfl_line.specs.declared.events.Form.TheVariants.{Rw}
use Rattle.shfl_core.specs.Runner.{Lock}
use Rattle.table_tests.proofs.alike.shared.Goals as goal

pub runs_as-requires-clause-form : goal.runs_as-requires-clause-form
runs_as-requires-clause-form c = ap (λ (l : Lock). l.rules.form) (c.in_ok-plain.ensures Rw (search rules))
