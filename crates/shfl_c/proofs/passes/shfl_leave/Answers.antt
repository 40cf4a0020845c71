use Rattle.std.proofs.Common.{rules}
use Rattle.shfl_c.proofs.passes.shfl_leave.Goals as goal

pub returns : goal.returns
returns g c = record { after = (_, c.new.ensures, search rules, search rules) }
