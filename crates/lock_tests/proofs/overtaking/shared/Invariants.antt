use Rattle.shfl_line.specs.declared.events.Form.TheVariants.{Rw}
use Rattle.lock_tests.proofs.overtaking.shared.Given as goal

abbrev pub ghost-open : goal.ghost-open
ghost-open a = Rw
