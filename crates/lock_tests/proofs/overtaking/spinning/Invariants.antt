use Rattle.shfl_line.specs.declared.events.Form.TheVariants.{Spin}
use Rattle.lock_tests.proofs.overtaking.spinning.Given as goal

abbrev pub ghost-open : goal.ghost-open
ghost-open a = Spin
