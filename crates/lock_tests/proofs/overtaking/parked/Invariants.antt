use Rattle.shfl_line.specs.declared.events.Form.TheVariants.{Park}
use Rattle.lock_tests.proofs.overtaking.parked.Given as goal

abbrev pub ghost-open : goal.ghost-open
ghost-open a = Park
