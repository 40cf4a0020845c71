use Rattle.shfl_line.specs.declared.events.Form.TheVariants.{RwPark}
use Rattle.lock_tests.proofs.overtaking.parked_and_shared.Given as goal

abbrev pub ghost-open : goal.ghost-open
ghost-open a = RwPark
