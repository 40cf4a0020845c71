use Rattle.shfl_line.specs.declared.events.Form.TheVariants.{Spin}
use Rattle.lock_tests.proofs.word_machine.open.Goals as goal

pub returns : goal.returns
returns c = c.open.ensures Spin (λ p a w made. made.1)
