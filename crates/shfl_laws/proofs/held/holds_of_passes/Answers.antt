use Rattle.shfl_laws.proofs.laws.Holds.{alone, hold-seen, take-mode, frees-only}
use Rattle.shfl_laws.proofs.laws.Waits.{none-leads-to-release}
use Rattle.shfl_laws.proofs.held.holds_of_passes.Goals as goal

pub returns-clause-alone : goal.returns-clause-alone
returns-clause-alone c = alone

pub returns-clause-seen : goal.returns-clause-seen
returns-clause-seen c = hold-seen

pub returns-clause-mode : goal.returns-clause-mode
returns-clause-mode c = take-mode

pub returns-clause-freed : goal.returns-clause-freed
returns-clause-freed c = frees-only

pub returns-clause-release : goal.returns-clause-release
returns-clause-release c = none-leads-to-release
