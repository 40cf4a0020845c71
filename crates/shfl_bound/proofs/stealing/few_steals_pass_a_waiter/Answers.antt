use Rattle.shfl_bound.proofs.Stolen.{stolen-bound, writer-stolen-bound, exclusive-stolen-bound, none-stolen}
use Rattle.shfl_bound.proofs.stealing.few_steals_pass_a_waiter.Goals as goal

pub returns-clause-writers : goal.returns-clause-writers
returns-clause-writers c = writer-stolen-bound

pub returns-clause-exclusive : goal.returns-clause-exclusive
returns-clause-exclusive c = exclusive-stolen-bound

pub returns-clause-all : goal.returns-clause-all
returns-clause-all c = stolen-bound

pub returns-clause-none : goal.returns-clause-none
returns-clause-none c = none-stolen
