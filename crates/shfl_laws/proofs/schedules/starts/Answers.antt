use Rattle.shfl_laws.proofs.laws.Opens.{start-law, first-seat-law}
use Rattle.shfl_laws.proofs.words.TermsTold.{terms-law}
use Rattle.shfl_laws.proofs.schedules.starts.Goals as goal

pub returns-clause-unseated : goal.returns-clause-unseated
returns-clause-unseated c = start-law

pub returns-clause-first_seat : goal.returns-clause-first_seat
returns-clause-first_seat c = first-seat-law

pub returns-clause-terms : goal.returns-clause-terms
returns-clause-terms c = terms-law
