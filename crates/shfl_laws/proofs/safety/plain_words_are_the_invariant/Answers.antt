use Rattle.shfl_laws.proofs.plain.Plain.{plain-law, lawful-law}
use Rattle.shfl_laws.proofs.safety.plain_words_are_the_invariant.Goals as goal

pub returns-clause-plain : goal.returns-clause-plain
returns-clause-plain c = plain-law

pub returns-clause-lawful : goal.returns-clause-lawful
returns-clause-lawful c = lawful-law
