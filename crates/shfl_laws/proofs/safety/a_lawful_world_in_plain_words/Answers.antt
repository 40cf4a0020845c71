use Rattle.shfl_core.specs.View.{view}
use Rattle.shfl_laws.proofs.plain.Facts.{facts}
use Rattle.shfl_laws.proofs.plain.Headline.{headline}
use Rattle.shfl_laws.proofs.shown.ShownLine.{shown-line-law}
use Rattle.shfl_laws.proofs.shown.ShownOne.{shows-one}
use Rattle.shfl_laws.proofs.shown.WellFormed.{agrees-well-formed}
use Rattle.shfl_laws.proofs.safety.a_lawful_world_in_plain_words.Goals as goal

pub returns-clause-headline : goal.returns-clause-headline
returns-clause-headline c = headline

pub returns-clause-well_formed : goal.returns-clause-well_formed
returns-clause-well_formed c = λ t w ok. agrees-well-formed t (view w) ok.shown ok.giver ok.of_passes ok.agrees

pub returns-clause-one : goal.returns-clause-one
returns-clause-one c = shows-one

pub returns-clause-facts : goal.returns-clause-facts
returns-clause-facts c = facts

pub returns-clause-shown : goal.returns-clause-shown
returns-clause-shown c = shown-line-law
