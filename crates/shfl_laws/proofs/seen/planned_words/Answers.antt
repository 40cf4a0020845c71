use Rattle.shfl_core.proofs.Blind.{store-blind, formed-names}
use Rattle.shfl_laws.proofs.laws.InRange.{in-range-law, told-law, told-names, bells-in-range}
use Rattle.shfl_laws.proofs.seen.planned_words.Goals as goal

pub returns-clause-in_range : goal.returns-clause-in_range
returns-clause-in_range c = in-range-law

pub returns-clause-told : goal.returns-clause-told
returns-clause-told c = told-law

pub returns-clause-blind : goal.returns-clause-blind
returns-clause-blind c = store-blind

pub returns-clause-names : goal.returns-clause-names
returns-clause-names c = formed-names

pub returns-clause-told_names : goal.returns-clause-told_names
returns-clause-told_names c = told-names

pub returns-clause-bells : goal.returns-clause-bells
returns-clause-bells c = bells-in-range
