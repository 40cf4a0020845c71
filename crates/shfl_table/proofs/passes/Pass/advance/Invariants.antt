use Rattle.shfl_laws.specs.Moves.{told_terms}
use Rattle.shfl_table.proofs.passes.Pass.advance.Given as goal

abbrev pub ghosts-operate : goal.ghosts-operate
ghosts-operate g a = record { terms = told_terms a.shared.now.key.rules a.shared.now.key.count a.shared.now.key.words.value.items; own = a.own; choice = a.choice }
