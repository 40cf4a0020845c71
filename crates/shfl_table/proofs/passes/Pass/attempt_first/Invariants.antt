use Rattle.shfl_laws.specs.Moves.{told_terms}
use Rattle.shfl_table.proofs.passes.Pass.attempt_first.Given as goal

abbrev pub ghosts-attempt_once : goal.ghosts-attempt_once
ghosts-attempt_once g a = record { goal = told_terms a.shared.now.key.rules a.shared.now.key.count a.shared.now.key.words.value.items; wants = a.mode }
