use Rattle.shfl_laws.specs.Moves.{told_terms}
use Rattle.shfl_table.proofs.passes.Pass.disable_stealing.Given as goal

abbrev pub ghosts-disable_once : goal.ghosts-disable_once
ghosts-disable_once g a = record { lock = told_terms a.shared.now.key.rules a.shared.now.key.count a.shared.now.key.words.value.items }
