-- Policies of a setup by their names.
use Rattle.std.specs.Prelude.{ℕ, List, [], ◌∷◌, Option, Some, None, if◌then◌else◌}
use Rattle.doc_text.specs.Words.{same}
use Rattle.sim_text.specs.Setups.{CandidateModel}

-- the first policy of this name
abbrev pub named : List ℕ → List CandidateModel → Option CandidateModel
named name [] = None
named name (c ∷ cs) = if same c.name name then Some c else named name cs
