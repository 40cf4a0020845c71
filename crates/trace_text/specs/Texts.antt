-- Which bytes are a text of a trace: only the case of hexadecimal digits is free.
use Rattle.std.specs.Prelude.{◌≡◌, ℕ, List, [], ◌∷◌, codes}
use Rattle.std.specs.List.{flat_map, AllZip}
use Rattle.doc_text.specs.Text.{ended}
use Rattle.doc_text.specs.Words.{spaced}
use Rattle.policy_text.specs.Programs.{IsProgramWord}
use Rattle.trace_text.specs.Document.{PolicyLine, Document}
use Rattle.trace_text.specs.Spelling.{lines_with}

-- a line `policy NAME SHOULD SKIP` of this policy
abbrev pub IsPolicyText : PolicyLine → List ℕ → Type 0
IsPolicyText p text = (should skip : List ℕ) × (text ≡ spaced (codes "policy" ∷ p.name ∷ should ∷ skip ∷ [])) × IsProgramWord p.source.should should × IsProgramWord p.source.skip skip

-- the bytes are the lines of the trace, with one for each of its policies
abbrev pub IsText : List ℕ → Document → Type 0
IsText bytes d = (policies : List (List ℕ)) × AllZip IsPolicyText d.policies policies × (bytes ≡ flat_map ended (lines_with d policies))
