-- A world is lawful as its passes are seen exactly where it is lawful as they stand.
use Rattle.std.specs.Prelude.{◌↔◌, ℕ, List, [], ◌∷◌}
use Rattle.shfl_line.specs.declared.events.Form.{Form}
use Rattle.shfl_line.specs.Line.{Line}
use Rattle.shfl_core.specs.declared.phase.PassState.{PassState}
use Rattle.shfl_core.specs.Worlds.{World}
use Rattle.shfl_core.specs.Lawful.{Terms}
use Rattle.shfl_laws.specs.Seen.{SeenAs}
use Rattle.shfl_laws.specs.Plain.{PlainLawful}

-- each pass, as it stands, is seen by others as the one of the second list
abbrev pub EachSeenAs : Form → List PassState → List PassState → Type 0
EachSeenAs form [] [] = Unit {0}
EachSeenAs form (own ∷ owns) (seen ∷ rest) = SeenAs form own seen × EachSeenAs form owns rest
EachSeenAs form _ _ = ⊥

abbrev pub with_passes : List ℕ → List PassState → World
with_passes words passes = record { words = words; passes = passes }

-- with the passes as they stand and with the passes as they are seen a world is lawful alike, and shows the same state
abbrev pub SeenAlike : Terms → Type 0
SeenAlike t = (words : List ℕ) (owns seens : List PassState) (s : Line) → EachSeenAs t.rules.form owns seens
    → PlainLawful t (with_passes words owns) s ↔ PlainLawful t (with_passes words seens) s
