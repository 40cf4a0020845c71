-- What a worker's calls of the trace asked its policy.
use Rattle.std.specs.Prelude.{◌≡◌, ◌⊎◌, List, [], ◌∷◌, Option, None}
use Rattle.dir_table.specs.declared.calls.DirCall.{DirCall}
use Rattle.shfl_line.specs.declared.choosers.Told.{Told}
use Rattle.round_log.specs.declared.log.Note.{Note}
use Rattle.round_log.specs.Logs.{told_in}

-- the calls of a pass, one after another, asked what the chooser was told between these two lists, and nothing else was asked
abbrev pub AskInTurn : {Pass : Type 0} → (Pass → DirCall → Pass → Option (List Told) → Option (List Told) → Type 0) → List DirCall → Pass → Pass → Option (List Told) → Option (List Told) → Type 0
AskInTurn asks [] old new told told' = (new ≡ old) × (told' ≡ told)
AskInTurn {Pass} asks (call ∷ rest) old new told told' = (mid : Pass) × (between : Option (List Told)) × asks old call mid told between × AskInTurn asks rest mid new between told'

-- so did the calls of a pass whose chooser has a log: this has what they asked more, or keeps nothing
abbrev pub LogsTurns : {Pass : Type 0} → (Pass → DirCall → Pass → Option (List Told) → Option (List Told) → Type 0) → List DirCall → Pass → Pass → Option (List Note) → Option (List Note) → Type 0
LogsTurns asks calls old new log log' = (told : Option (List Told)) × AskInTurn asks calls old new (told_in log) told × ((told_in log' ≡ told) ⊎ (log' ≡ None))
