-- The words of the program.
use Rattle.std.specs.Prelude.{ℕ, List, [], ◌∷◌, Option, Some, None, codes, if◌then◌else◌}
use Rattle.doc_text.specs.Words.{same}
use Rattle.syncord_sim.specs.declared.commands.Command.{Command}
use Rattle.syncord_sim.specs.declared.commands.Command.TheVariants as commands

-- what is written of a setup: the report, a picture, or the run of the policy of a name as a schedule
pub data Wanted : Type 0 where
  Report : Wanted
  Picture : Wanted
  Schedule : List ℕ → Wanted

-- a command in memory
abbrev pub said : Command → Wanted
said commands.Report = Report
said commands.Picture = Picture
said (commands.Schedule name) = Schedule name.now

-- no words, `svg`, or `line NAME`
abbrev pub command_in : List (List ℕ) → Option Wanted
command_in [] = Some Report
command_in (word ∷ []) = if same word (codes "svg") then Some Picture else None
command_in (word ∷ name ∷ []) = if same word (codes "line") then Some (Schedule name) else None
command_in ws = None
