-- The words of the program.
use Rattle.std.specs.Prelude.{ℕ, List, [], ◌∷◌, true, false, ◌&&◌, Option, Some, None, codes, if◌then◌else◌}
use Rattle.doc_text.specs.Words.{same}
use Rattle.syncord_draw.specs.declared.commands.Command.{Command}
use Rattle.syncord_draw.specs.declared.commands.Command.TheVariants.{Svg, Text, Page}

-- `--text`, `--all` or `--html`
abbrev pub command_named : List ℕ → Option Command
command_named word = if same word (codes "--text") then Some (Text false)
    else if same word (codes "--all") then Some (Svg true)
    else if same word (codes "--html") then Some Page
    else None

-- no words, one of these, or `--text --all`
abbrev pub command_in : List (List ℕ) → Option Command
command_in [] = Some (Svg false)
command_in (word ∷ []) = command_named word
command_in (one ∷ other ∷ []) = if same one (codes "--text") && same other (codes "--all") then Some (Text true) else None
command_in ws = None
