-- The words of the program.
use Rattle.std.specs.Prelude.{ℕ, List, [], ◌∷◌, Option, Some, None, codes, if◌then◌else◌}
use Rattle.doc_text.specs.Words.{same}
use Rattle.syncord_rounds.specs.declared.commands.Command.{Command}
use Rattle.syncord_rounds.specs.declared.commands.Command.TheVariants.{Replay, Pool}
use Rattle.syncord_rounds.specs.declared.lock.Lock.TheVariants.{One, Copies, Shards}

abbrev pub word_in : List ℕ → Option Command
word_in word = if same word (codes "replay") then Some (Replay None)
    else if same word (codes "shards") then Some (Replay (Some Shards))
    else if same word (codes "pool") then Some Pool else None

abbrev pub words_in : List ℕ → List ℕ → Option Command
words_in word kind = if same word (codes "replay") then
    (if same kind (codes "one") then Some (Replay (Some One))
    else if same kind (codes "copies") then Some (Replay (Some Copies)) else None) else None

-- the command, where the words are just those of one: `replay`, `replay one`, `replay copies`, `shards` or `pool`
abbrev pub command_in : List (List ℕ) → Option Command
command_in (word ∷ []) = word_in word
command_in (word ∷ kind ∷ []) = words_in word kind
command_in words = None
