-- The words of a command.
use Rattle.std.specs.Prelude.{ℕ, List, [], ◌∷◌, Option, Some, None, codes, if◌then◌else◌}
use Rattle.doc_text.specs.Words.{same, ◌>>?◌}
use Rattle.bpf_isa.specs.declared.insn.Profile.TheVariants.{One, Two}
use Rattle.command_words.specs.Numbers.{AreInRange, words_in as bulk_words_in}
use Rattle.command_words.specs.declared.commands.Command.{Command}
use Rattle.command_words.specs.declared.commands.Command.TheVariants.{Line, Verify, Replay, Shards, Pool, Bulk, Assemble, Disassemble}

-- the numbers of `bulk` are in range
abbrev pub IsPossible : Command → Type 0
IsPossible (Bulk numbers) = AreInRange numbers
IsPossible command = Unit {0}

abbrev pub word_in : List ℕ → Option Command
word_in word = if same word (codes "line") then Some Line
    else if same word (codes "verify") then Some (Verify One)
    else if same word (codes "replay") then Some Replay
    else if same word (codes "shards") then Some Shards
    else if same word (codes "pool") then Some Pool
    else if same word (codes "asm") then Some (Assemble One)
    else if same word (codes "disasm") then Some (Disassemble One) else None

abbrev pub words_in : List ℕ → List ℕ → Option Command
words_in word number = if same number (codes "2") then
    (if same word (codes "verify") then Some (Verify Two)
    else if same word (codes "asm") then Some (Assemble Two)
    else if same word (codes "disasm") then Some (Disassemble Two) else None) else None

abbrev pub bulk_in : List ℕ → List (List ℕ) → Option Command
bulk_in word numbers = if same word (codes "bulk") then (bulk_words_in numbers >>? λ b. Some (Bulk b)) else None

-- the command, where the words are just those of one: `line`, `verify`, `verify 2`, `replay`, `shards`, `pool`,
-- `bulk SEED WORKERS CALLS`, `asm`, `asm 2`, `disasm` or `disasm 2`
abbrev pub command_in : List (List ℕ) → Option Command
command_in (word ∷ []) = word_in word
command_in (word ∷ number ∷ []) = words_in word number
command_in (word ∷ numbers) = bulk_in word numbers
command_in [] = None
