-- The commands that start no thread.
use Rattle.std.specs.Prelude.{ℕ, List, Option, Some, None}
use Rattle.doc_text.specs.Words.{◌>>?◌}
use Rattle.command_words.specs.declared.commands.Command.{Command}
use Rattle.command_words.specs.declared.commands.Command.TheVariants.{Line, Verify, Assemble, Disassemble}
use Rattle.command_words.specs.Commands.{command_in}

-- a command, where it starts no thread
abbrev pub single : Command → Option Command
single Line = Some Line
single (Verify profile) = Some (Verify profile)
single (Assemble profile) = Some (Assemble profile)
single (Disassemble profile) = Some (Disassemble profile)
single command = None

-- the command that the words are, where it starts no thread: `line`, `verify`, `verify 2`, `asm`, `asm 2`, `disasm` or `disasm 2`
abbrev pub single_in : List (List ℕ) → Option Command
single_in words = command_in words >>? single
