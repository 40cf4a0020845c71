-- In which line each word and each datum stands.
use Rattle.std.specs.Prelude.{ℕ, ◌+◌, ◌*◌, ◌/◌, List, Bool, true, false, Option, Some, None, slice_index_or}
use Rattle.shfl_core.specs.declared.words.Word.{Word}
use Rattle.shfl_core.specs.declared.words.Word.TheVariants.{Lock, Tail, Next, State, Attr, Bell}
use Rattle.shfl_core.specs.declared.words.Access.{Access}
use Rattle.shfl_core.specs.declared.words.Access.TheVariants.{Load, Store}
use Rattle.shfl_core.specs.Words.{index}
use Rattle.sim_setup.specs.declared.setup.Layout.{Layout}
use Rattle.sim_setup.specs.declared.setup.Layout.TheVariants.{Padded, Joined, Packed}
use Rattle.sim_setup.specs.declared.setup.Core.{Core}
use Rattle.sim_setup.specs.declared.lines.Line.{Line}
use Rattle.sim_setup.specs.Sets.{no_cores}

-- the place of a word where they stand close: lock and tail, and then four for each pass
abbrev pub close_place : Word → ℕ
close_place Lock = 0
close_place Tail = 1
close_place (Next p) = 4 * p + 2
close_place (State p) = 4 * p + 3
close_place (Attr p) = 4 * p + 4
close_place (Bell p) = 4 * p + 5

-- a line for the lock word, one for the tail word, and one for the words of each pass
abbrev pub apart_line : Word → ℕ
apart_line word = index word / 10

-- the same, but that the tail word shares the lock word's
abbrev pub joined_line : Word → ℕ
joined_line Tail = 0
joined_line word = apart_line word

-- the line of a word, which in the last layout is one for eight words that stand close
abbrev pub line_of : Layout → Word → ℕ
line_of Padded word = apart_line word
line_of Joined word = joined_line word
line_of Packed word = close_place word / 8

abbrev pub is_load : Access → Bool
is_load (Load w) = true
is_load _ = false

-- the pass whose wakeup word the operation sets
abbrev pub rung_word : Word → Option ℕ
rung_word (Bell p) = Some p
rung_word _ = None

abbrev pub rung : Access → Option ℕ
rung (Store w v) = rung_word w
rung _ = None

abbrev pub line_at : List Line → ℕ → Line
line_at lines at = slice_index_or lines at (record { has = no_cores; free = 0 })

abbrev pub core_at : List Core → ℕ → Core
core_at cores p = slice_index_or cores p (record { attr = record { socket = 0; prio = 0; class = 0; kind = 0 }; own = no_cores; mates = no_cores })
