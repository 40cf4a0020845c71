-- The locks that a seat keeps: none, or one alone, or those of a list.
use Rattle.std.specs.Prelude.{◌≡◌, ℕ, List, [], ◌∷◌}
use Rattle.shfl_line.specs.declared.events.Mode.{Mode}
use Rattle.shfl_line.specs.declared.events.Mode.TheVariants.{Write, Read}
use Rattle.shfl_core.specs.declared.phase.PassState.{PassState}
use Rattle.shfl_core.specs.Waiting.{idle}
use Rattle.shfl_arena.specs.Threads.{resting}
use Rattle.shfl_seats.specs.declared.held.Stand.{Stand}
use Rattle.shfl_seats.specs.declared.held.Stand.TheVariants.{Bare, Idle, Writes, Owns, Reads, InList}

-- this lock alone is held, by an attempt that won
abbrev pub won : ℕ → Mode → Stand
won lock Write = Writes lock
won lock Read = Reads lock

-- this lock alone is held, somehow
abbrev pub alone : ℕ → Mode → Stand
alone lock Write = Owns lock
alone lock Read = Reads lock

-- all of them
abbrev pub listed : Stand → List (ℕ × Mode) → List (ℕ × Mode)
listed Bare others = []
listed Idle others = []
listed (Writes lock) others = (lock, Write) ∷ []
listed (Owns lock) others = (lock, Write) ∷ []
listed (Reads lock) others = (lock, Read) ∷ []
listed InList others = others

-- the list is empty where nothing is said by it
abbrev pub LeavesEmpty : Stand → List (ℕ × Mode) → Type 0
LeavesEmpty Bare others = others ≡ []
LeavesEmpty Idle others = others ≡ []
LeavesEmpty (Writes lock) others = others ≡ []
LeavesEmpty (Owns lock) others = others ≡ []
LeavesEmpty (Reads lock) others = others ≡ []
LeavesEmpty InList others = Unit {0}

-- the pass after a writer's attempt that won, and after what it took was given back
abbrev pub HasBlankPass : Stand → PassState → Type 0
HasBlankPass Bare own = own ≡ idle own.reg.me
HasBlankPass Idle own = Unit {0}
HasBlankPass (Writes lock) own = own ≡ resting own.reg.me Write
HasBlankPass (Owns lock) own = Unit {0}
HasBlankPass (Reads lock) own = Unit {0}
HasBlankPass InList own = Unit {0}

-- what holds of any pass
abbrev pub TellsNoPass : Stand → Type 0
TellsNoPass stand = (own : PassState) → HasBlankPass stand own
