-- Stealing is enabled in the end, where it was disabled by the queue's own steps.
use Rattle.std.specs.Prelude.{◌≡◌, ◌⊎◌, ℕ, ◌<◌, List, true, false}
use Rattle.shfl_line.specs.declared.words.Attr.{Attr}
use Rattle.shfl_line.specs.Words.{closed_of}
use Rattle.shfl_core.specs.declared.phase.Phase.TheVariants.{Open}
use Rattle.shfl_core.specs.declared.words.Word.TheVariants.{Lock, Tail}
use Rattle.shfl_core.specs.Words.{look}
use Rattle.shfl_core.specs.Worlds.{World, known, opening, Move, after_move}
use Rattle.shfl_core.specs.Lawful.{Terms, Lawful}
use Rattle.shfl_drain.specs.GoingOn.{IsAtRest}

-- where stealing is disabled, somebody is queued, or a pass is about to enable it again
abbrev pub WillReopen : World → Type 0
WillReopen w = closed_of (look w.words Lock) ≡ true → (0 < look w.words Tail) ⊎ ((p : ℕ) × ((known w.passes p).phase ≡ Open))

-- so it is of an opening, each move keeps it, and where all are idle stealing is enabled then
pub record Reopens (t : Terms) : Type 0 where
  pub opens : (attrs : List Attr) → WillReopen (opening attrs)
  pub keeps : (w : World) → Lawful t w → (m : Move) → WillReopen w → WillReopen (after_move t.rules w m)
  pub at_rest : (w : World) → Lawful t w → IsAtRest w → WillReopen w → closed_of (look w.words Lock) ≡ false
