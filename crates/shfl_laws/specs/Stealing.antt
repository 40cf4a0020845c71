-- Stealing: who may take the lock past the queue, and that it may be disabled beside the rows.
use Rattle.std.specs.Prelude.{◌≡◌, ℕ, false}
use Rattle.shfl_line.specs.declared.events.Mode.{Mode}
use Rattle.shfl_line.specs.declared.events.LineEvent.TheVariants.{Steal, Nothing}
use Rattle.shfl_line.specs.declared.words.TheConstants.{CLOSED}
use Rattle.shfl_line.specs.Words.{closed_of}
use Rattle.shfl_core.specs.declared.phase.PassState.{PassState}
use Rattle.shfl_core.specs.declared.words.Word.TheVariants.{Lock}
use Rattle.shfl_core.specs.declared.words.Access.{Access}
use Rattle.shfl_core.specs.declared.words.Access.TheVariants.{Or}
use Rattle.shfl_core.specs.Words.{look, site, written}
use Rattle.shfl_core.specs.Plan.{plan, attempt_plan}
use Rattle.shfl_core.specs.Worlds.{World}
use Rattle.shfl_core.specs.Events.{event, attempt_event}
use Rattle.shfl_core.specs.Lawful.{Terms, Lawful, Advances}

-- the operation beside the rows: the lock word says that stealing is disabled
abbrev pub disable_plan : Access
disable_plan = Or Lock CLOSED

-- no pass goes on by it
abbrev pub stealing_disabled : World → World
stealing_disabled w = record { words = written w.words disable_plan; passes = w.passes }

-- whoever makes it, it leads from a lawful world to one, and the line shows nothing of it
abbrev pub DisableLaw : Terms → Type 0
DisableLaw t = (w : World) (ok : Lawful t w) → Advances t w ok Nothing (stealing_disabled w)

-- a step that takes the lock past the queue has found stealing enabled
abbrev pub StealsWhereEnabled : Terms → Type 0
StealsWhereEnabled t = (w : World) (p : ℕ) (q : PassState) (mode : Mode)
    → event t.rules p q (look w.words (site (plan t.rules p q))) ≡ Steal p mode → closed_of (look w.words Lock) ≡ false

-- and so has an attempt
abbrev pub AttemptsWhereEnabled : Type 0
AttemptsWhereEnabled = (w : World) (p : ℕ) (tried mode : Mode)
    → attempt_event tried p (look w.words (site (attempt_plan tried))) ≡ Steal p mode → closed_of (look w.words Lock) ≡ false
