-- Which passes go on by themselves, and which wait for another.
use Rattle.std.specs.Prelude.{◌≡◌, ℕ, ◌==◌, ◌&&◌, not, Bool, false}
use Rattle.shfl_line.specs.declared.events.Mode.TheVariants.{Write, Read}
use Rattle.shfl_core.specs.declared.phase.Phase.{Phase}
use Rattle.shfl_core.specs.declared.phase.Phase.TheVariants.{Idle, Look, Begin, Mark, Peek, HeadLook, Late}
use Rattle.shfl_core.specs.declared.phase.Nap.{Nap}
use Rattle.shfl_core.specs.declared.phase.Nap.TheVariants.{Awake, Hear}
use Rattle.shfl_core.specs.declared.words.Word.TheVariants.{Lock, Next, Bell}
use Rattle.shfl_core.specs.Words.{look, free_for}
use Rattle.shfl_core.specs.Phases.{is_round}
use Rattle.shfl_core.specs.Plan.{moving}
use Rattle.shfl_core.specs.Worlds.{World, known}
use Rattle.shfl_core.specs.View.{view}
use Rattle.shfl_core.specs.Order.{is_head}

-- at this phase the pass waits for another: a waiter that isn't the head looks at its state word or shuffles, but for the
-- step that gives a waiter its batch number, which is made once for each; the head finds the lock taken; and who leaves
-- the queue finds that its successor has yet to write its name
abbrev pub waits_at : World → ℕ → Phase → Bool
waits_at w p Look = not (is_head (view w) p)
waits_at w p Begin = not (is_head (view w) p)
waits_at w p Peek = not (free_for Write (look w.words Lock))
waits_at w p HeadLook = not (free_for Read (look w.words Lock))
waits_at w p Late = look w.words (Next p) == 0
waits_at w p Mark = false
waits_at w p f = is_round f && not (is_head (view w) p)

-- a sleeper waits for its wakeup word
abbrev pub waits_by : World → ℕ → Nap → Phase → Bool
waits_by w p Awake f = waits_at w p f
waits_by w p Hear f = look w.words (Bell p) == 0
waits_by w p _ f = false

-- the pass waits for another
abbrev pub waits : World → ℕ → Bool
waits w p = waits_by w p (known w.passes p).nap (known w.passes p).phase

-- the pass has a step to make, and waits for nobody
abbrev pub goes_on : World → ℕ → Bool
goes_on w p = moving (known w.passes p) && not (waits w p)

-- every pass is idle
abbrev pub IsAtRest : World → Type 0
IsAtRest w = (p : ℕ) → (known w.passes p).phase ≡ Idle
