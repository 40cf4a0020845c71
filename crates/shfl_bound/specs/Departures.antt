-- Who stands ahead of a pass in the line, and who leaves the queue before it does.
use Rattle.std.specs.Prelude.{◌≡◌, ◌⊎◌, ℕ, ◌<◌, List, [], ◌∷◌, Some, Bool, true, false, cond, ◌==◌}
use Rattle.shfl_line.specs.declared.events.LineEvent.{LineEvent}
use Rattle.shfl_line.specs.declared.events.LineEvent.TheVariants.{Leave}
use Rattle.shfl_line.specs.Passes.{times}
use Rattle.shfl_line.specs.Line.{Line}
use Rattle.shfl_core.specs.declared.phase.Phase.{Phase}
use Rattle.shfl_core.specs.declared.phase.Phase.TheVariants.{Ready, Open, Held}

-- the pass stands in the line, or is the detached one
abbrev pub Waits : Line → ℕ → Type 0
Waits s x = (0 < times x s.line) ⊎ (s.hand ≡ Some x)

-- the passes of the line before x, and all of them where x doesn't stand in it
abbrev pub ahead : ℕ → List ℕ → List ℕ
ahead x [] = []
ahead x (p ∷ rest) = cond (p == x) [] (p ∷ ahead x rest)

-- the pass that leaves the queue by the event, or none
abbrev pub leaver : LineEvent → List ℕ
leaver (Leave p) = p ∷ []
leaver _ = []

-- the passes that leave the queue by these events before x does, in their order
abbrev pub left_before : ℕ → List LineEvent → List ℕ
left_before x [] = []
left_before x (Leave p ∷ rest) = cond (p == x) [] (p ∷ left_before x rest)
left_before x (_ ∷ rest) = left_before x rest

-- the pass has left the queue or come past it, and hasn't begun to give the lock back
abbrev pub is_through : Phase → Bool
is_through Ready = true
is_through Open = true
is_through Held = true
is_through _ = false
