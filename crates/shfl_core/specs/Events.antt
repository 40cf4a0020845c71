-- The step of the line state that each step of a pass makes, by what was found.
use Rattle.std.specs.Prelude.{ℕ, zero, suc, ◌+◌, ◌==◌, ◌||◌, nat_lt, cond}
use Rattle.shfl_line.specs.declared.events.Mode.{Mode}
use Rattle.shfl_line.specs.declared.events.Mode.TheVariants.{Write, Read}
use Rattle.shfl_line.specs.declared.events.LineEvent.{LineEvent}
use Rattle.shfl_line.specs.declared.events.LineEvent.TheVariants.{Steal as StealEvent, Join, Grab as GrabEvent, Leave, Release as ReleaseEvent, Begin as BeginEvent, Rest, Pick as PickEvent, Place as PlaceEvent, Keep, Give as GiveEvent, Nothing}
use Rattle.shfl_line.specs.Words.{held_of, closed_of}
use Rattle.shfl_core.specs.declared.phase.Phase.{Phase}
use Rattle.shfl_core.specs.declared.phase.Phase.TheVariants.{Steal, Swap, Begin, Pick, Place, Mark, Give, Grab, WriteGrab, Take, Cut, Late, Release, Count, HeadCount, HeadLook, ReadRelease}
use Rattle.shfl_core.specs.declared.phase.Registers.{Registers}
use Rattle.shfl_core.specs.declared.phase.PassState.{PassState}
use Rattle.shfl_core.specs.declared.phase.Rules.{Rules}
use Rattle.shfl_core.specs.Plan.{is_awake, round_batch}

-- the pass leaves the line once its successor is known
abbrev pub leave_found : ℕ → ℕ → LineEvent
leave_found p zero = Nothing
leave_found p (suc q) = Leave p

abbrev pub event_at : Rules → ℕ → Registers → ℕ → Phase → LineEvent
event_at t p r n Steal = cond (n == 0) (StealEvent p Write) Nothing
event_at t p r n Swap = Join p
event_at t p r n Begin = cond (nat_lt (round_batch r) t.limit) (BeginEvent p) (Rest p)
event_at t p r n Pick = PickEvent p r.cand
event_at t p r n Place = PlaceEvent p
event_at t p r n Mark = Keep p
event_at t p r n Give = GiveEvent p
event_at t p r n Grab = cond (held_of n) Nothing (GrabEvent p Write)
event_at t p r n WriteGrab = cond (n == r.saw) (GrabEvent p Write) Nothing
event_at t p r n Take = leave_found p n
event_at t p r n Cut = cond (n == p + 1) (Leave p) Nothing
event_at t p r n Late = leave_found p n
event_at t p r n Release = ReleaseEvent p
event_at t p r n Count = cond (held_of n || closed_of n) Nothing (StealEvent p Read)
event_at t p r n HeadCount = cond (held_of n) Nothing (GrabEvent p Read)
event_at t p r n HeadLook = cond (held_of n) Nothing (GrabEvent p Read)
event_at t p r n ReadRelease = ReleaseEvent p
event_at t p r n _ = Nothing

-- the steps of parking change nothing that the line shows
abbrev pub event : Rules → ℕ → PassState → ℕ → LineEvent
event t p q n = cond (is_awake q.nap) (event_at t p q.reg n q.phase) Nothing

-- the event of the one operation of an attempt
abbrev pub attempt_event : Mode → ℕ → ℕ → LineEvent
attempt_event Write p n = cond (n == 0) (StealEvent p Write) Nothing
attempt_event Read p n = cond (held_of n || closed_of n) Nothing (StealEvent p Read)
