-- A step by which a pass comes through the queue, or past it, is its departure or its steal.
use Rattle.std.proofs.Common.{◌≡◌, ℕ, zero, suc, ◌+◌, ◌≤◌, Bool, true, false, cond, ◌==◌, length, refl, ap, arith}
use Rattle.std.specs.Prelude.{◌||◌}
use Rattle.shfl_line.specs.declared.events.Mode.TheVariants.{Write, Read}
use Rattle.shfl_line.specs.declared.events.LineEvent.{LineEvent}
use Rattle.shfl_line.specs.declared.events.LineEvent.TheVariants as event
use Rattle.shfl_line.specs.Words.{held_of, closed_of}
use Rattle.shfl_core.specs.declared.phase.Phase.{Phase}
use Rattle.shfl_core.specs.declared.phase.Phase.TheVariants as phase
use Rattle.shfl_core.specs.declared.phase.Registers.{Registers as Regs}
use Rattle.shfl_core.specs.declared.phase.Nap.{Nap}
use Rattle.shfl_core.specs.declared.phase.Nap.TheVariants.{Awake, Doze, Hear, Rouse, Ring}
use Rattle.shfl_core.specs.declared.phase.PassState.{PassState}
use Rattle.shfl_core.specs.declared.phase.Rules.{Rules}
use Rattle.shfl_core.specs.Plan.{is_awake}
use Rattle.shfl_core.specs.Take.{take, take_at, take_by}
use Rattle.shfl_core.specs.Events.{event as event_of, event_at}
use Rattle.shfl_bound.specs.Departures.{leaver, is_through}
use Rattle.shfl_bound.specs.Stealing.{stealer}
use Rattle.shfl_bound.proofs.Inside.{stays-in}

-- one where the pass is through
abbrev pub through : Phase → ℕ
through f = cond (is_through f) 1 0

-- how many the event lets through
abbrev pub lets : LineEvent → ℕ
lets e = length (leaver e) + length (stealer e)

none-more : (f g : Phase) (e : LineEvent) → is_through f ≡ false → through f ≤ through g + lets e
none-more f g e h = let z : through f ≡ 0 = ap (λ b. cond b 1 0) h in omega arith

at-phase : (t : Rules) (p : ℕ) (r : Regs) (n : ℕ) (c : Bool) (f : Phase) → through (take_at t p r n c f).phase ≤ through f + lets (event_at t p r n f)
at-phase t p r n c phase.Steal = by (n == 0)
  where
    by : (b : Bool) → through (cond b phase.Held phase.Init) ≤ 0 + lets (cond b (event.Steal p Write) event.Nothing)
    by true = omega arith
    by false = omega arith
at-phase t p r n c phase.Count = by (held_of n || closed_of n)
  where
    by : (b : Bool) → through (cond b phase.Uncount phase.Held) ≤ 0 + lets (cond b event.Nothing (event.Steal p Read))
    by true = omega arith
    by false = omega arith
at-phase t p r zero c phase.Take = omega arith
at-phase t p r (suc n) c phase.Take = omega arith
at-phase t p r n c phase.Cut = by (n == p + 1)
  where
    by : (b : Bool) → through (cond b phase.Open phase.Late) ≤ 0 + lets (cond b (event.Leave p) event.Nothing)
    by true = omega arith
    by false = omega arith
at-phase t p r zero c phase.Late = omega arith
at-phase t p r (suc n) c phase.Late = omega arith
at-phase t p r n c phase.Ready = omega arith
at-phase t p r n c phase.Open = omega arith
at-phase t p r n c phase.Held = omega arith
at-phase t p r n c f = none-more (take_at t p r n c f).phase f (event_at t p r n f) (stays-in t p r n c f refl)

-- whatever the park state
pub by-step : (t : Rules) (p : ℕ) (q : PassState) (n : ℕ) (c : Bool) → through (take t p q n c).phase ≤ through q.phase + lets (event_of t p q n)
by-step t p q n c = by q.nap
  where
    by : (x : Nap) → through (take_by t p q.reg n c x q.phase).phase ≤ through q.phase + lets (cond (is_awake x) (event_at t p q.reg n q.phase) event.Nothing)
    by Awake = at-phase t p q.reg n c q.phase
    by Doze = omega arith
    by Hear = omega arith
    by Rouse = omega arith
    by (Ring whom) = omega arith
