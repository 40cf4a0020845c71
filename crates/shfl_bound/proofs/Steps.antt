-- What a step of each phase does: which event of the line it makes, and whether a waiter is moved up afterwards.
use Rattle.std.proofs.Common.{◌≡◌, ℕ, zero, suc, ◌+◌, Bool, true, false, cond, ◌==◌, refl, inl}
use Rattle.std.specs.Prelude.{nat_lt, ◌||◌, ◌&&◌, ◌%◌}
use Rattle.shfl_line.specs.declared.events.Mode.TheVariants.{Write, Read}
use Rattle.shfl_line.specs.declared.events.LineEvent.{LineEvent}
use Rattle.shfl_line.specs.declared.events.LineEvent.TheVariants as event
use Rattle.shfl_line.specs.Line.{Line}
use Rattle.shfl_line.specs.Words.{held_of, closed_of, ready_of, shuffler_of, batch_of}
use Rattle.shfl_core.specs.declared.phase.Phase.{Phase}
use Rattle.shfl_core.specs.declared.phase.Phase.TheVariants as phase
use Rattle.shfl_core.specs.declared.phase.Registers.{Registers as Regs}
use Rattle.shfl_core.specs.declared.phase.Nap.{Nap}
use Rattle.shfl_core.specs.declared.phase.Nap.TheVariants.{Awake, Doze, Hear, Rouse, Ring}
use Rattle.shfl_core.specs.declared.phase.Rules.{Rules}
use Rattle.shfl_core.specs.Words.{free_for}
use Rattle.shfl_core.specs.Plan.{parks, shares, round_batch}
use Rattle.shfl_core.specs.Take.{take_at, take_by, nap_found, to, top, done, looked, begun, heir_found, peeked}
use Rattle.shfl_core.specs.Events.{event_at, leave_found}
use Rattle.shfl_bound.proofs.LineSteps.{Goes}
use Rattle.shfl_bound.proofs.MovedUp.{moves_up}
use Rattle.shfl_bound.proofs.Leading.{one-of, either-of, tops, ends}

-- the phases whose steps neither choose a waiter to move up nor move it
abbrev pub is_plain : Phase → Bool
is_plain phase.Decide = false
is_plain phase.Pick = false
is_plain phase.Aim = false
is_plain phase.Place = false
is_plain phase.Mark = false
is_plain _ = true

looks : (t : Rules) (r : Regs) (b : Bool) → moves_up (looked t r b).phase ≡ false
looks t r true = tops moves_up refl refl refl r
looks t r false = either-of moves_up r.flag (to phase.Begin (record r { headed = false })) (record { phase = phase.Look; reg = r; nap = cond (parks t.form && (r.batch == 0)) Doze Awake }) refl refl

begins : (t : Rules) (p : ℕ) (r : Regs) (skip : Bool) → moves_up (begun t p r skip).phase ≡ false
begins t p r skip = either-of moves_up (nat_lt r.batch t.limit) (to (cond skip phase.Give phase.Next) (record r { prev = p; last = p; count = r.batch })) (to (done r) r)
    (one-of moves_up skip phase.Give phase.Next refl refl) (ends moves_up refl refl refl refl r)

finds : (f : Phase) (r : Regs) (n : ℕ) → moves_up f ≡ false → moves_up (heir_found f r n).phase ≡ false
finds f r zero e = e
finds f r (suc q) e = refl

peeks : (t : Rules) (r : Regs) (n : ℕ) → moves_up (peeked t r n).phase ≡ false
peeks t r n = either-of moves_up (free_for Write n) (to (cond (shares t.form) phase.WriteGrab phase.Grab) (record r { saw = n })) (to phase.Peek r)
    (one-of moves_up (shares t.form) phase.WriteGrab phase.Grab refl refl) refl

-- such a step leads to none that moves one up
pub leads : (t : Rules) (p : ℕ) (r : Regs) (n : ℕ) (c : Bool) (f : Phase) → is_plain f ≡ true → moves_up (take_at t p r n c f).phase ≡ false
leads t p r n c phase.Idle e = refl
leads t p r n c phase.Held e = refl
leads t p r n c phase.Steal e = one-of moves_up (n == 0) phase.Held phase.Init refl refl
leads t p r n c phase.Init e = refl
leads t p r zero c phase.Swap e = refl
leads t p r (suc n) c phase.Swap e = refl
leads t p r n c phase.Link e = refl
leads t p r n c phase.Close e = tops moves_up refl refl refl r
leads t p r n c phase.Look e = looks t (record r { batch = batch_of n % 65536; flag = shuffler_of n }) (ready_of n)
leads t p r n c phase.Begin e = begins t p (record r { batch = round_batch r; flag = false }) c
leads t p r zero c phase.Next e = refl
leads t p r (suc n) c phase.Next e = refl
leads t p r n c phase.Tail e = one-of moves_up (n == r.cand + 1) phase.Give phase.Attr refl refl
leads t p r n c phase.Attr e = refl
leads t p r n c phase.Decide e = absurd (cc)
leads t p r zero c phase.After e = refl
leads t p r (suc n) c phase.After e = refl
leads t p r n c phase.Pick e = absurd (cc)
leads t p r n c phase.Aim e = absurd (cc)
leads t p r n c phase.Place e = absurd (cc)
leads t p r n c phase.Mark e = absurd (cc)
leads t p r n c phase.Give e = ends moves_up refl refl refl refl r
leads t p r n c phase.Peek e = peeks t r n
leads t p r n c phase.Grab e = either-of moves_up (held_of n) (top r) (to phase.Take r) (tops moves_up refl refl refl r) refl
leads t p r n c phase.WriteGrab e = either-of moves_up (n == r.saw) (to phase.Take r) (top r) refl (tops moves_up refl refl refl r)
leads t p r n c phase.Take e = finds phase.Cut r n refl
leads t p r n c phase.Cut e = one-of moves_up (n == p + 1) phase.Open phase.Late refl refl
leads t p r n c phase.Late e = finds phase.Late r n refl
leads t p r n c phase.Ready e = refl
leads t p r n c phase.Open e = refl
leads t p r n c phase.Release e = refl
leads t p r n c phase.Count e = one-of moves_up (held_of n || closed_of n) phase.Uncount phase.Held refl refl
leads t p r n c phase.Uncount e = refl
leads t p r n c phase.TryUncount e = refl
leads t p r n c phase.HeadCount e = one-of moves_up (held_of n) phase.HeadLook phase.Take refl refl
leads t p r n c phase.HeadLook e = one-of moves_up (held_of n) phase.HeadLook phase.Take refl refl
leads t p r n c phase.ReadRelease e = refl

pub goes-cond : (s : Line) (old new : ℕ) (b : Bool) (e d : LineEvent) → Goes s e old new → Goes s d old new → Goes s (cond b e d) old new
goes-cond s old new true e d x y = x
goes-cond s old new false e d x y = y

goes-leave : (s : Line) (old new p n : ℕ) → new ≡ old → Goes s (leave_found p n) old new
goes-leave s old new p zero i = inl i
goes-leave s old new p (suc n) i = i

-- and its event leaves who is moved up
pub goes-plain : (s : Line) (old new : ℕ) (t : Rules) (p : ℕ) (r : Regs) (n : ℕ) (f : Phase) → is_plain f ≡ true → new ≡ old → Goes s (event_at t p r n f) old new
goes-plain s old new t p r n phase.Steal e i = goes-cond s old new (n == 0) (event.Steal p Write) event.Nothing i (inl i)
goes-plain s old new t p r n phase.Swap e i = i
goes-plain s old new t p r n phase.Begin e i = goes-cond s old new (nat_lt (round_batch r) t.limit) (event.Begin p) (event.Rest p) i i
goes-plain s old new t p r n phase.Pick e i = absurd (cc)
goes-plain s old new t p r n phase.Place e i = absurd (cc)
goes-plain s old new t p r n phase.Mark e i = absurd (cc)
goes-plain s old new t p r n phase.Give e i = i
goes-plain s old new t p r n phase.Grab e i = goes-cond s old new (held_of n) event.Nothing (event.Grab p Write) (inl i) i
goes-plain s old new t p r n phase.WriteGrab e i = goes-cond s old new (n == r.saw) (event.Grab p Write) event.Nothing i (inl i)
goes-plain s old new t p r n phase.Take e i = goes-leave s old new p n i
goes-plain s old new t p r n phase.Cut e i = goes-cond s old new (n == p + 1) (event.Leave p) event.Nothing i (inl i)
goes-plain s old new t p r n phase.Late e i = goes-leave s old new p n i
goes-plain s old new t p r n phase.Release e i = i
goes-plain s old new t p r n phase.Count e i = goes-cond s old new (held_of n || closed_of n) event.Nothing (event.Steal p Read) (inl i) i
goes-plain s old new t p r n phase.HeadCount e i = goes-cond s old new (held_of n) event.Nothing (event.Grab p Read) (inl i) i
goes-plain s old new t p r n phase.HeadLook e i = goes-cond s old new (held_of n) event.Nothing (event.Grab p Read) (inl i) i
goes-plain s old new t p r n phase.ReadRelease e i = i
goes-plain s old new t p r n _ e i = inl i

-- a step of parking changes the park state alone
pub asleep : (t : Rules) (p : ℕ) (r : Regs) (n : ℕ) (c : Bool) (x : Nap) (f : Phase) → (x ≡ Awake → ⊥) → take_by t p r n c x f ≡ record { phase = f; reg = r; nap = nap_found x n }
asleep t p r n c Awake f e = absurd (e refl)
asleep t p r n c Doze f e = refl
asleep t p r n c Hear f e = refl
asleep t p r n c Rouse f e = refl
asleep t p r n c (Ring q) f e = refl
