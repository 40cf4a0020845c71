-- From inside or outside the queue a step leads to no phase of a pass that has come through it, but for eight phases.
use Rattle.std.proofs.Common.{◌≡◌, ℕ, zero, suc, ◌+◌, ◌%◌, Bool, true, false, cond, ◌==◌, refl}
use Rattle.std.specs.Prelude.{◌&&◌, nat_lt}
use Rattle.shfl_line.specs.declared.events.Mode.TheVariants.{Write}
use Rattle.shfl_line.specs.Words.{held_of, ready_of, shuffler_of, batch_of}
use Rattle.shfl_core.specs.declared.phase.Phase.{Phase}
use Rattle.shfl_core.specs.declared.phase.Phase.TheVariants as phase
use Rattle.shfl_core.specs.declared.phase.Registers.{Registers as Regs}
use Rattle.shfl_core.specs.declared.phase.Nap.TheVariants.{Awake, Doze}
use Rattle.shfl_core.specs.declared.phase.Rules.{Rules}
use Rattle.shfl_core.specs.Words.{free_for}
use Rattle.shfl_core.specs.Plan.{parks, shares, round_batch}
use Rattle.shfl_core.specs.Take.{to, take_at, top, done, looked, stops}
use Rattle.shfl_bound.proofs.Leading.{one-of, either-of, tops, ends}
use Rattle.shfl_bound.specs.Departures.{is_through}

-- the phases whose steps let nobody through
abbrev pub is_inside : Phase → Bool
is_inside phase.Steal = false
is_inside phase.Count = false
is_inside phase.Take = false
is_inside phase.Cut = false
is_inside phase.Late = false
is_inside phase.Ready = false
is_inside phase.Open = false
is_inside phase.Held = false
is_inside _ = true

pub stays-in : (t : Rules) (p : ℕ) (r : Regs) (n : ℕ) (c : Bool) (f : Phase) → is_inside f ≡ true → is_through (take_at t p r n c f).phase ≡ false
stays-in t p r zero c phase.Swap d = refl
stays-in t p r (suc n) c phase.Swap d = refl
stays-in t p r n c phase.Close d = tops is_through refl refl refl r
stays-in t p r n c phase.Look d = by (record r { batch = batch_of n % 65536; flag = shuffler_of n }) (ready_of n)
  where
    by : (s : Regs) (b : Bool) → is_through (looked t s b).phase ≡ false
    by s true = tops is_through refl refl refl s
    by s false = either-of is_through s.flag (to phase.Begin (record s { headed = false })) (record { phase = phase.Look; reg = s; nap = cond (parks t.form && (s.batch == 0)) Doze Awake }) refl refl
stays-in t p r n c phase.Begin d = let s : Regs = record r { batch = round_batch r; flag = false } in
    either-of is_through (nat_lt s.batch t.limit) (to (cond c phase.Give phase.Next) (record s { prev = p; last = p; count = s.batch })) (to (done s) s)
    (one-of is_through c phase.Give phase.Next refl refl) (ends is_through refl refl refl refl s)
stays-in t p r zero c phase.Next d = refl
stays-in t p r (suc n) c phase.Next d = refl
stays-in t p r n c phase.Tail d = one-of is_through (n == r.cand + 1) phase.Give phase.Attr refl refl
stays-in t p r n c phase.Decide d = either-of is_through (stops r n) (to phase.Give r) (cond c (to (cond (r.prev == r.last) phase.Mark phase.After) r) (to phase.Next (record r { prev = r.cand }))) refl
    (either-of is_through c (to (cond (r.prev == r.last) phase.Mark phase.After) r) (to phase.Next (record r { prev = r.cand })) (one-of is_through (r.prev == r.last) phase.Mark phase.After refl refl) refl)
stays-in t p r zero c phase.After d = refl
stays-in t p r (suc n) c phase.After d = refl
stays-in t p r n c phase.Mark d = one-of is_through (nat_lt (r.count + 1) t.limit) phase.Next phase.Give refl refl
stays-in t p r n c phase.Give d = ends is_through refl refl refl refl r
stays-in t p r n c phase.Peek d = either-of is_through (free_for Write n) (to (cond (shares t.form) phase.WriteGrab phase.Grab) (record r { saw = n })) (to phase.Peek r)
    (one-of is_through (shares t.form) phase.WriteGrab phase.Grab refl refl) refl
stays-in t p r n c phase.Grab d = either-of is_through (held_of n) (top r) (to phase.Take r) (tops is_through refl refl refl r) refl
stays-in t p r n c phase.WriteGrab d = either-of is_through (n == r.saw) (to phase.Take r) (top r) refl (tops is_through refl refl refl r)
stays-in t p r n c phase.HeadCount d = one-of is_through (held_of n) phase.HeadLook phase.Take refl refl
stays-in t p r n c phase.HeadLook d = one-of is_through (held_of n) phase.HeadLook phase.Take refl refl
stays-in t p r n c phase.Steal d = absurd (cc)
stays-in t p r n c phase.Count d = absurd (cc)
stays-in t p r n c phase.Take d = absurd (cc)
stays-in t p r n c phase.Cut d = absurd (cc)
stays-in t p r n c phase.Late d = absurd (cc)
stays-in t p r n c phase.Ready d = absurd (cc)
stays-in t p r n c phase.Open d = absurd (cc)
stays-in t p r n c phase.Held d = absurd (cc)
stays-in t p r n c f d = refl
