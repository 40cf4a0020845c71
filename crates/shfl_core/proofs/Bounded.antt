-- A step names no pass that isn't there.
use Rattle.std.proofs.Common.{ℕ, zero, suc, ◌+◌, ◌<◌, ◌≤◌, ◌==◌, Bool, true, false, cond, arith}
use Rattle.std.specs.Prelude.{◌||◌, ◌&&◌, nat_lt, ◌%◌}
use prog.Atomic.{either}
use Rattle.shfl_line.specs.declared.events.Mode.TheVariants.{Write}
use Rattle.shfl_line.specs.Words.{held_of, closed_of, ready_of, shuffler_of, spin_of, batch_of}
use Rattle.shfl_core.specs.declared.phase.Phase.{Phase}
use Rattle.shfl_core.specs.declared.phase.Phase.TheVariants.{Idle, Steal, Init, Swap, Link, Close, Look, Begin, Next, Tail, Attr, Decide, After, Pick, Aim, Place, Mark, Give, Peek, Grab, WriteGrab, Take, Cut, Late, Ready, Open, Held, Release, Count, Uncount, TryUncount, HeadCount, HeadLook, ReadRelease}
use Rattle.shfl_core.specs.declared.phase.Registers.{Registers}
use Rattle.shfl_core.specs.declared.phase.Nap.{Nap}
use Rattle.shfl_core.specs.declared.phase.Nap.TheVariants.{Awake, Doze, Hear, Rouse, Ring}
use Rattle.shfl_core.specs.declared.phase.PassState.{PassState}
use Rattle.shfl_core.specs.declared.phase.Rules.{Rules}
use Rattle.shfl_core.specs.declared.words.Word.TheVariants.{Lock, State as StateOf}
use Rattle.shfl_core.specs.Words.{index, wide, site, put, free_for}
use Rattle.shfl_core.specs.Plan.{plan_at, plan_by, plan, parks, shares, round_batch}
use Rattle.shfl_core.specs.Take.{to, top, swap_found, looked, begun, next_found, decided, after_found, marked, heir_found, take_at, take_by, take, done, seek, sleeps, stops}
use Rattle.shfl_core.specs.Bounds.{NamesBelow, WakesBelow, IsInBounds, LinkBelow}

module _ (t : Rules) (count p : ℕ) (below : p < count) where
  at : (f : Phase) (r : Registers) → NamesBelow count p r → IsInBounds count p (to f r)
  at f r h = record { names = h; wakes = tt }

  one-of : (b : Bool) (x y : PassState) → IsInBounds count p x → IsInBounds count p y → IsInBounds count p (cond b x y)
  one-of true x y h k = h
  one-of false x y h k = k

  top-in : (r : Registers) → NamesBelow count p r → IsInBounds count p (top r)
  top-in r h = one-of ((r.batch == 0) || r.flag) (to Begin (record r { headed = true })) (to (seek r.mode) r) (at Begin (record r { headed = true }) h) (at (seek r.mode) r h)

  swap-in : (r : Registers) (n : ℕ) → NamesBelow count p r → n ≤ count → IsInBounds count p (swap_found r n)
  swap-in r zero h l = at Close r h
  swap-in r (suc q) h l = at Link (record r { before = q }) (h.0, omega arith, h.2, h.3, h.4, h.5, h.6, h.7)

  looked-in : (r : Registers) (b : Bool) → NamesBelow count p r → IsInBounds count p (looked t r b)
  looked-in r true h = top-in r h
  looked-in r false h = one-of r.flag (to Begin (record r { headed = false })) (record { phase = Look; reg = r; nap = cond (parks t.form && (r.batch == 0)) Doze Awake }) (at Begin (record r { headed = false }) h) (record { names = h; wakes = napping (parks t.form && (r.batch == 0)) })
    where
      napping : (b : Bool) → WakesBelow count (cond b Doze Awake)
      napping true = tt
      napping false = tt

  begun-in : (r : Registers) (b : Bool) → NamesBelow count p r → IsInBounds count p (begun t p r b)
  begun-in r b h = let on : Registers = record r { prev = p; last = p; count = r.batch } in one-of (nat_lt r.batch t.limit) (to (cond b Give Next) on) (to (done r) r) (at (cond b Give Next) on (h.0, h.1, below, below, h.4, h.5, h.6, h.7)) (at (done r) r h)

  next-in : (r : Registers) (n : ℕ) → NamesBelow count p r → n ≤ count → IsInBounds count p (next_found r n)
  next-in r zero h l = at Give r h
  next-in r (suc c) h l = let k : c < count = omega arith in at Tail (record r { cand = c; first = cond (r.prev == r.last) c r.first }) (h.0, h.1, h.2, h.3, pick (r.prev == r.last) k, k, h.6, h.7)
    where
      pick : (b : Bool) → c < count → cond b c r.first < count
      pick true k = k
      pick false k = h.4

  decided-in : (r : Registers) (stop b : Bool) → NamesBelow count p r → IsInBounds count p (decided r stop b)
  decided-in r stop b h = let f : Phase = cond (r.prev == r.last) Mark After in let on : Registers = record r { prev = r.cand } in one-of stop (to Give r) (cond b (to f r) (to Next on)) (at Give r h) (one-of b (to f r) (to Next on) (at f r h) (at Next on (h.0, h.1, h.5, h.3, h.4, h.5, h.6, h.7)))

  after-in : (r : Registers) (n : ℕ) → NamesBelow count p r → n ≤ count → IsInBounds count p (after_found r n)
  after-in r zero h l = at Give r h
  after-in r (suc x) h l = at Pick (record r { after = x }) (h.0, h.1, h.2, h.3, h.4, h.5, omega arith, h.7)

  ringing : (whom : ℕ) (b : Bool) → whom < count → WakesBelow count (cond b (Ring whom) Awake)
  ringing whom true h = h
  ringing whom false h = tt

  marked-in : (r : Registers) (n : ℕ) → NamesBelow count p r → IsInBounds count p (marked t r n)
  marked-in r n h = record { names = (h.0, h.1, pick (r.prev == r.last), h.5, h.4, h.5, h.6, h.7); wakes = ringing r.cand (sleeps t n) h.5 }
    where
      pick : (b : Bool) → cond b r.cand r.prev < count
      pick true = h.5
      pick false = h.2

  heir-in : (none : Phase) (r : Registers) (n : ℕ) → NamesBelow count p r → n ≤ count → IsInBounds count p (heir_found none r n)
  heir-in none r zero h l = at none r h
  heir-in none r (suc q) h l = at Ready (record r { heir = q }) (h.0, h.1, h.2, h.3, h.4, h.5, h.6, omega arith)

  take-in : (r : Registers) (n : ℕ) (c : Bool) (f : Phase) → NamesBelow count p r → LinkBelow count (site (plan_at t p r f)) n → IsInBounds count p (take_at t p r n c f)
  take-in r n c Idle h l = at Idle r h
  take-in r n c Held h l = at Held r h
  take-in r n c Steal h l = at (cond (n == 0) Held Init) r h
  take-in r n c Init h l = at Swap (record r { batch = 0; flag = false }) h
  take-in r n c Swap h l = swap-in r n h l
  take-in r n c Link h l = at Look r h
  take-in r n c Close h l = top-in r h
  take-in r n c Look h l = looked-in (record r { batch = batch_of n % 65536; flag = shuffler_of n }) (ready_of n) h
  take-in r n c Begin h l = begun-in (record r { batch = round_batch r; flag = false }) c h
  take-in r n c Next h l = next-in r n h l
  take-in r n c Tail h l = at (cond (n == r.cand + 1) Give Attr) r h
  take-in r n c Attr h l = at Decide (record r { seen = n }) h
  take-in r n c Decide h l = decided-in r (stops r n) c h
  take-in r n c After h l = after-in r n h l
  take-in r n c Pick h l = at Aim r h
  take-in r n c Aim h l = at Place r h
  take-in r n c Place h l = at Mark r h
  take-in r n c Mark h l = marked-in r n h
  take-in r n c Give h l = at (done r) (record r { flag = r.flag || (r.last == p) }) h
  take-in r n c Peek h l = let f : Phase = cond (shares t.form) WriteGrab Grab in let on : Registers = record r { saw = n } in one-of (free_for Write n) (to f on) (to Peek r) (at f on h) (at Peek r h)
  take-in r n c Grab h l = one-of (held_of n) (top r) (to Take r) (top-in r h) (at Take r h)
  take-in r n c WriteGrab h l = one-of (n == r.saw) (to Take r) (top r) (at Take r h) (top-in r h)
  take-in r n c Take h l = heir-in Cut r n h l
  take-in r n c Cut h l = at (cond (n == p + 1) Open Late) r h
  take-in r n c Late h l = heir-in Late r n h l
  take-in r n c Ready h l = record { names = h; wakes = ringing r.heir (sleeps t n) h.7 }
  take-in r n c Open h l = at Held r h
  take-in r n c Release h l = at Idle r h
  take-in r n c Count h l = at (cond (held_of n || closed_of n) Uncount Held) r h
  take-in r n c Uncount h l = at Init r h
  take-in r n c TryUncount h l = at Idle r h
  take-in r n c HeadCount h l = at (cond (held_of n) HeadLook Take) r h
  take-in r n c HeadLook h l = at (cond (held_of n) HeadLook Take) r h
  take-in r n c ReadRelease h l = at Idle r h

  -- the pass stands in bounds after its step
  pub step-in : (q : PassState) (n : ℕ) (c : Bool) → IsInBounds count p q → LinkBelow count (site (plan t p q)) n → IsInBounds count p (take t p q n c)
  step-in q n c h l = by q.nap h.wakes l
    where
      parked : (b : Bool) (x y : Nap) → WakesBelow count x → WakesBelow count y → WakesBelow count (cond b x y)
      parked true x y u v = u
      parked false x y u v = v

      by : (z : Nap) → WakesBelow count z → LinkBelow count (site (plan_by t p q.reg z q.phase)) n → IsInBounds count p (take_by t p q.reg n c z q.phase)
      by Awake w l = take-in q.reg n c q.phase h.names l
      by Doze w l = record { names = h.names; wakes = parked (ready_of n || spin_of n) Rouse Hear tt tt }
      by Hear w l = record { names = h.names; wakes = parked (n == 1) Rouse Hear tt tt }
      by Rouse w l = record { names = h.names; wakes = tt }
      by (Ring whom) w l = record { names = h.names; wakes = tt }

  lock-or-own : (b : Bool) → index (cond b Lock (StateOf p)) < wide count
  lock-or-own true = omega arith
  lock-or-own false = omega arith

  range-at : (r : Registers) (f : Phase) → NamesBelow count p r → index (site (plan_at t p r f)) < wide count
  range-at r Link h = let k = h.1 in omega arith
  range-at r Next h = let k = h.2 in omega arith
  range-at r Attr h = let k = h.5 in omega arith
  range-at r Decide h = lock-or-own r.headed
  range-at r After h = let k = h.5 in omega arith
  range-at r Pick h = let k = h.2 in omega arith
  range-at r Aim h = let k = h.5 in omega arith
  range-at r Place h = let k = h.3 in omega arith
  range-at r Mark h = let k = h.5 in omega arith
  range-at r Give h = let k = h.3 in omega arith
  range-at r Ready h = let k = h.7 in omega arith
  range-at r _ h = omega arith

  -- the word that a pass plans to touch is there
  pub in-range : (q : PassState) → IsInBounds count p q → index (site (plan t p q)) < wide count
  in-range q h = by q.nap h.wakes
    where
      by : (z : Nap) → WakesBelow count z → index (site (plan_by t p q.reg z q.phase)) < wide count
      by Awake w = range-at q.reg q.phase h.names
      by Doze w = omega arith
      by Hear w = omega arith
      by Rouse w = omega arith
      by (Ring whom) w = omega arith

  put-at : (r : Registers) (n : ℕ) (f : Phase) → NamesBelow count p r → LinkBelow count (site (plan_at t p r f)) n → LinkBelow count (site (plan_at t p r f)) (put (plan_at t p r f) n)
  put-at r n Swap h l = omega arith
  put-at r n Link h l = omega arith
  put-at r n Next h l = l
  put-at r n Tail h l = l
  put-at r n Decide h l = l
  put-at r n After h l = l
  put-at r n Pick h l = let k = h.6 in omega arith
  put-at r n Aim h l = let k = h.4 in omega arith
  put-at r n Place h l = let k = h.5 in omega arith
  put-at r n Take h l = omega arith
  put-at r n Cut h l = by (n == p + 1)
    where
      by : (b : Bool) → either b 0 n ≤ count
      by true = omega arith
      by false = l
  put-at r n Late h l = omega arith
  put-at r n _ h l = tt

  -- what the step leaves in the word names a pass that is there, or nobody
  pub put-in : (q : PassState) (n : ℕ) → IsInBounds count p q → LinkBelow count (site (plan t p q)) n → LinkBelow count (site (plan t p q)) (put (plan t p q) n)
  put-in q n h l = by q.nap l
    where
      by : (z : Nap) → LinkBelow count (site (plan_by t p q.reg z q.phase)) n → LinkBelow count (site (plan_by t p q.reg z q.phase)) (put (plan_by t p q.reg z q.phase) n)
      by Awake l = put-at q.reg n q.phase h.names l
      by Doze l = tt
      by Hear l = tt
      by Rouse l = tt
      by (Ring whom) l = tt
