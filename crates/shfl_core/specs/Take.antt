-- Where a pass stands after its step, by what was found.
use Rattle.std.specs.Prelude.{ℕ, zero, suc, ◌+◌, ◌%◌, ◌==◌, ◌&&◌, ◌||◌, not, nat_lt, Bool, true, false, cond}
use Rattle.shfl_line.specs.declared.events.Mode.{Mode}
use Rattle.shfl_line.specs.declared.events.Mode.TheVariants.{Write, Read}
use Rattle.shfl_core.specs.declared.phase.Phase.{Phase}
use Rattle.shfl_core.specs.declared.phase.Phase.TheVariants.{Idle, Steal, Init, Swap, Link, Close, Look, Begin, Next, Tail, Attr, Decide, After, Pick, Aim, Place, Mark, Give, Peek, Grab, WriteGrab, Take, Cut, Late, Ready, Open, Held, Release, Count, Uncount, TryUncount, HeadCount, HeadLook, ReadRelease}
use Rattle.shfl_core.specs.declared.phase.Registers.{Registers}
use Rattle.shfl_core.specs.declared.phase.Nap.{Nap}
use Rattle.shfl_core.specs.declared.phase.Nap.TheVariants.{Awake, Doze, Hear, Rouse, Ring}
use Rattle.shfl_core.specs.declared.phase.PassState.{PassState}
use Rattle.shfl_core.specs.declared.phase.Rules.{Rules}
use Rattle.shfl_line.specs.Words.{held_of, closed_of, ready_of, shuffler_of, parked_of, spin_of, batch_of}
use Rattle.shfl_core.specs.Words.{free_for}
use Rattle.shfl_core.specs.Plan.{parks, shares, is_idle, is_resting, round_batch}

-- awake at a phase
abbrev pub to : Phase → Registers → PassState
to f r = record { phase = f; reg = r; nap = Awake }

-- how the queue head looks for the free lock
abbrev pub seek : Mode → Phase
seek Write = Peek
seek Read = HeadCount

-- the queue head begins a round where it may, and else looks for the free lock
abbrev pub top : Registers → PassState
top r = cond ((r.batch == 0) || r.flag) (to Begin (record r { headed = true })) (to (seek r.mode) r)

-- where a round leads in the end
abbrev pub done : Registers → Phase
done r = cond r.headed (seek r.mode) Look

abbrev pub swap_found : Registers → ℕ → PassState
swap_found r zero = to Close r
swap_found r (suc q) = to Link (record r { before = q })

-- a waiter that is neither ready nor the shuffler looks again, and parks where it is in no batch
abbrev pub looked : Rules → Registers → Bool → PassState
looked t r true = top r
looked t r false = cond r.flag
    (to Begin (record r { headed = false }))
    (record { phase = Look; reg = r; nap = cond (parks t.form && (r.batch == 0)) Doze Awake })

abbrev pub begun : Rules → ℕ → Registers → Bool → PassState
begun t p r skip = cond (nat_lt r.batch t.limit)
    (to (cond skip Give Next) (record r { prev = p; last = p; count = r.batch }))
    (to (done r) r)

abbrev pub next_found : Registers → ℕ → PassState
next_found r zero = to Give r
next_found r (suc c) = to Tail (record r { cand = c; first = cond (r.prev == r.last) c r.first })

-- a round stops where the lock is free for its head, or where its shuffler is made ready
abbrev pub stops : Registers → ℕ → Bool
stops r n = cond r.headed (free_for r.mode n) (ready_of n)

abbrev pub decided : Registers → Bool → Bool → PassState
decided r stop choice = cond stop
    (to Give r)
    (cond choice
    (to (cond (r.prev == r.last) Mark After) r)
    (to Next (record r { prev = r.cand })))

abbrev pub after_found : Registers → ℕ → PassState
after_found r zero = to Give r
after_found r (suc x) = to Pick (record r { after = x })

-- the pass whose state word said this is parked, and nobody has woken it
abbrev pub sleeps : Rules → ℕ → Bool
sleeps t n = parks t.form && parked_of n && not (ready_of n) && not (spin_of n)

abbrev pub marked : Rules → Registers → ℕ → PassState
marked t r n = record {
  phase = cond (nat_lt (r.count + 1) t.limit) Next Give;
  reg = record r { prev = cond (r.prev == r.last) r.cand r.prev; last = r.cand; count = (r.count + 1) % 65536 };
  nap = cond (sleeps t n) (Ring r.cand) Awake;
}

abbrev pub given : ℕ → Registers → PassState
given p r = to (done r) (record r { flag = r.flag || (r.last == p) })

abbrev pub peeked : Rules → Registers → ℕ → PassState
peeked t r n = cond (free_for Write n) (to (cond (shares t.form) WriteGrab Grab) (record r { saw = n })) (to Peek r)

abbrev pub heir_found : Phase → Registers → ℕ → PassState
heir_found none r zero = to none r
heir_found none r (suc q) = to Ready (record r { heir = q })

abbrev pub readied : Rules → Registers → ℕ → PassState
readied t r n = record { phase = Held; reg = r; nap = cond (sleeps t n) (Ring r.heir) Awake }

-- after the step of each phase, where n was found
abbrev pub take_at : Rules → ℕ → Registers → ℕ → Bool → Phase → PassState
take_at t p r n choice Idle = to Idle r
take_at t p r n choice Held = to Held r
take_at t p r n choice Steal = to (cond (n == 0) Held Init) r
take_at t p r n choice Init = to Swap (record r { batch = 0; flag = false })
take_at t p r n choice Swap = swap_found r n
take_at t p r n choice Link = to Look r
take_at t p r n choice Close = top r
take_at t p r n choice Look = looked t (record r { batch = batch_of n % 65536; flag = shuffler_of n }) (ready_of n)
take_at t p r n choice Begin = begun t p (record r { batch = round_batch r; flag = false }) choice
take_at t p r n choice Next = next_found r n
take_at t p r n choice Tail = to (cond (n == r.cand + 1) Give Attr) r
take_at t p r n choice Attr = to Decide (record r { seen = n })
take_at t p r n choice Decide = decided r (stops r n) choice
take_at t p r n choice After = after_found r n
take_at t p r n choice Pick = to Aim r
take_at t p r n choice Aim = to Place r
take_at t p r n choice Place = to Mark r
take_at t p r n choice Mark = marked t r n
take_at t p r n choice Give = given p r
take_at t p r n choice Peek = peeked t r n
take_at t p r n choice Grab = cond (held_of n) (top r) (to Take r)
take_at t p r n choice WriteGrab = cond (n == r.saw) (to Take r) (top r)
take_at t p r n choice Take = heir_found Cut r n
take_at t p r n choice Cut = to (cond (n == p + 1) Open Late) r
take_at t p r n choice Late = heir_found Late r n
take_at t p r n choice Ready = readied t r n
take_at t p r n choice Open = to Held r
take_at t p r n choice Release = to Idle r
take_at t p r n choice Count = to (cond (held_of n || closed_of n) Uncount Held) r
take_at t p r n choice Uncount = to Init r
take_at t p r n choice TryUncount = to Idle r
take_at t p r n choice HeadCount = to (cond (held_of n) HeadLook Take) r
take_at t p r n choice HeadLook = to (cond (held_of n) HeadLook Take) r
take_at t p r n choice ReadRelease = to Idle r

-- after the step of each park state: the phase and the registers stay
abbrev pub nap_found : Nap → ℕ → Nap
nap_found Awake n = Awake
nap_found Doze n = cond (ready_of n || spin_of n) Rouse Hear
nap_found Hear n = cond (n == 1) Rouse Hear
nap_found Rouse n = Awake
nap_found (Ring whom) n = Awake

abbrev pub take_by : Rules → ℕ → Registers → ℕ → Bool → Nap → Phase → PassState
take_by t p r n choice Awake f = take_at t p r n choice f
take_by t p r n choice nap f = record { phase = f; reg = r; nap = nap_found nap n }

-- where the pass p, which stood at q, stands after its step
abbrev pub take : Rules → ℕ → PassState → ℕ → Bool → PassState
take t p q n choice = take_by t p q.reg n choice q.nap q.phase

-- the first phase of an acquire, and of a release
abbrev pub entry : Mode → Phase
entry Write = Steal
entry Read = Count

abbrev pub exit : Mode → Phase
exit Write = Release
exit Read = ReadRelease

abbrev pub acquired : Mode → PassState → PassState
acquired m q = cond (is_idle q.phase) (record q { phase = entry m; reg = record q.reg { mode = m } }) q

abbrev pub released : PassState → PassState
released q = cond (is_resting q) (record q { phase = exit q.reg.mode }) q

-- after the one operation of an attempt
abbrev pub attempted : Mode → Registers → ℕ → PassState
attempted Write r n = cond (n == 0) (to Held (record r { mode = Write })) (to Idle (record r { mode = Write; saw = n }))
attempted Read r n = cond (held_of n || closed_of n) (to TryUncount (record r { mode = Read; saw = n })) (to Held (record r { mode = Read }))
