-- What a pass does next: one operation on one word, by its park state and its phase.
use Rattle.std.specs.Prelude.{ℕ, ◌+◌, ◌-◌, ◌*◌, ◌%◌, ◌^◌, ◌==◌, ◌&&◌, not, max, Bool, true, false, cond}
use Rattle.shfl_line.specs.declared.events.Form.{Form}
use Rattle.shfl_line.specs.declared.events.Form.TheVariants.{Rw, Park, RwPark}
use Rattle.shfl_line.specs.declared.events.Mode.{Mode}
use Rattle.shfl_line.specs.declared.events.Mode.TheVariants.{Write, Read}
use Rattle.shfl_core.specs.declared.phase.Phase.{Phase}
use Rattle.shfl_core.specs.declared.phase.Phase.TheVariants.{Idle, Steal, Init, Swap, Link, Close, Look, Begin, Next, Tail, Attr, Decide, After, Pick, Aim, Place, Mark, Give, Peek, Grab, WriteGrab, Take, Cut, Late, Ready, Open, Held, Release, Count, Uncount, TryUncount, HeadCount, HeadLook, ReadRelease}
use Rattle.shfl_core.specs.declared.phase.Registers.{Registers}
use Rattle.shfl_core.specs.declared.phase.Nap.{Nap}
use Rattle.shfl_core.specs.declared.phase.Nap.TheVariants.{Awake, Doze, Hear, Rouse, Ring}
use Rattle.shfl_core.specs.declared.phase.PassState.{PassState}
use Rattle.shfl_core.specs.declared.phase.Rules.{Rules}
use Rattle.shfl_core.specs.declared.words.Word.TheVariants.{Lock, Tail as TailWord, Next as NextOf, State as StateOf, Attr as AttrOf, Bell as BellOf}
use Rattle.shfl_line.specs.declared.words.TheConstants.{HELD, CLOSED, READER, READY, SHUFFLER, PARKED, SPIN, BATCH}
use Rattle.shfl_core.specs.declared.words.Access.{Access}
use Rattle.shfl_core.specs.declared.words.Access.TheVariants.{Load, Store, Swap as SwapWith, CompareSwap, Or, And, Xor, Add, Sub}

-- waiters park in this form
abbrev pub parks : Form → Bool
parks Park = true
parks RwPark = true
parks _ = false

-- readers may hold the lock in this form
abbrev pub shares : Form → Bool
shares Rw = true
shares RwPark = true
shares _ = false

abbrev pub is_awake : Nap → Bool
is_awake Awake = true
is_awake _ = false

abbrev pub is_idle : Phase → Bool
is_idle Idle = true
is_idle _ = false

abbrev pub is_held : Phase → Bool
is_held Held = true
is_held _ = false

-- the pass holds the lock and owes no step
abbrev pub is_resting : PassState → Bool
is_resting q = is_held q.phase && is_awake q.nap

-- the pass has a step to make
abbrev pub moving : PassState → Bool
moving q = not (is_idle q.phase) && not (is_resting q)

-- the batch number that a round begins with
abbrev pub round_batch : Registers → ℕ
round_batch r = max 1 r.batch

-- every bit of a word but this one
abbrev pub all_but : ℕ → ℕ
all_but bit = 2 ^ 64 - 1 - bit

-- the step of each phase; an idle pass and a holder have none, and name a load that nobody makes
abbrev pub plan_at : Rules → ℕ → Registers → Phase → Access
plan_at t p r Idle = Load Lock
plan_at t p r Held = Load Lock
plan_at t p r Steal = CompareSwap Lock 0 HELD
plan_at t p r Init = SwapWith (StateOf p) 0
plan_at t p r Swap = SwapWith TailWord (p + 1)
plan_at t p r Link = Store (NextOf r.before) (p + 1)
plan_at t p r Close = Or Lock CLOSED
plan_at t p r Look = Load (StateOf p)
plan_at t p r Begin = Xor (StateOf p) (cond (r.batch == 0) BATCH 0 + cond r.flag SHUFFLER 0)
plan_at t p r Next = Load (NextOf r.prev)
plan_at t p r Tail = Load TailWord
plan_at t p r Attr = Load (AttrOf r.cand)
plan_at t p r Decide = Load (cond r.headed Lock (StateOf p))
plan_at t p r After = Load (NextOf r.cand)
plan_at t p r Pick = Store (NextOf r.prev) (r.after + 1)
plan_at t p r Aim = Store (NextOf r.cand) (r.first + 1)
plan_at t p r Place = Store (NextOf r.last) (r.cand + 1)
plan_at t p r Mark = Or (StateOf r.cand) (BATCH * (r.count + 1) + cond (parks t.form) SPIN 0)
plan_at t p r Give = Or (StateOf r.last) SHUFFLER
plan_at t p r Peek = Load Lock
plan_at t p r Grab = Or Lock HELD
plan_at t p r WriteGrab = CompareSwap Lock r.saw ((r.saw + 1) % 2 ^ 64)
plan_at t p r Take = SwapWith (NextOf p) 0
plan_at t p r Cut = CompareSwap TailWord (p + 1) 0
plan_at t p r Late = SwapWith (NextOf p) 0
plan_at t p r Ready = Or (StateOf r.heir) READY
plan_at t p r Open = And Lock (all_but CLOSED)
plan_at t p r Release = And Lock (all_but HELD)
plan_at t p r Count = Add Lock READER
plan_at t p r Uncount = Sub Lock READER
plan_at t p r TryUncount = Sub Lock READER
plan_at t p r HeadCount = Add Lock READER
plan_at t p r HeadLook = Load Lock
plan_at t p r ReadRelease = Sub Lock READER

-- the step of each park state; awake, it is the phase's own
abbrev pub plan_by : Rules → ℕ → Registers → Nap → Phase → Access
plan_by t p r Awake f = plan_at t p r f
plan_by t p r Doze f = Or (StateOf p) PARKED
plan_by t p r Hear f = SwapWith (BellOf p) 0
plan_by t p r Rouse f = And (StateOf p) (all_but PARKED)
plan_by t p r (Ring whom) f = Store (BellOf whom) 1

-- the next step of the pass p, which stands at q
abbrev pub plan : Rules → ℕ → PassState → Access
plan t p q = plan_by t p q.reg q.nap q.phase

-- the one operation of an attempt to take the lock without queueing
abbrev pub attempt_plan : Mode → Access
attempt_plan Write = CompareSwap Lock 0 HELD
attempt_plan Read = Add Lock READER
