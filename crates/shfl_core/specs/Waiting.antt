-- What a waiter is, and what its calls do with it.
use Rattle.std.specs.Prelude.{◌≡◌, ℕ, nat_lt, Bool, false, cond}
use Rattle.shfl_line.specs.declared.events.Form.{Form}
use Rattle.shfl_line.specs.declared.events.Mode.{Mode}
use Rattle.shfl_line.specs.declared.events.Mode.TheVariants.{Write}
use Rattle.shfl_line.specs.declared.words.Attr.{Attr}
use Rattle.shfl_line.specs.Words.{attr_of}
use Rattle.shfl_core.specs.declared.phase.Phase.{Phase}
use Rattle.shfl_core.specs.declared.phase.Phase.TheVariants.{Idle, Look, Begin, Decide, Mark, Ready}
use Rattle.shfl_core.specs.declared.phase.Registers.{Registers}
use Rattle.shfl_core.specs.declared.phase.Nap.TheVariants.{Awake}
use Rattle.shfl_core.specs.declared.phase.PassState.{PassState}
use Rattle.shfl_core.specs.declared.phase.Rules.{Rules}
use Rattle.shfl_core.specs.declared.phase.Ask.{Ask}
use Rattle.shfl_core.specs.declared.phase.Ask.TheVariants.{Nothing, Skip, Should}
use Rattle.shfl_core.specs.declared.phase.Watch.{Watch}
use Rattle.shfl_core.specs.declared.phase.Watch.TheVariants.{Look as LookWatch, Mark as MarkWatch, Ready as ReadyWatch, Other}
use Rattle.shfl_core.specs.declared.words.Access.{Access}
use Rattle.shfl_core.specs.Words.{is_store, site, NamesPass}
use Rattle.shfl_core.specs.Plan.{shares, is_awake, round_batch, plan}
use Rattle.shfl_core.specs.Take.{take, acquired, released}

-- a waiter: its attributes, what the opening fixed, and where it stands; its number is a register
pub record Meaning : Type 0 where
  pub attr : Attr
  pub rules : Rules
  pub pass : PassState

abbrev pub number : Meaning → ℕ
number a = a.pass.reg.me

-- the registers at the opening: all 0
abbrev pub blank : ℕ → Registers
blank p = record { me = p; mode = Write; batch = 0; flag = false; before = 0; prev = 0; last = 0; first = 0; cand = 0; seen = 0; after = 0; count = 0; headed = false; heir = 0; saw = 0 }

-- a pass that has done nothing
abbrev pub idle : ℕ → PassState
idle p = record { phase = Idle; reg = blank p; nap = Awake }

abbrev pub fresh : ℕ → Attr → Rules → Meaning
fresh p attr rules = record { attr = attr; rules = rules; pass = idle p }

-- in a form without readers every pass writes
abbrev pub MayUse : Form → Mode → Type 0
MayUse form mode = shares form ≡ false → mode ≡ Write

abbrev pub rules : ℕ → Form → Rules
rules limit form = record { limit = limit; form = form }

-- each waiter that may be made for a number and attributes is idle, and goes by these rules
abbrev pub MakesIdle : {W : Type 0} → (W → Meaning) → (ℕ → Attr → W → Type 0) → Rules → Type 0
MakesIdle {W = W} meaning made t = (p : ℕ) (a : Attr) (w : W) → made p a w → meaning w ≡ fresh p a t

abbrev pub acquires : Mode → Meaning → Meaning
acquires mode a = record a { pass = acquired mode a.pass }

abbrev pub releases : Meaning → Meaning
releases a = record a { pass = released a.pass }

abbrev pub takes : Meaning → ℕ → Bool → Meaning
takes a found choice = record a { pass = take a.rules a.pass.reg.me a.pass found choice }

-- what a phase asks: whether to skip the round that begins, or whether the candidate joins the batch
abbrev pub ask_at : Rules → Registers → Phase → Ask
ask_at t r Begin = cond (nat_lt (round_batch r) t.limit) (Skip (round_batch r)) Nothing
ask_at t r Decide = Should (attr_of r.seen) r.count
ask_at t r _ = Nothing

abbrev pub ask : Rules → PassState → Ask
ask t q = cond (is_awake q.nap) (ask_at t q.reg q.phase) Nothing

abbrev pub watch_at : Registers → Phase → Watch
watch_at r Look = LookWatch
watch_at r Mark = MarkWatch r.cand
watch_at r Ready = ReadyWatch r.heir
watch_at r _ = Other

-- the operation of the next step
abbrev pub next_access : Meaning → Access
next_access a = plan a.rules a.pass.reg.me a.pass

-- the next step may find this: a next word or the tail word names a pass or nobody; what a store finds is free
abbrev pub MayFind : Meaning → ℕ → Type 0
MayFind a found = is_store (next_access a) ≡ false → NamesPass (site (next_access a)) found
