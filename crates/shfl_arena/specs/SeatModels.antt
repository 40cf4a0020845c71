-- An arena and its seats, as clauses see them.
use Rattle.std.specs.Prelude.{◌≡◌, ℕ, ◌+◌, ◌*◌, ◌<◌, true, false, List, [], Option, None}
use Rattle.atomic_table.specs.Table.{Me}
use Rattle.atomic_table.specs.Seated.{TableId}
use Rattle.shfl_line.specs.declared.events.Mode.{Mode}
use Rattle.shfl_line.specs.declared.events.Mode.TheVariants.{Write}
use Rattle.shfl_core.specs.declared.phase.PassState.{PassState}
use Rattle.shfl_core.specs.declared.phase.Rules.{Rules}
use Rattle.shfl_core.specs.Words.{site}
use Rattle.shfl_core.specs.Plan.{plan, moving}
use Rattle.shfl_core.specs.Take.{entry, exit}
use Rattle.shfl_core.specs.Waiting.{idle}
use Rattle.shfl_laws.specs.Holds.{hold_of, is_releasing}
use Rattle.shfl_laws.specs.Seen.{SeenAs}
use Rattle.shfl_arena.specs.declared.shape.Shape.{Shape}
use Rattle.shfl_arena.specs.declared.view.Decision.{Decision}
use Rattle.shfl_arena.specs.declared.view.SeatView.{SeatView}
use Rattle.shfl_arena.specs.Threads.{MayStepAt, mode_held, pass_at, resting}
use Rattle.shfl_arena.specs.ArenaWords.{place, first_node}
use Rattle.shfl_arena.specs.ValueMoves.{HasInFront}

-- which arena it is, the rules of its locks, and where its words stand
pub record ArenaId : Type 0 where
  pub table : TableId
  pub rules : Rules
  pub shape : Shape

pub record ArenaModel : Type 0 where
  pub id : ArenaId
  pub threads : ℕ

pub record SeatModel (X : Type 0) : Type 0 where
  pub arena : ArenaId
  -- the lock at which its last call was made, and where its pass stands there
  pub lock : ℕ
  pub own : PassState
  -- the locks that it holds and has no step to make at, each with its mode
  pub holds : List (ℕ × Mode)
  pub steps_taken : ℕ
  -- what its steps asked the policy, with the choices
  pub decisions : List Decision
  -- the values of the locks that it holds as a writer, each with its lock, the one taken last in front
  pub values : List (ℕ × Option X)

-- seat number k of an arena that was just opened
abbrev pub fresh_seat : {X : Type 0} → ArenaId → ℕ → SeatModel X
fresh_seat id k = record { arena = id; lock = 0; own = idle k; holds = []; steps_taken = 0; decisions = []; values = [] }

-- a seat of this arena that has no step to make and holds nothing, as one that did nothing
abbrev pub IsNewAt : {X : Type 0} → ArenaId → SeatModel X → Type 0
IsNewAt id s = (s.arena ≡ id) × (moving s.own ≡ false) × (s.holds ≡ []) × (s.values ≡ [])

-- the pass of the number k that has just begun to take a lock, or to give it back
abbrev pub entering : ℕ → Mode → PassState
entering k mode = record (idle k) { phase = entry mode; reg = record (idle k).reg { mode = mode } }

abbrev pub leaving : ℕ → Mode → PassState
leaving k mode = record (resting k mode) { phase = exit mode }

-- of a seat that has a step to make at this lock
pub record StandsAt {X : Type 0} (shape : Shape) (rules : Rules) (own : PassState) (lock : ℕ) (id : TableId) (me : Me (Option X) SeatView) : Type 0 where
  pub below : lock < shape.locks
  -- others see the pass where it stands, or where it stood before it entered or left
  pub seen : SeenAs rules.form own (pass_at lock own.reg.me me.0.thread)
  pub may : MayStepAt lock me.0.thread
  -- the word of its next step is there
  pub range : place shape lock (site (plan rules own.reg.me own)) < id.words
  -- where it gives a lock with a value back, it has the value, and in front
  pub gives : is_releasing own.phase ≡ true → own.reg.mode ≡ Write → lock < id.slots → HasInFront lock me.1

-- what a seat's type keeps beside its seat at the table
pub record SeatInvariant {X : Type 0} (shape : Shape) (rules : Rules) (own : PassState) (lock : ℕ) (id : TableId) (me : Me (Option X) SeatView) : Type 0 where
  pub number : me.0.number ≡ own.reg.me
  -- it stands for itself alone
  pub one : me.0.seats ≡ 1
  -- the words of its node are there
  pub node : first_node shape + 10 * own.reg.me + 3 < id.words
  pub moves : moving own ≡ true → StandsAt shape rules own lock id me
  pub rests : moving own ≡ false → me.0.thread.at ≡ None
  -- and then its pass tells how it holds the lock of its last call
  pub here : moving own ≡ false → mode_held lock me.0.thread.holds ≡ hold_of own

-- a seat at the table that stands for so many, waits nowhere and holds nothing
abbrev pub StandsFor : {X : Type 0} → ℕ → Me (Option X) SeatView → Type 0
StandsFor count me = (me.0.seats ≡ count) × (me.0.thread.at ≡ None) × (me.0.thread.holds ≡ []) × (me.1 ≡ [])
