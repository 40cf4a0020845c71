-- What an operation on an arena's table asks, and what it tells.
use Rattle.std.specs.Prelude.{◌≡◌, ◌≢◌, ℕ, ◌<◌, Bool, true, false, List, [], Option}
use mathlib.Core.Option.{none}
use Rattle.atomic_table.specs.Table.{State as TableState, Me, Step, step, Allows}
use Rattle.shfl_line.specs.declared.events.Mode.{Mode}
use Rattle.shfl_line.specs.declared.events.Mode.TheVariants.{Write, Read}
use Rattle.shfl_line.specs.declared.words.TheConstants.{HELD, READER}
use Rattle.shfl_core.specs.declared.phase.PassState.{PassState}
use Rattle.shfl_core.specs.declared.phase.Rules.{Rules}
use Rattle.shfl_core.specs.declared.words.Word.TheVariants.{Lock}
use Rattle.shfl_core.specs.declared.words.Access.{Access}
use Rattle.shfl_core.specs.declared.words.Access.TheVariants.{Load, Store, Swap, CompareSwap, Or, And, Xor, Add, Sub}
use Rattle.shfl_core.specs.Words.{site, put, told, is_store}
use Rattle.shfl_core.specs.Plan.{plan, moving, attempt_plan}
use Rattle.shfl_core.specs.Take.{take, attempted}
use Rattle.shfl_core.specs.Waiting.{blank, idle}
use Rattle.shfl_core.specs.Lawful.{Formed}
use Rattle.shfl_arena.specs.declared.shape.Shape.{Shape}
use Rattle.shfl_arena.specs.declared.view.Decision.{Decision}
use Rattle.shfl_arena.specs.declared.view.SeatView.{SeatView}
use Rattle.shfl_arena.specs.ArenaWords.{place, word_count}
use Rattle.shfl_arena.specs.SeatViews.{seat_after, step_decisions}
use Rattle.shfl_arena.specs.ValueMoves.{writes, MovesValue}

-- the operands of an operation
abbrev pub first_of : Access → ℕ
first_of (Load w) = 0
first_of (Store w v) = v
first_of (Swap w v) = v
first_of (CompareSwap w old new) = old
first_of (Or w v) = v
first_of (And w v) = v
first_of (Xor w v) = v
first_of (Add w v) = v
first_of (Sub w v) = v

abbrev pub second_of : Access → ℕ
second_of (CompareSwap w old new) = new
second_of _ = 0

-- at this place, and at the place of its word of the lock l
abbrev pub step_at : {S : Type 0} → ℕ → ℕ → Access → Step S
step_at slots w a = step slots w (first_of a) (second_of a) none

abbrev pub step_of : {S : Type 0} → ℕ → Shape → ℕ → Access → Step S
step_of slots shape l a = step_at slots (place shape l (site a)) a

-- by this a holder gives its lock back: what it had put into the lock word is taken away
abbrev pub gives_back : Mode → Access
gives_back Write = Sub Lock HELD
gives_back Read = Sub Lock READER

-- the seat may make the operation at this place, and the play holds of it
abbrev pub PermitsAt : {S V : Type 0} → (TableState S V → Type 0) → ℕ → ℕ → Me S V → (Step S → Me S V → ℕ → Me S V → Type 0) → ℕ → Access → Type 0
PermitsAt holds slots id me then w a = Allows holds slots id me w (put a) (λ n. then (step_at slots w a) me (told a n))

-- and at the place of its word of the lock l
abbrev pub Permits : {S V : Type 0} → (TableState S V → Type 0) → ℕ → ℕ → Me S V → (Step S → Me S V → ℕ → Me S V → Type 0) → Shape → ℕ → Access → Type 0
Permits holds slots id me then shape l a = PermitsAt holds slots id me then (place shape l (site a)) a

-- the table and the lock for which an operation is made
pub record LockTerms : Type 0 where
  pub shape : Shape
  pub rules : Rules
  pub threads : ℕ
  pub lock : ℕ

-- the word that a pass of the number k plans to touch next is there, if it plans any
abbrev pub PlansThere : LockTerms → ℕ → PassState → Type 0
PlansThere t k q = moving q ≡ true → place t.shape t.lock (site (plan t.rules k q)) < word_count t.shape t.threads

-- an operation told n, and led the pass of the number k from `before` to q, with these decisions
pub record Operates {V : Type 0} (t : LockTerms) (k : ℕ) (x : Access) (before q : PassState) (qs : List Decision) (slots : ℕ) (m : Me (Option V) SeatView) (n : ℕ) (m' : Me (Option V) SeatView) : Type 0 where
  pub form : is_store x ≡ false → Formed (site x) n
  pub range : PlansThere t k q
  pub seat : m'.0 ≡ seat_after qs t.lock q m.0
  pub value : MovesValue slots t.lock (writes before) (writes q) m.1 m'.1

-- the step of a pass that stands at `own`
abbrev pub step_play : {V : Type 0} → LockTerms → PassState → Bool → Step (Option V) → Me (Option V) SeatView → ℕ → Me (Option V) SeatView → Type 0
step_play t own choice st m n m' = Operates t own.reg.me (plan t.rules own.reg.me own) own (take t.rules own.reg.me own n choice) (step_decisions t.rules own choice) st.slots m n m'

-- the one operation of an attempt of the pass k
abbrev pub attempt_play : {V : Type 0} → LockTerms → ℕ → Mode → Step (Option V) → Me (Option V) SeatView → ℕ → Me (Option V) SeatView → Type 0
attempt_play t k mode st m n m' = Operates t k (attempt_plan mode) (idle k) (attempted mode (blank k) n) [] st.slots m n m'

-- the look of the pass k before that operation, to write, which found n: by a word that is taken the attempt is lost, and by a free one nothing goes on
pub record LooksFirst {V : Type 0} (t : LockTerms) (k : ℕ) (slots : ℕ) (m : Me (Option V) SeatView) (n : ℕ) (m' : Me (Option V) SeatView) : Type 0 where
  pub free : n ≡ 0 → m' ≡ m
  pub taken : n ≢ 0 → Operates t k (attempt_plan Write) (idle k) (attempted Write (blank k) n) [] slots m n m'

abbrev pub look_play : {V : Type 0} → LockTerms → ℕ → Step (Option V) → Me (Option V) SeatView → ℕ → Me (Option V) SeatView → Type 0
look_play t k st m n m' = LooksFirst t k st.slots m n m'

-- an operation by which no pass goes on
abbrev pub still_play : {V : Type 0} → Step (Option V) → Me (Option V) SeatView → ℕ → Me (Option V) SeatView → Type 0
still_play st m n m' = m' ≡ m
