-- A seat that waits for a lock, and what it asks meanwhile.
use Rattle.std.specs.Prelude.{◌≡◌, ◌≢◌, ◌⊎◌, ◌<◌, ◌≤◌, ℕ, ◌+◌, ◌*◌, Bool, cond, false, List, [], ◌∷◌, Option, Some, None}
use Rattle.shfl_line.specs.declared.words.Attr.{Attr}
use Rattle.shfl_line.specs.declared.choosers.Answer.{Answer}
use Rattle.shfl_line.specs.declared.choosers.Told.{Told}
use Rattle.shfl_line.specs.Rounds.{AsksBy}
use Rattle.shfl_line.specs.declared.events.Mode.{Mode}
use Rattle.shfl_line.specs.Line.{is_write}
use Rattle.shfl_core.specs.Asking.{answer_of}
use Rattle.shfl_core.specs.Plan.{moving}
use Rattle.shfl_laws.specs.Holds.{is_ending}
use Rattle.shfl_arena.specs.declared.trying.TheConstants.{MOST_ATTEMPTS}
use Rattle.shfl_arena.specs.declared.view.Decision.{Decision}
use Rattle.shfl_arena.specs.Threads.{mode_held}
use Rattle.shfl_arena.specs.SeatModels.{SeatModel, entering}
use Rattle.shfl_arena.specs.SeatSteps.{TakesStep, WinsAttempt, attempt_steps}
use Rattle.shfl_arena.specs.ValueMoves.{writes, MovesValue}

-- the answer with which a decision was made
abbrev pub answers_of : Attr → Decision → List Answer
answers_of anchor d = answer_of anchor d.ask d.choice

-- what the seat asked since, the chooser was told, in rounds, and nothing else
abbrev pub AsksInRounds : Attr → List Decision → List Decision → Option (List Told) → Option (List Told) → Type 0
AsksInRounds anchor old new told told' = AsksBy (answers_of anchor) old new told told'

-- how many attempts a seat makes at most before it queues, where the chooser may move waiters up or may not
abbrev pub attempts_before : Bool → ℕ
attempts_before moves_waiters = cond moves_waiters 1 MOST_ATTEMPTS

-- a seat that tried so often at most to take a lock in a mode without queueing, and holds what it held
pub record TriedInVain {X : Type 0} (mode : Mode) (attempts : ℕ) (old now : SeatModel X) : Type 0 where
  pub arena : now.arena ≡ old.arena
  pub number : now.own.reg.me ≡ old.own.reg.me
  pub rests : moving now.own ≡ false
  pub holds : now.holds ≡ old.holds
  pub steps : now.steps_taken ≤ old.steps_taken + attempts * attempt_steps mode
  pub decisions : now.decisions ≡ old.decisions
  pub values : now.values ≡ old.values

-- a seat that took the lock by the last of so many attempts at most, the others in vain
pub record TookAtOnce {X : Type 0} (attempts lock : ℕ) (mode : Mode) (old now : SeatModel X) : Type 0 where
  pub tries : ℕ
  pub few : tries < attempts
  pub before : SeatModel X
  pub vain : TriedInVain mode tries old before
  pub won : WinsAttempt lock mode before now

-- what steps of the lock's machine alone make of a seat, the last step first
abbrev pub AreSteps : {X : Type 0} → SeatModel X → List (SeatModel X × Bool) → SeatModel X → Type 0
AreSteps first [] now = now ≡ first
AreSteps first (last ∷ earlier) now = AreSteps first earlier last.0 × TakesStep last.0 last.1 now

-- a seat that tried so often at most, in vain, then began to take the lock, and made steps of the lock's machine alone since
pub record QueuesAfter {X : Type 0} (attempts lock : ℕ) (mode : Mode) (old now : SeatModel X) : Type 0 where
  pub before : SeatModel X
  pub vain : TriedInVain mode attempts old before
  pub steps : List (SeatModel X × Bool)
  pub since : AreSteps (record before { lock = lock; own = entering before.own.reg.me mode }) steps now

-- so many attempts at most to take the lock, and beside them its machine's steps alone
abbrev pub TriesAtMost : {X : Type 0} → ℕ → ℕ → Mode → SeatModel X → SeatModel X → Type 0
TriesAtMost attempts lock mode old now = TookAtOnce attempts lock mode old now ⊎ QueuesAfter attempts lock mode old now

-- a seat that began to take the lock in a mode, and made some steps since
pub record WaitsFor {X : Type 0} (lock : ℕ) (mode : Mode) (old now : SeatModel X) : Type 0 where
  pub arena : now.arena ≡ old.arena
  pub number : now.own.reg.me ≡ old.own.reg.me
  pub lock_is : now.lock ≡ lock
  pub mode_is : now.own.reg.mode ≡ mode
  -- it neither is idle nor leaves
  pub goes_on : is_ending now.own.phase ≡ false
  -- where it has no step to make any more it holds the lock at rest, and the other locks as before
  pub here : moving now.own ≡ false → mode_held lock now.holds ≡ Some mode
  pub elsewhere : (l : ℕ) → l ≢ lock → mode_held l now.holds ≡ mode_held l old.holds
  -- the value of that lock comes with a writer's hold, and no other value moves
  pub value : MovesValue old.arena.table.slots lock false (writes now.own) old.values now.values

-- a seat that gave the lock back, with its value, by one step
pub record Frees {X : Type 0} (lock : ℕ) (mode : Mode) (old now : SeatModel X) : Type 0 where
  pub arena : now.arena ≡ old.arena
  pub number : now.own.reg.me ≡ old.own.reg.me
  pub rests : moving now.own ≡ false
  pub here : mode_held lock now.holds ≡ None
  pub elsewhere : (l : ℕ) → l ≢ lock → mode_held l now.holds ≡ mode_held l old.holds
  pub steps : now.steps_taken ≡ old.steps_taken + 1
  pub decisions : now.decisions ≡ old.decisions
  pub value : MovesValue old.arena.table.slots lock (is_write mode) false old.values now.values
