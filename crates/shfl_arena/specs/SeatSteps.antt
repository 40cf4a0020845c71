-- What the calls of a seat do to it.
use Rattle.std.specs.Prelude.{◌≡◌, ◌≢◌, ◌||◌, ℕ, ◌+◌, Bool, true, false, cond, List, ◌∷◌, ◌++◌}
use Rattle.shfl_line.specs.declared.events.Mode.{Mode}
use Rattle.shfl_line.specs.declared.events.Mode.TheVariants.{Write, Read}
use Rattle.shfl_line.specs.Words.{held_of, closed_of}
use Rattle.shfl_core.specs.declared.phase.PassState.{PassState}
use Rattle.shfl_core.specs.declared.phase.Phase.TheVariants.{Idle}
use Rattle.shfl_core.specs.declared.phase.Nap.TheVariants.{Awake}
use Rattle.shfl_core.specs.Words.{site, is_store}
use Rattle.shfl_core.specs.Plan.{plan, moving}
use Rattle.shfl_core.specs.Take.{take, attempted}
use Rattle.shfl_core.specs.Waiting.{blank}
use Rattle.shfl_core.specs.Lawful.{Formed}
use Rattle.shfl_laws.specs.Holds.{hold_of}
use Rattle.shfl_arena.specs.Threads.{holds_after, mode_held, resting}
use Rattle.shfl_arena.specs.SeatViews.{step_decisions}
use Rattle.shfl_arena.specs.SeatModels.{SeatModel}
use Rattle.shfl_arena.specs.ValueMoves.{writes, MovesValue}

-- the locks held at rest after an operation at the lock l that led to q: while it has a step to make there, those of before
abbrev pub holds_then : ℕ → PassState → List (ℕ × Mode) → List (ℕ × Mode)
holds_then l q holds = cond (moving q) holds (holds_after l q holds)

-- one step of the lock's machine at the seat's lock, with the word found
pub record TakesStep {X : Type 0} (old : SeatModel X) (choice : Bool) (new : SeatModel X) : Type 0 where
  pub found : ℕ
  pub form : is_store (plan old.arena.rules old.own.reg.me old.own) ≡ false → Formed (site (plan old.arena.rules old.own.reg.me old.own)) found
  pub row : new ≡ record old {
    own = take old.arena.rules old.own.reg.me old.own found choice;
    holds = holds_then old.lock (take old.arena.rules old.own.reg.me old.own found choice) old.holds;
    steps_taken = old.steps_taken + 1;
    decisions = old.decisions ++ step_decisions old.arena.rules old.own choice;
    values = new.values;
  }
  pub number : new.own.reg.me ≡ old.own.reg.me
  pub waits : moving new.own ≡ true → new.holds ≡ old.holds
  -- where it has no step to make any more, it holds that lock at rest exactly where it holds it; and the other locks as before
  pub here : moving new.own ≡ false → mode_held old.lock new.holds ≡ hold_of new.own
  pub elsewhere : (l : ℕ) → l ≢ old.lock → mode_held l new.holds ≡ mode_held l old.holds
  -- the value of that lock comes with a writer's hold and goes with it, and no other value moves
  pub value : MovesValue old.arena.table.slots old.lock (writes old.own) (writes new.own) old.values new.values

-- the word that refuses an attempt, and how many steps that takes
abbrev pub Refuses : Mode → ℕ → Type 0
Refuses Write n = n ≢ 0
Refuses Read n = (held_of n || closed_of n) ≡ true

abbrev pub attempt_steps : Mode → ℕ
attempt_steps Write = 1
attempt_steps Read = 2

-- where the pass k stands after an attempt that found n instead of the free lock
abbrev pub as_refused : ℕ → Mode → ℕ → PassState
as_refused k mode n = record { phase = Idle; reg = record (blank k) { mode = mode; saw = n }; nap = Awake }

-- an attempt took the lock by its one operation
pub record WinsAttempt {X : Type 0} (lock : ℕ) (mode : Mode) (old new : SeatModel X) : Type 0 where
  pub after : new ≡ record old {
    lock = lock;
    own = resting old.own.reg.me mode;
    holds = (lock, mode) ∷ old.holds;
    steps_taken = old.steps_taken + 1;
    values = new.values;
  }
  pub value : MovesValue old.arena.table.slots lock false (writes new.own) old.values new.values

-- an attempt found this word, and left all locks as they were, and the seat but for its pass and its steps
pub record LosesAttempt {X : Type 0} (lock : ℕ) (mode : Mode) (word : ℕ) (old new : SeatModel X) : Type 0 where
  pub refused : Refuses mode word
  pub after : new ≡ record old {
    lock = lock;
    own = as_refused old.own.reg.me mode word;
    steps_taken = old.steps_taken + attempt_steps mode;
  }

-- the first operation of an attempt, which found n
pub record TriesOnce {X : Type 0} (lock : ℕ) (mode : Mode) (n : ℕ) (old new : SeatModel X) : Type 0 where
  pub after : new ≡ record old {
    lock = lock;
    own = attempted mode (blank old.own.reg.me) n;
    holds = holds_then lock (attempted mode (blank old.own.reg.me) n) old.holds;
    steps_taken = old.steps_taken + 1;
    values = new.values;
  }
  pub value : MovesValue old.arena.table.slots lock false (writes new.own) old.values new.values
