-- What C is told of its calls, and what they do.
use Rattle.std.specs.Prelude.{◌≡◌, ◌≢◌, ◌↔◌, ℕ, Bool, true, false, cond, IsSome, Option, Some, None}
use Rattle.shfl_line.specs.declared.events.Mode.{Mode}
use Rattle.shfl_line.specs.declared.events.Mode.TheVariants.{Write, Read}
use Rattle.shfl_core.specs.Plan.{moving}
use Rattle.shfl_arena.specs.SeatModels.{entering}
use Rattle.shfl_arena.specs.SeatSteps.{TakesStep, WinsAttempt, LosesAttempt}
use Rattle.shfl_arena.specs.Threads.{mode_held}
use Rattle.shfl_arena.specs.Waits.{Frees}
use Rattle.shfl_seats.specs.declared.answers.Answer.{Answer}
use Rattle.shfl_seats.specs.declared.answers.Answer.TheVariants.{Done, Busy, Held, NotHeld, Bad}
use Rattle.shfl_seats.specs.declared.answers.Progress.{Progress}
use Rattle.shfl_seats.specs.declared.answers.Progress.TheVariants.{Rests}
use Rattle.shfl_seats.specs.Tickets.{TicketModel, MayUseLock}
use Rattle.shfl_seats.specs.Told.{answer_told, progress_told, came_of}

abbrev pub mode_of : Bool → Mode
mode_of shared = cond shared Read Write

abbrev pub hold_told : Option Mode → ℕ
hold_told None = 0
hold_told (Some Write) = 1
hold_told (Some Read) = 2

-- an attempt, and the number that tells what came of it
pub record TellsAttempt (lock : ℕ) (mode : Mode) (old : TicketModel) (told : ℕ) (new : TicketModel) : Type 0 where
  pub answer : Answer
  pub number : told ≡ answer_told answer
  pub bad : (answer ≡ Bad) ↔ ¬ (MayUseLock lock mode old)
  pub held : answer ≡ Held → IsSome (mode_held lock old.seat.holds)
  pub done : answer ≡ Done → WinsAttempt lock mode old.seat new.seat
  pub busy : answer ≡ Busy → (word : ℕ) × LosesAttempt lock mode word old.seat new.seat
  pub others : answer ≢ NotHeld
  pub refused : answer ≢ Done → answer ≢ Busy → new ≡ old
  pub kept : new ≡ record old { seat = new.seat }

-- a seat that begins to take a lock, or the number of its refusal
pub record TellsAcquire (lock : ℕ) (mode : Mode) (old : TicketModel) (told : ℕ) (new : TicketModel) : Type 0 where
  pub answer : Answer
  pub number : told ≡ answer_told answer
  pub bad : (answer ≡ Bad) ↔ ¬ (MayUseLock lock mode old)
  pub held : answer ≡ Held → IsSome (mode_held lock old.seat.holds)
  pub free : answer ≡ Done → mode_held lock old.seat.holds ≡ None
  pub done : answer ≡ Done → new ≡ record old { seat = record old.seat { lock = lock; own = entering old.seat.own.reg.me mode } }
  pub others : (answer ≢ NotHeld) × (answer ≢ Busy)
  pub refused : answer ≢ Done → new ≡ old

-- a step, and the number that tells what came of it
pub record TellsStep (choice : Bool) (old : TicketModel) (told : ℕ) (new : TicketModel) : Type 0 where
  pub rests : moving old.seat.own ≡ false → (told ≡ progress_told Rests) × (new ≡ old)
  pub row : moving old.seat.own ≡ true → TakesStep old.seat choice new.seat
  pub came : moving old.seat.own ≡ true → told ≡ progress_told (came_of old.seat.own.nap old.seat.own.phase new.seat.own.phase)
  pub kept : new ≡ record old { seat = new.seat }

-- a seat that gives a lock back, or the number of its refusal
pub record TellsRelease (lock : ℕ) (old : TicketModel) (told : ℕ) (new : TicketModel) : Type 0 where
  pub answer : Answer
  pub number : told ≡ answer_told answer
  pub bad : (answer ≡ Bad) ↔ ¬ (MayUseLock lock Write old)
  pub not_held : answer ≡ NotHeld → mode_held lock old.seat.holds ≡ None
  pub done : answer ≡ Done → (mode : Mode) × (mode_held lock old.seat.holds ≡ Some mode) × Frees lock mode old.seat new.seat
  pub refused : answer ≢ Done → new ≡ old
  pub kept : new ≡ record old { seat = new.seat }
