-- What each seat of an arena knows, and how an operation changes it.
use Rattle.std.specs.Prelude.{ℕ, ◌+◌, Bool, true, false, List, [], ◌∷◌, ◌++◌, map, sum_by}
use Rattle.shfl_core.specs.declared.phase.Ask.{Ask}
use Rattle.shfl_core.specs.declared.phase.Ask.TheVariants.{Nothing}
use Rattle.shfl_core.specs.declared.phase.PassState.{PassState}
use Rattle.shfl_core.specs.declared.phase.Rules.{Rules}
use Rattle.shfl_core.specs.Waiting.{ask}
use Rattle.shfl_arena.specs.declared.view.Decision.{Decision}
use Rattle.shfl_arena.specs.declared.view.SeatView.{SeatView}
use Rattle.shfl_arena.specs.declared.view.ThreadView.{ThreadView}
use Rattle.shfl_arena.specs.Threads.{new_thread, thread_after}

abbrev pub threads_of : List SeatView → List ThreadView
threads_of = map (λ v. v.thread)

-- the seat of this number, whose thread did nothing; it is the last one, who may split off the next
abbrev pub new_seat : ℕ → SeatView
new_seat k = record { number = k; last = true; seats = 1; thread = new_thread; steps_taken = 0; decisions = [] }

abbrev pub not_last : SeatView → SeatView
not_last v = record v { last = false }

abbrev pub next_seat : SeatView → SeatView
next_seat v = new_seat (v.number + 1)

-- a seat that takes another one back stands for that one's seats too, and the other is spent
abbrev pub with_seats_of : SeatView → SeatView → SeatView
with_seats_of v w = record v { seats = v.seats + w.seats }

abbrev pub spent_seat : SeatView
spent_seat = record (new_seat 0) { last = false; seats = 0 }

-- how many seats these stand for
abbrev pub seats_of : List SeatView → ℕ
seats_of = sum_by (λ v. v.seats)

-- what a step asks the policy, with the choice
abbrev pub decision_on : Bool → Ask → List Decision
decision_on choice Nothing = []
decision_on choice a = record { ask = a; choice = choice } ∷ []

abbrev pub step_decisions : Rules → PassState → Bool → List Decision
step_decisions r q choice = decision_on choice (ask r q)

-- the seat after an operation at the lock l that led its pass to q, with these decisions
abbrev pub seat_after : List Decision → ℕ → PassState → SeatView → SeatView
seat_after qs l q v = record v {
  thread = thread_after l q v.thread;
  steps_taken = v.steps_taken + 1;
  decisions = v.decisions ++ qs;
}
