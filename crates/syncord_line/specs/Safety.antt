-- What holds of every state that a line report shows.
use Rattle.std.specs.Prelude.{ℕ, length}
use Rattle.std.specs.List.{AllByRecursion}
use Rattle.shfl_line.specs.Line.{IsWellFormed}
use Rattle.shfl_core.specs.ShownLine.{shown_line}
use Rattle.shfl_core.specs.Worlds.{World}
use Rattle.shfl_laws.specs.Headline.{Headline}
use Rattle.shfl_laws.specs.Shows.{ShowsPlainly}
use Rattle.shfl_sched.specs.Schedules.{ScheduleModel}
use Rattle.shfl_sched.specs.Run.{moments_of}

-- the state that the lock shows is well formed: one writer or readers alone or nobody, each waiter at most once, a batch
-- within the limit; and it is what the words and the passes say, in plain words: holders and modes, the count of
-- readers, the line and the detached waiter, who shuffles, and the batch numbers
pub record IsSafe (limit : ℕ) (w : World) : Type 0 where
  pub well_formed : IsWellFormed limit (shown_line w)
  pub shows : ShowsPlainly (length w.passes) w (shown_line w)
  pub headline : Headline limit w (shown_line w).line (shown_line w).hand

-- it is so after every event of the schedule
abbrev pub IsAlwaysSafe : ScheduleModel → Type 0
IsAlwaysSafe s = AllByRecursion (λ m. IsSafe s.limit m.after) (moments_of s)
