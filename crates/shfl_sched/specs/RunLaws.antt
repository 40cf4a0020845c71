-- What holds of the moments of every run: each has the world after the moves so far, and each move may be made.
use Rattle.std.specs.Prelude.{◌≡◌, ℕ, suc}
use Rattle.std.specs.List.{AllByRecursion}
use mathlib.Core.Option.{some}
use lib.ListN.{get_elem?}
use Rattle.shfl_line.specs.declared.events.Form.{Form}
use Rattle.shfl_core.specs.Waiting.{MayUse}
use Rattle.shfl_core.specs.Worlds.{Move, Acquire, Release, Step}
use Rattle.shfl_sched.specs.Schedules.{ScheduleModel, IsWithin}
use Rattle.shfl_sched.specs.Run.{Moment, moments_of, lock_after}

-- in a form without readers every acquire is a writer's
abbrev pub MayMake : Form → Move → Type 0
MayMake form (Acquire pass mode) = MayUse form mode
MayMake form (Release pass) = Unit {0}
MayMake form (Step pass choice) = Unit {0}

-- each moment of a schedule has the world after the moves up to its own
abbrev pub MomentsAreRun : Type 0
MomentsAreRun = (s : ScheduleModel) (k : ℕ) (m : Moment) → get_elem? (moments_of s) k ≡ some m → m.after ≡ (lock_after s (suc k)).world

-- the form of the lock allows each move of a schedule
abbrev pub MovesMayBeMade : Type 0
MovesMayBeMade = (s : ScheduleModel) → IsWithin s → AllByRecursion (λ m. MayMake s.form m.move) (moments_of s)
