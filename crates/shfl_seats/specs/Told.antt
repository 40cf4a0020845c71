-- What callers are told, and as which numbers.
use Rattle.std.specs.Prelude.{◌≡◌, ℕ, Bool, true, false, cond}
use Rattle.shfl_core.specs.declared.phase.Phase.{Phase}
use Rattle.shfl_core.specs.declared.phase.Phase.TheVariants.{Look, Peek, Late, HeadLook, Give}
use Rattle.shfl_core.specs.declared.phase.Nap.{Nap}
use Rattle.shfl_core.specs.declared.phase.Nap.TheVariants.{Awake, Hear}
use Rattle.shfl_seats.specs.declared.answers.Answer.{Answer}
use Rattle.shfl_seats.specs.declared.answers.Answer.TheVariants.{Done, Busy, Held, NotHeld, Bad, NoMemory}
use Rattle.shfl_seats.specs.declared.answers.Progress.{Progress}
use Rattle.shfl_seats.specs.declared.answers.Progress.TheVariants.{Rests, WentOn, LooksAgain, EndedRound}

abbrev pub answer_told : Answer → ℕ
answer_told Done = 0
answer_told Busy = 1
answer_told Held = 2
answer_told NotHeld = 3
answer_told Bad = 4
answer_told NoMemory = 5

abbrev pub progress_told : Progress → ℕ
progress_told Rests = 0
progress_told WentOn = 1
progress_told LooksAgain = 2
progress_told EndedRound = 3

abbrev pub is_look : Phase → Bool
is_look Look = true
is_look _ = false

abbrev pub is_peek : Phase → Bool
is_peek Peek = true
is_peek _ = false

abbrev pub is_late : Phase → Bool
is_late Late = true
is_late _ = false

abbrev pub is_head_look : Phase → Bool
is_head_look HeadLook = true
is_head_look _ = false

abbrev pub looked : Bool → Progress
looked again = cond again LooksAgain WentOn

-- a pass that is awake looks again where it stands at the same one of the four looks; the last step of a round is Give
abbrev pub awake_progress : Phase → Phase → Progress
awake_progress Look q = looked (is_look q)
awake_progress Peek q = looked (is_peek q)
awake_progress Late q = looked (is_late q)
awake_progress HeadLook q = looked (is_head_look q)
awake_progress Give q = EndedRound
awake_progress _ q = WentOn

-- a parked pass looks at its wakeup word
abbrev pub came_of : Nap → Phase → Phase → Progress
came_of Hear p q = LooksAgain
came_of Awake p q = awake_progress p q
came_of _ p q = WentOn
