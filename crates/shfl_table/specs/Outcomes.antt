-- What comes of a step: the pass goes on, or it looked in vain.
use Rattle.std.specs.Prelude.{◌≡◌, ◌≢◌, ◌==◌, ◌&&◌, not, ℕ, Bool, true, false}
use Rattle.shfl_line.specs.Words.{closed_of}
use Rattle.shfl_core.specs.declared.phase.Phase.{Phase}
use Rattle.shfl_core.specs.declared.phase.Phase.TheVariants.{Peek, HeadLook}
use Rattle.shfl_core.specs.declared.phase.PassState.{PassState}
use Rattle.shfl_core.specs.Asking.{is_last_of_round}
use Rattle.shfl_core.specs.Plan.{is_awake}
use Rattle.shfl_table.specs.declared.outcomes.Outcome.{Outcome}
use Rattle.shfl_table.specs.declared.outcomes.Outcome.TheVariants.{Resting, Advanced, InVain, InVainOpen, GroupedNobody}

-- the queue's head looks at the lock word
abbrev pub is_head_look : Phase → Bool
is_head_look Peek = true
is_head_look HeadLook = true
is_head_look _ = false

-- the pass waits at the queue's head, where its next step looks at the lock word
abbrev pub waits_at_head : PassState → Bool
waits_at_head q = is_awake q.nap && is_head_look q.phase

-- the step looks at the lock word at the queue's head, and finds stealing enabled
abbrev pub finds_open : PassState → ℕ → Bool
finds_open q found = waits_at_head q && not (closed_of found)

-- the step ends a round whose batch still ends with the shuffler: nobody was moved into it
abbrev pub ends_round_alone : PassState → Bool
ends_round_alone q = is_last_of_round q.phase q.nap && (q.reg.last == q.reg.me)

-- what came of a step that found this word, and led from one state to the other
abbrev pub IsOutcome : PassState → ℕ → PassState → Outcome → Type 0
IsOutcome old found new Resting = ⊥
IsOutcome old found new Advanced = (new ≢ old) × (ends_round_alone old ≡ false)
IsOutcome old found new InVain = (new ≡ old) × (finds_open old found ≡ false)
IsOutcome old found new InVainOpen = (new ≡ old) × (finds_open old found ≡ true)
IsOutcome old found new GroupedNobody = (new ≢ old) × (ends_round_alone old ≡ true)
