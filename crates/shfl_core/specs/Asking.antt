-- What a step tells the policy, and which steps begin and end a round.
use Rattle.std.specs.Prelude.{◌≡◌, ◌&&◌, ℕ, Bool, true, false, cond, List, [], ◌∷◌, ◌++◌}
use Rattle.shfl_line.specs.declared.words.Attr.{Attr}
use Rattle.shfl_line.specs.declared.choosers.Answer.{Answer}
use Rattle.shfl_line.specs.declared.choosers.Told.{Told}
use Rattle.shfl_line.specs.declared.choosers.Told.TheVariants.{Begun, Answered, Ended}
use Rattle.shfl_line.specs.Policies.{skip_answer, should_answer}
use Rattle.shfl_core.specs.declared.phase.Ask.{Ask}
use Rattle.shfl_core.specs.declared.phase.Ask.TheVariants.{Nothing, Skip, Should}
use Rattle.shfl_core.specs.declared.phase.Phase.{Phase}
use Rattle.shfl_core.specs.declared.phase.Phase.TheVariants.{Give}
use Rattle.shfl_core.specs.declared.phase.Nap.{Nap}
use Rattle.shfl_core.specs.declared.phase.PassState.{PassState}
use Rattle.shfl_core.specs.declared.phase.Rules.{Rules}
use Rattle.shfl_core.specs.Phases.{is_round}
use Rattle.shfl_core.specs.Plan.{is_awake}
use Rattle.shfl_core.specs.Waiting.{ask}

-- the answers of a chooser that was asked so
abbrev pub answer_of : Attr → Ask → Bool → List Answer
answer_of anchor Nothing choice = []
answer_of anchor (Skip batch) choice = skip_answer anchor batch choice ∷ []
answer_of anchor (Should waiter batch) choice = should_answer anchor waiter batch choice ∷ []

-- the question that opens a round
abbrev pub opens_round : Ask → Bool
opens_round (Skip batch) = true
opens_round _ = false

abbrev pub is_give : Phase → Bool
is_give Give = true
is_give _ = false

-- the next step is the last of a round
abbrev pub is_last_of_round : Phase → Nap → Bool
is_last_of_round f nap = is_awake nap && is_give f

-- a chooser is open at most while its pass is in a round
abbrev pub IsOpenInRounds : Bool → PassState → Type 0
IsOpenInRounds in_round q = in_round ≡ true → is_round q.phase ≡ true

-- what a chooser is told by a question: its first one opens the round
abbrev pub question_told : Attr → Ask → Bool → List Told
question_told anchor Nothing choice = []
question_told anchor (Skip batch) choice = Begun ∷ Answered (skip_answer anchor batch choice) ∷ []
question_told anchor (Should waiter batch) choice = Answered (should_answer anchor waiter batch choice) ∷ []

-- what it is told behind a step that ends a round, and behind another
abbrev pub end_told : Bool → List Told
end_told ended = cond ended (Ended ∷ []) []

-- what it is told round a step
abbrev pub step_told : Attr → Rules → PassState → Bool → List Told
step_told anchor t q choice = question_told anchor (ask t q) choice ++ end_told (is_last_of_round q.phase q.nap)
