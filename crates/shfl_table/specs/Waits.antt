-- A pass that waits for the lock, and what it asks meanwhile.
use Rattle.std.specs.Prelude.{◌≡◌, ◌+◌, ◌≤◌, ℕ, true, false, List, [], ◌++◌, Option, Some, None}
use Rattle.shfl_line.specs.declared.words.Attr.{Attr}
use Rattle.shfl_line.specs.declared.choosers.Answer.{Answer}
use Rattle.shfl_line.specs.declared.choosers.Told.{Told}
use Rattle.shfl_line.specs.Rounds.{AsksBy}
use Rattle.shfl_line.specs.declared.events.Mode.{Mode}
use Rattle.shfl_core.specs.declared.phase.Phase.TheVariants.{Idle}
use Rattle.shfl_core.specs.Asking.{answer_of}
use Rattle.shfl_core.specs.Plan.{is_idle}
use Rattle.shfl_core.specs.declared.phase.Nap.TheVariants.{Awake}
use Rattle.shfl_core.specs.declared.phase.PassState.{PassState}
use Rattle.shfl_table.specs.declared.kept.Action.{Action}
use Rattle.shfl_table.specs.declared.view.Decision.{Decision}
use Rattle.shfl_laws.specs.Holds.{hold_of, is_ending}
use Rattle.shfl_table.specs.PassModel.{PassModel}
use Rattle.shfl_table.specs.PassSteps.{SeesValues}

-- the answer with which a decision was made
abbrev pub answers_of : Attr → Decision → List Answer
answers_of anchor d = answer_of anchor d.ask d.choice

-- what the pass asked since, the chooser was told, in rounds, and nothing else
abbrev pub AsksInRounds : Attr → List Decision → List Decision → Option (List Told) → Option (List Told) → Type 0
AsksInRounds anchor old new told told' = AsksBy (answers_of anchor) old new told told'

-- where a pass stands that gave the lock back
abbrev pub as_idle : PassState → PassState
as_idle q = record { phase = Idle; reg = q.reg; nap = Awake }

-- the words found are those found before, and then others
abbrev pub FindsMore : List ℕ → List ℕ → Type 0
FindsMore found found' = (more : List ℕ) × (found' ≡ found ++ more)

-- a pass that began to take the lock in a mode, after so many attempts at most, and made some steps since
pub record WaitsFor {X : Type 0} (initial_state : X → List ℕ) (history : X → List Action) (attempts : ℕ) (mode : Mode) (old now : PassModel X) : Type 0 where
  pub board : now.board ≡ old.board
  pub root_is : now.initial_state ≡ old.initial_state
  pub number : now.own.reg.me ≡ old.own.reg.me
  pub mode_is : now.own.reg.mode ≡ mode
  pub tried : now.attempts ≤ old.attempts + attempts
  pub finds : FindsMore old.found now.found
  pub goes_on : is_ending now.own.phase ≡ false
  pub out : hold_of now.own ≡ None → (now.values ≡ []) × (now.history ≡ old.history)
  pub within : (m : Mode) → hold_of now.own ≡ Some m → SeesValues initial_state history m old now

-- a pass that tried so often at most to take the lock without queueing, and is idle as before
pub record TriedInVain {X : Type 0} (attempts : ℕ) (old now : PassModel X) : Type 0 where
  pub board : now.board ≡ old.board
  pub root_is : now.initial_state ≡ old.initial_state
  pub number : now.own.reg.me ≡ old.own.reg.me
  pub tried : now.attempts ≤ old.attempts + attempts
  pub finds : FindsMore old.found now.found
  pub rests : is_idle now.own.phase ≡ true
  pub asked : now.decisions ≡ old.decisions
  pub seen : now.history ≡ old.history
  pub out : now.values ≡ old.values
