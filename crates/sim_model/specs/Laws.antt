-- What holds of every run.
use Rattle.std.specs.Prelude.{◌≡◌, ℕ, zero, suc, ◌<◌, ◌≤◌, Bool, List, [], ◌∷◌, true, length}
use Rattle.shfl_line.specs.declared.events.Mode.{Mode}
use Rattle.shfl_line.specs.declared.words.Attr.{Attr}
use Rattle.shfl_core.specs.declared.phase.Rules.{Rules}
use Rattle.shfl_core.specs.declared.phase.PassState.{PassState}
use Rattle.shfl_core.specs.Plan.{is_awake, is_idle, is_resting, moving}
use Rattle.shfl_core.specs.Worlds.{World, Move, Acquire, Step as Advance, known, admitted, after_move, run, opening}
use Rattle.sim_setup.specs.declared.setup.Setup.{Setup}
use Rattle.sim_model.specs.declared.turns.Turn.{Turn}
use Rattle.sim_model.specs.declared.turns.Turn.TheVariants.{Call, Step, Gain, Free}
use Rattle.sim_model.specs.declared.turns.Stand.{Stand}
use Rattle.sim_model.specs.declared.turns.Stand.TheVariants.{Due, Spins, Sleeps}
use Rattle.sim_model.specs.Runs.{Answers, State, ran, moves_of, opening_state, next_turn, turning, after_turn}
use Rattle.sim_model.specs.Tries.{wins}
use Rattle.sim_model.specs.Turns.{stand_at}

-- the lock after so many turns is that after their moves, in their order
abbrev pub RunsAreSchedules : Type 0
RunsAreSchedules = (s : Setup) (answers : Answers) (n : ℕ) (st : State)
    → (ran s answers n st).world ≡ run s.rules st.world (moves_of s answers n st)

-- how a pass stands fits what it does at its turn
abbrev pub IsFitTurn : PassState → Turn → Type 0
IsFitTurn q (Call tried) = is_idle q.phase ≡ true
IsFitTurn q Step = moving q ≡ true
IsFitTurn q (Gain stolen) = is_resting q ≡ true
IsFitTurn q Free = is_resting q ≡ true

-- one that has no turn has a step to make all the same
abbrev pub IsFit : PassState → Stand → Type 0
IsFit q (Due at turn) = IsFitTurn q turn
IsFit q (Spins line since) = moving q ≡ true
IsFit q (Sleeps from) = moving q ≡ true

-- the turn comes no sooner than this
abbrev pub IsNotBefore : ℕ → Stand → Type 0
IsNotBefore t (Due at turn) = t ≤ at
IsNotBefore t _ = Unit {0}

-- each of the moves is admitted where it is made
abbrev pub IsEachAdmitted : Rules → World → List Move → Type 0
IsEachAdmitted t w [] = Unit {0}
IsEachAdmitted t w (m ∷ rest) = (admitted w m ≡ true) × IsEachAdmitted t (after_move t w m) rest

-- a run of passes with these attributes: 1 to 1,024, and the end in 64 bits
pub record IsSetUp (s : Setup) (attrs : List Attr) : Type 0 where
  pub passes : length attrs ≡ s.passes
  pub few : s.passes ≤ 1024
  pub until : s.until ≤ 18446744073709551615

-- of a run from the opening on, each move is admitted
abbrev pub RunsAreAdmitted : Type 0
RunsAreAdmitted = (s : Setup) (answers : Answers) (n : ℕ) (attrs : List Attr) → IsSetUp s attrs
    → IsEachAdmitted s.rules (opening attrs) (moves_of s answers n (opening_state s attrs))

-- when the turns come, from this time on
abbrev pub times_of : Setup → Answers → ℕ → State → List ℕ
times_of s answers zero st = []
times_of s answers (suc n) st = turning (next_turn s st.bench) [] (λ e. e.at ∷ times_of s answers n (after_turn s answers st e))

-- the times never fall, and the first is no sooner than this
abbrev pub IsRising : ℕ → List ℕ → Type 0
IsRising t [] = Unit {0}
IsRising t (at ∷ rest) = (t ≤ at) × IsRising at rest

abbrev pub TimesNeverFall : Type 0
TimesNeverFall = (s : Setup) (answers : Answers) (n : ℕ) (attrs : List Attr) → IsSetUp s attrs
    → IsRising 0 (times_of s answers n (opening_state s attrs))

abbrev pub HasNoTurn : Stand → Type 0
HasNoTurn (Due at turn) = ⊥
HasNoTurn _ = Unit {0}

-- the step of the pass would change nothing, whatever it were answered
abbrev pub IsStill : Rules → World → ℕ → Type 0
IsStill t w p = (choice : Bool) → after_move t w (Advance p choice) ≡ w

-- in every state of a run a pass without a turn is one whose step would change nothing
abbrev pub PollsChangeNothing : Type 0
PollsChangeNothing = (s : Setup) (answers : Answers) (n : ℕ) (attrs : List Attr) → IsSetUp s attrs → (p : ℕ) → p < s.passes
    → let st = ran s answers n (opening_state s attrs) in HasNoTurn (stand_at st.bench.stands p) → IsStill s.rules st.world p

-- an attempt takes the lock just where the first step of the call would take it, whatever that were answered
abbrev pub AttemptsAreFirstSteps : Type 0
AttemptsAreFirstSteps = (t : Rules) (w : World) (p : ℕ) (m : Mode) (choice : Bool) → p < length w.passes
    → is_idle (known w.passes p).phase ≡ true → is_awake (known w.passes p).nap ≡ true
    → wins w p m ≡ is_resting (known (run t w (Acquire p m ∷ Advance p choice ∷ [])).passes p)
