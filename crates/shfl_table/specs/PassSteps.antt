-- What a step and an attempt do to a pass.
use Rattle.std.specs.Prelude.{◌≡◌, ◌≢◌, ◌||◌, ℕ, ◌+◌, Bool, true, false, List, [], ◌∷◌, ◌++◌, map, length, slice_index, Some, None}
use Rattle.shfl_line.specs.declared.events.Mode.{Mode}
use Rattle.shfl_line.specs.declared.events.Mode.TheVariants.{Write, Read}
use Rattle.shfl_line.specs.declared.words.Attr.{Attr}
use Rattle.shfl_line.specs.Words.{attr_of, held_of, closed_of}
use Rattle.shfl_core.specs.declared.phase.PassState.{PassState}
use Rattle.shfl_core.specs.declared.phase.Phase.TheVariants.{Idle, Held}
use Rattle.shfl_core.specs.declared.phase.Nap.TheVariants.{Awake}
use Rattle.shfl_core.specs.declared.phase.Ask.TheVariants.{Should}
use Rattle.shfl_core.specs.declared.words.Word.TheVariants.{Attr as AttrOf}
use Rattle.shfl_core.specs.Waiting.{ask}
use Rattle.shfl_core.specs.Words.{site, is_store}
use Rattle.shfl_core.specs.Plan.{plan}
use Rattle.shfl_core.specs.Take.{take, attempted}
use Rattle.shfl_core.specs.Lawful.{Formed}
use Rattle.shfl_table.specs.declared.kept.Action.{Action}
use Rattle.shfl_laws.specs.Holds.{hold_of}
use Rattle.shfl_laws.specs.Seen.{SeenAs}
use Rattle.shfl_table.specs.FoundInRun.{FoundInRun}
use Rattle.shfl_table.specs.Places.{place_count, Every}
use Rattle.shfl_table.specs.Histories.{HasSeen, common_history, IsCurrent}
use Rattle.shfl_table.specs.Views.{step_decisions}
use Rattle.shfl_table.specs.PassModel.{PassModel, as_part}

-- the values are those of the places that the mode covers, each where the history leads
abbrev pub AreCurrent : {X : Type 0} → (X → List ℕ) → (X → List Action) → Mode → PassModel X → PassModel X → Type 0
AreCurrent {X} initial_state history mode old new =
    (xs : List X)
    × (new.values ≡ map Some xs)
    × (length xs ≡ place_count (Some mode) old.own.reg.me old.board.table.slots)
    × Every (IsCurrent initial_state history old.initial_state new.history) xs

-- what a pass sees as it gains the hold: a history that goes on from the one seen, without own actions, and the values that have it
abbrev pub SeesValues : {X : Type 0} → (X → List ℕ) → (X → List Action) → Mode → PassModel X → PassModel X → Type 0
SeesValues initial_state history mode old new = HasSeen new.history old.own.reg.me old.history × AreCurrent initial_state history mode old new

-- what the next step asks of a candidate tells the attributes of that pass
abbrev pub AsksOfCandidate : {X : Type 0} → PassModel X → Type 0
AsksOfCandidate old = (waiter : Attr) (batch : ℕ) → ask old.board.rules old.own ≡ Should waiter batch → waiter ≡ attr_of (slice_index old.board.attrs old.own.reg.cand)

-- the next step finds the word that the run has there: in it the pass did what it tells, and others see it as it stands, or as it
-- stood before it entered or left
abbrev pub FindsInRun : {X : Type 0} → PassModel X → ℕ → Type 0
FindsInRun old found =
    (seen : PassState)
    × SeenAs old.board.rules.form old.own seen
    × FoundInRun old.board.rules old.board.attrs (as_part old) old.history seen (plan old.board.rules old.own.reg.me old.own) found

-- one step of the lock's machine, with the word found
pub record TakesStep {X : Type 0} (initial_state : X → List ℕ) (history : X → List Action) (old : PassModel X) (choice : Bool) (new : PassModel X) : Type 0 where
  pub found : ℕ
  pub there : FindsInRun old found
  pub form : is_store (plan old.board.rules old.own.reg.me old.own) ≡ false → Formed (site (plan old.board.rules old.own.reg.me old.own)) found
  -- a look at a pass's attributes finds those of the opening, and what is asked of a candidate tells the candidate's
  pub attr : is_store (plan old.board.rules old.own.reg.me old.own) ≡ false → (q : ℕ) → site (plan old.board.rules old.own.reg.me old.own) ≡ AttrOf q → found ≡ slice_index old.board.attrs q
  pub asks : AsksOfCandidate old
  pub row : new ≡ record old {
    own = take old.board.rules old.own.reg.me old.own found choice;
    steps_taken = old.steps_taken + 1;
    found = old.found ++ found ∷ [];
    decisions = old.decisions ++ step_decisions old.board.rules old.own choice;
    history = new.history;
    values = new.values;
  }
  pub number : new.own.reg.me ≡ old.own.reg.me
  pub stays : hold_of old.own ≡ hold_of new.own → (new.values ≡ old.values) × (new.history ≡ old.history)
  pub gains : (mode : Mode) → hold_of old.own ≡ None → hold_of new.own ≡ Some mode → SeesValues initial_state history mode old new
  pub frees : (mode : Mode) → hold_of old.own ≡ Some mode → hold_of new.own ≡ None → (xs : List X) → old.values ≡ map Some xs
      → (new.values ≡ []) × (new.history ≡ common_history history old.history xs)

-- the one operation of an attempt, which found n
pub record TriesOnce {X : Type 0} (initial_state : X → List ℕ) (history : X → List Action) (old : PassModel X) (mode : Mode) (n : ℕ) (new : PassModel X) : Type 0 where
  pub row : new ≡ record old {
    own = attempted mode old.own.reg n;
    steps_taken = old.steps_taken + 1;
    found = old.found ++ n ∷ [];
    attempts = old.attempts + 1;
    history = new.history;
    values = new.values;
  }
  pub stays : hold_of (attempted mode old.own.reg n) ≡ None → (new.values ≡ old.values) × (new.history ≡ old.history)
  pub gains : (m : Mode) → hold_of (attempted mode old.own.reg n) ≡ Some m → SeesValues initial_state history m old new

-- the word that refuses an attempt, and how many steps that takes
abbrev pub Refuses : Mode → ℕ → Type 0
Refuses Write n = n ≢ 0
Refuses Read n = (held_of n || closed_of n) ≡ true

abbrev pub attempt_steps : Mode → ℕ
attempt_steps Write = 1
attempt_steps Read = 2

-- the word that lets an attempt in
abbrev pub Admits : Mode → ℕ → Type 0
Admits Write n = n ≡ 0
Admits Read n = (held_of n || closed_of n) ≡ false

-- the words found go on by one that lets an attempt in
abbrev pub FindsAdmitting : Mode → List ℕ → List ℕ → Type 0
FindsAdmitting mode found found' = (word : ℕ) × Admits mode word × (found' ≡ found ++ word ∷ [])

-- they go on by this word, and by one for each further step of the attempt
abbrev pub FindsRefusing : Mode → ℕ → List ℕ → List ℕ → Type 0
FindsRefusing mode word found found' = (more : List ℕ) × (length more + 1 ≡ attempt_steps mode) × (found' ≡ found ++ word ∷ more)

-- where a pass stands after an attempt that took the lock, and after one that found n instead
abbrev pub as_holder : Mode → PassState → PassState
as_holder mode q = record { phase = Held; reg = record q.reg { mode = mode }; nap = Awake }

abbrev pub as_refused : Mode → ℕ → PassState → PassState
as_refused mode n q = record { phase = Idle; reg = record q.reg { mode = mode; saw = n }; nap = Awake }

-- an attempt took the lock by its one operation
abbrev pub WinsAttempt : {X : Type 0} → (X → List ℕ) → (X → List Action) → Mode → PassModel X → PassModel X → Type 0
WinsAttempt initial_state history mode old new =
    (new ≡ record old {
      own = as_holder mode old.own;
      steps_taken = old.steps_taken + 1;
      found = new.found;
      attempts = old.attempts + 1;
      history = new.history;
      values = new.values;
    })
    × SeesValues initial_state history mode old new
    × FindsAdmitting mode old.found new.found

-- an attempt found this word, and left the lock and the pass as they were but for its registers
abbrev pub LosesAttempt : {X : Type 0} → Mode → ℕ → PassModel X → PassModel X → Type 0
LosesAttempt mode word old new =
    Refuses mode word
    × (new ≡ record old {
      own = as_refused mode word old.own;
      steps_taken = old.steps_taken + attempt_steps mode;
      found = new.found;
      attempts = old.attempts + 1;
    })
    × FindsRefusing mode word old.found new.found
