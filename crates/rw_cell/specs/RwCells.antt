-- A cell with a copy for each pass, and its passes, as clauses see them.
use Rattle.std.specs.Prelude.{◌≡◌, ℕ, ◌+◌, ◌<◌, ◌≤◌, true, List, [], ◌∷◌, ◌++◌, map, length, slice_index, slice_index_or, Contains}
use Rattle.hist_log.specs.History.{IsLegal, state_left}
use Rattle.shfl_line.specs.declared.words.Attr.{Attr}
use Rattle.shfl_line.specs.declared.events.Mode.{Mode}
use Rattle.shfl_core.specs.declared.phase.Registers.{Registers}
use Rattle.shfl_core.specs.Plan.{is_idle}
use Rattle.shfl_core.specs.Waiting.{blank}
use Rattle.shfl_table.specs.declared.kept.Action.{Action}
use Rattle.shfl_table.specs.declared.view.Decision.{Decision}
use Rattle.shfl_table.specs.declared.view.Given.{Given}
use Rattle.shfl_table.specs.Histories.{actions_by}
use Rattle.shfl_table.specs.PassModel.{BoardId, BoardModel, PassModel}
use Rattle.shfl_table.specs.PassSteps.{attempt_steps}
use Rattle.shfl_table.specs.Books.{operations_of, opening_of, allowed_of}
use Rattle.rw_cell.specs.KeptReads.{KeepsReads}

-- a cell: which lock it is, how many passes it has, the object's state at the opening, and how many calls each pass may make
pub record RwCellModel : Type 0 where
  pub id : BoardId
  pub count : ℕ
  pub opening : List ℕ
  pub allowed : List ℕ

-- the cell on a board
abbrev pub cell_on : BoardModel → RwCellModel
cell_on b = record { id = b.id; count = b.count; opening = opening_of b.initial_state; allowed = allowed_of b.initial_state }

-- a pass: its cell, its registers, how many steps it took and what they found, what it asked the policy, how often it tried to take the lock without
-- queueing, the object's state at the opening, the writes that it has seen, the reads that it made, and how many calls it may still make
pub record RwPassModel (E : Type 0) : Type 0 where
  pub cell : BoardId
  pub reg : Registers
  pub steps_taken : ℕ
  pub found : List ℕ
  pub decisions : List Decision
  pub attempts : ℕ
  pub opening : List ℕ
  pub seen : List Action
  pub reads : List E
  pub left : ℕ
  pub attr : Attr

abbrev pub number : {E : Type 0} → RwPassModel E → ℕ
number p = p.reg.me

-- what a call leaves of a pass, besides what it has seen and read, and what it asked
pub record StaysPass {E : Type 0} (old new : RwPassModel E) : Type 0 where
  pub cell : new.cell ≡ old.cell
  pub number_is : number new ≡ number old
  pub opening : new.opening ≡ old.opening
  pub attr : new.attr ≡ old.attr
  pub left : new.left + 1 ≡ old.left

-- a write was made: the writes seen go on from those seen before, by what others wrote meanwhile, to this one at its place.
-- They are legal, and have one more of this pass
pub record MakesWrite {E : Type 0} (reply_at state_after : List ℕ → List ℕ → List ℕ) (old : RwPassModel E) (made : Action) (place : ℕ) (new : RwPassModel E) : Type 0 where
  pub between : List Action
  pub seen : new.seen ≡ (old.seen ++ between) ++ made ∷ []
  pub place_is : place ≡ length (old.seen ++ between)
  pub legal : IsLegal reply_at state_after old.opening (operations_of new.seen)
  pub own : actions_by (number old) new.seen ≡ actions_by (number old) old.seen ++ made ∷ []
  pub reads : new.reads ≡ old.reads
  pub stays : StaysPass old new

-- a read was made: the writes seen go on from those seen before, by what others wrote meanwhile. The place is how many they are,
-- and the reply is the object's after them. It is the last of the pass's reads
pub record MakesRead {E : Type 0} (reply_at state_after : List ℕ → List ℕ → List ℕ) (old : RwPassModel E) (call reply : List ℕ) (place : ℕ) (entry : E) (new : RwPassModel E) : Type 0 where
  pub between : List Action
  pub seen : new.seen ≡ old.seen ++ between
  pub place_is : place ≡ length new.seen
  pub answer : reply ≡ reply_at (state_left state_after old.opening (operations_of new.seen)) call
  pub own : actions_by (number old) new.seen ≡ actions_by (number old) old.seen
  pub reads : new.reads ≡ old.reads ++ entry ∷ []
  pub stays : StaysPass old new

-- the pass after a try in a mode that found this word, and then these
abbrev pub turned_away : {E : Type 0} → Mode → ℕ → List ℕ → RwPassModel E → RwPassModel E
turned_away mode word more p = record p { reg = record p.reg { mode = mode; saw = word }; steps_taken = p.steps_taken + attempt_steps mode; found = p.found ++ word ∷ more; attempts = p.attempts + 1 }

abbrev pub no_attr : Attr
no_attr = record { socket = 0; prio = 0; class = 0; kind = 0 }

-- a pass that has made no call
abbrev pub fresh : {E : Type 0} → RwCellModel → ℕ → ℕ → Attr → RwPassModel E
fresh cell k left attr = record { cell = cell.id; reg = blank k; steps_taken = 0; found = []; decisions = []; attempts = 0; opening = cell.opening; seen = []; reads = []; left = left; attr = attr }

-- what is always true of a pass between its calls: it is idle, its calls add up to those that it may make, and it has room for their entries
pub record RwPassInvariant {X E : Type 0} (action : E → Action) (point : E → ℕ) (fits : List ℕ → List Action → E → Type 0)
    (pass : PassModel X) (left : ℕ) (reads : List E) (capacity : ℕ) : Type 0 where
  pub idle : is_idle pass.own.phase ≡ true
  pub empty : pass.values ≡ []
  pub place : pass.own.reg.me < pass.board.table.slots
  pub counted : length (actions_by pass.own.reg.me pass.history) + length reads + left ≡ slice_index (allowed_of pass.initial_state) pass.own.reg.me
  pub room : slice_index (allowed_of pass.initial_state) pass.own.reg.me ≤ capacity
  pub keeps : KeepsReads action point fits (opening_of pass.initial_state) pass.own.reg.me pass.history reads

-- what a pass that holds the lock writes by a call
abbrev pub write_after : {X : Type 0} → (List ℕ → List ℕ → List ℕ) → (List ℕ → List ℕ → List ℕ) → PassModel X → List ℕ → Action
write_after reply_at state_after pass call = record { worker = pass.own.reg.me; call = call; reply = reply_at (state_left state_after (opening_of pass.initial_state) (operations_of pass.history)) call }

-- the state of the first of these
abbrev pub first_state : {O : Type 0} → (O → List ℕ) → List O → List ℕ
first_state state [] = []
first_state state (x ∷ xs) = state x

-- a pass of this cell
abbrev pub IsPassOf : {E : Type 0} → RwCellModel → RwPassModel E → Type 0
IsPassOf cell p = (p.cell ≡ cell.id) × (p.opening ≡ cell.opening)

-- what a pass gives back: its number, and the writes that it saw last
abbrev pub given : {E : Type 0} → RwPassModel E → Given
given p = record { number = p.reg.me; history = p.seen }

-- these are all passes of a cell of so many
abbrev pub AreAll : {E : Type 0} → ℕ → List (RwPassModel E) → Type 0
AreAll count passes = (k : ℕ) → k < count → Contains (map number passes) k

-- each pass stands at the place of its number
abbrev pub AreInOrder : {E : Type 0} → List (RwPassModel E) → Type 0
AreInOrder {E} passes = (k : ℕ) (d : RwPassModel E) → k < length passes → number (slice_index_or passes k d) ≡ k
