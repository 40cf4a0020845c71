-- A cell and its passes, as clauses see them.
use Rattle.std.specs.Prelude.{◌≡◌, ℕ, ◌+◌, ◌<◌, ◌≤◌, List, [], ◌∷◌, ◌++◌, map, length, slice_index_or, Contains}
use Rattle.hist_log.specs.History.{IsLegal}
use Rattle.shfl_line.specs.declared.words.Attr.{Attr}
use Rattle.shfl_line.specs.declared.events.Mode.TheVariants.{Write}
use Rattle.shfl_core.specs.declared.phase.Registers.{Registers}
use Rattle.shfl_core.specs.Waiting.{blank}
use Rattle.shfl_table.specs.declared.kept.Action.{Action}
use Rattle.shfl_table.specs.declared.view.Decision.{Decision}
use Rattle.shfl_table.specs.declared.view.Given.{Given}
use Rattle.shfl_table.specs.declared.view.Part.{Part}
use Rattle.shfl_table.specs.ThreadRuns.{RanUntilClosed}
use Rattle.shfl_table.specs.Histories.{actions_by}
use Rattle.shfl_table.specs.PassModel.{BoardId, BoardModel}
use Rattle.shfl_table.specs.Books.{operations_of, opening_of, allowed_of}

-- a cell: which lock it is, how many passes it has, the object's state at the opening, and how many calls each pass may make
pub record CellModel : Type 0 where
  pub id : BoardId
  pub count : ℕ
  pub opening : List ℕ
  pub allowed : List ℕ

-- the cell on a board
abbrev pub cell_on : BoardModel → CellModel
cell_on b = record { id = b.id; count = b.count; opening = opening_of b.initial_state; allowed = allowed_of b.initial_state }

-- a pass: its cell, its registers, how many steps it took and what they found, what it asked the policy, how often it tried to take the lock without
-- queueing, the object's state at the opening, the history that it has seen, and how many calls it may still make
pub record CellPassModel : Type 0 where
  pub cell : BoardId
  pub reg : Registers
  pub steps_taken : ℕ
  pub found : List ℕ
  pub decisions : List Decision
  pub attempts : ℕ
  pub opening : List ℕ
  pub seen : List Action
  pub left : ℕ
  pub attr : Attr

abbrev pub number : CellPassModel → ℕ
number p = p.reg.me

-- a call was made: the history seen goes on from the one seen before, by what others did meanwhile, to this call at its place.
-- It is legal, and has one more action of this pass
pub record MakesCall (reply_at state_after : List ℕ → List ℕ → List ℕ) (old : CellPassModel) (made : Action) (place : ℕ) (new : CellPassModel) : Type 0 where
  pub between : List Action
  pub seen : new.seen ≡ (old.seen ++ between) ++ made ∷ []
  pub place_is : place ≡ length (old.seen ++ between)
  pub legal : IsLegal reply_at state_after old.opening (operations_of new.seen)
  pub own : actions_by (number old) new.seen ≡ actions_by (number old) old.seen ++ made ∷ []
  pub left : new.left + 1 ≡ old.left
  pub stays : (new.cell ≡ old.cell) × (number new ≡ number old) × (new.opening ≡ old.opening) × (new.attr ≡ old.attr)

-- the pass after a try that found this word
abbrev pub turned_away : ℕ → CellPassModel → CellPassModel
turned_away word p = record p { reg = record p.reg { mode = Write; saw = word }; steps_taken = p.steps_taken + 1; found = p.found ++ word ∷ []; attempts = p.attempts + 1 }

abbrev pub no_attr : Attr
no_attr = record { socket = 0; prio = 0; class = 0; kind = 0 }

-- a pass that has made no call
abbrev pub fresh : CellModel → ℕ → ℕ → Attr → CellPassModel
fresh cell k left attr = record { cell = cell.id; reg = blank k; steps_taken = 0; found = []; decisions = []; attempts = 0; opening = cell.opening; seen = []; left = left; attr = attr }

-- what a pass gives back: its number, and the history that it saw last
abbrev pub given : CellPassModel → Given
given p = record { number = p.reg.me; history = p.seen }

-- what it did
abbrev pub part : CellPassModel → Part
part p = record { number = p.reg.me; steps_taken = p.steps_taken; found = p.found; attempts = p.attempts; decisions = p.decisions }

-- each of these is what the pass at its place did
abbrev pub ArePartsOf : List CellPassModel → List Part → Type 0
ArePartsOf [] [] = Unit {0}
ArePartsOf (p ∷ ps) (x ∷ xs) = (x ≡ part p) × ArePartsOf ps xs
ArePartsOf _ _ = ⊥

-- all that was done to the lock is a run of the model, in which these passes did what they tell, and whose holds have made the history
pub record HasRunOf (cell : CellModel) (passes : List CellPassModel) (history : List Action) : Type 0 where
  pub parts : List Part
  pub told : ArePartsOf passes parts
  pub run : RanUntilClosed cell.id.rules cell.id.attrs cell.count parts history

-- these are all passes of a cell of so many
abbrev pub AreAll : ℕ → List CellPassModel → Type 0
AreAll count passes = (k : ℕ) → k < count → Contains (map number passes) k

-- each pass stands at the place of its number
abbrev pub AreInOrder : List CellPassModel → Type 0
AreInOrder passes = (k : ℕ) (d : CellPassModel) → k < length passes → number (slice_index_or passes k d) ≡ k
