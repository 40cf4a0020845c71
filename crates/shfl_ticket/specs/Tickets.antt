-- A ticket, as clauses see it, and what its calls do with it.
use Rattle.std.specs.Prelude.{◌≡◌, ℕ, ◌+◌, ◌<◌, Bool, false, List, [], ◌++◌, length, slice_get, slice_index, Option, Some, None}
use Rattle.shfl_line.specs.declared.words.Attr.{Attr}
use Rattle.shfl_line.specs.declared.events.Mode.{Mode}
use Rattle.shfl_line.specs.Words.{attr_of}
use Rattle.shfl_core.specs.declared.phase.Ask.{Ask}
use Rattle.shfl_core.specs.declared.phase.Ask.TheVariants.{Nothing, Skip, Should}
use Rattle.shfl_core.specs.declared.phase.PassState.{PassState}
use Rattle.shfl_core.specs.declared.phase.Rules.{Rules}
use Rattle.shfl_core.specs.Words.{site, is_store}
use Rattle.shfl_core.specs.Plan.{plan}
use Rattle.shfl_core.specs.Take.{take, acquired, released}
use Rattle.shfl_core.specs.declared.words.Word.TheVariants.{Attr as AttrOf}
use Rattle.shfl_core.specs.Waiting.{ask, idle}
use Rattle.shfl_core.specs.Lawful.{Formed}
use Rattle.shfl_table.specs.declared.view.Decision.{Decision}
use Rattle.shfl_table.specs.PassModel.{BoardId, PassModel}
use Rattle.shfl_table.specs.PassSteps.{attempt_steps, as_holder, as_refused}
use Rattle.shfl_table.specs.Views.{step_decisions}
use Rattle.shfl_policy.specs.Policies.{PolicyModel, should_of, skip_of}

-- a pass of a lock with nothing behind it: which lock it is, where the pass stands, what it has done, its attributes, and its policy
pub record TicketModel : Type 0 where
  pub board : BoardId
  pub own : PassState
  pub steps_taken : ℕ
  -- what its steps asked, with the choices
  pub decisions : List Decision
  pub attr : Attr
  pub policy : Option PolicyModel

abbrev pub ticket_of : {X : Type 0} → PassModel X → Attr → Option PolicyModel → TicketModel
ticket_of p attr policy = record { board = p.board; own = p.own; steps_taken = p.steps_taken; decisions = p.decisions; attr = attr; policy = policy }

-- pass number k of a lock that was just opened
abbrev pub fresh_ticket : BoardId → ℕ → Attr → TicketModel
fresh_ticket id k attr = record { board = id; own = idle k; steps_taken = 0; decisions = []; attr = attr; policy = None }

-- these are the passes of one lock that was just opened, in order, each with the attributes of its word
pub record AreOpened (rules : Rules) (words : List ℕ) (tickets : List TicketModel) : Type 0 where
  pub id : BoardId
  pub rules_are : id.rules ≡ rules
  pub attrs_are : id.attrs ≡ words
  pub count : length tickets ≡ length words
  pub each : (k : ℕ) → k < length tickets → slice_get tickets k ≡ Some (fresh_ticket id k (attr_of (slice_index words k)))

abbrev pub acquires : Mode → TicketModel → TicketModel
acquires mode t = record t { own = acquired mode t.own }

abbrev pub releases : TicketModel → TicketModel
releases t = record t { own = released t.own }

-- what the next step asks of a candidate tells the attributes of that pass
abbrev pub AsksOfCandidate : TicketModel → Type 0
AsksOfCandidate old = (waiter : Attr) (batch : ℕ) → ask old.board.rules old.own ≡ Should waiter batch → waiter ≡ attr_of (slice_index old.board.attrs old.own.reg.cand)

-- one step of the lock's machine, with the word found
pub record TakesStep (choice : Bool) (old new : TicketModel) : Type 0 where
  pub found : ℕ
  pub form : is_store (plan old.board.rules old.own.reg.me old.own) ≡ false → Formed (site (plan old.board.rules old.own.reg.me old.own)) found
  -- a look at a pass's attributes finds those of the opening, and what is asked of a candidate tells the candidate's
  pub attr : is_store (plan old.board.rules old.own.reg.me old.own) ≡ false → (q : ℕ) → site (plan old.board.rules old.own.reg.me old.own) ≡ AttrOf q → found ≡ slice_index old.board.attrs q
  pub asks : AsksOfCandidate old
  pub row : new ≡ record old { own = take old.board.rules old.own.reg.me old.own found choice; steps_taken = old.steps_taken + 1; decisions = old.decisions ++ step_decisions old.board.rules old.own choice }

-- an attempt took the lock by its one operation
abbrev pub wins : Mode → TicketModel → TicketModel
wins mode t = record t { own = as_holder mode t.own; steps_taken = t.steps_taken + 1 }

-- an attempt found this word, which refuses it, and left the lock and the pass as they were but for its registers
abbrev pub loses : Mode → ℕ → TicketModel → TicketModel
loses mode word t = record t { own = as_refused mode word t.own; steps_taken = t.steps_taken + attempt_steps mode }

-- what a policy answers to a question; where there is none it answers no
abbrev pub answer_to : Option PolicyModel → Attr → Ask → Bool
answer_to None anchor question = false
answer_to (Some p) anchor Nothing = false
answer_to (Some p) anchor (Skip batch) = skip_of p anchor batch
answer_to (Some p) anchor (Should waiter batch) = should_of p anchor waiter batch
