-- An object with the history of its calls, as clauses see it.
use Rattle.std.specs.Prelude.{◌≡◌, ℕ, ◌+◌, ◌<◌, ◌≤◌, List, [], ◌∷◌, ◌++◌, map, length, take, drop, slice_index, slice_get, sum, Some}
use Rattle.hist_log.specs.declared.entry.Entry.{Entry}
use Rattle.hist_log.specs.History.{Operation, IsLegal, state_left}
use Rattle.shfl_table.specs.declared.kept.Action.{Action}
use Rattle.shfl_table.specs.Histories.{actions_by}

-- an object: its state at the opening, how many calls each worker may make, and what was called since
pub record BookModel : Type 0 where
  pub opening : List ℕ
  pub allowed : List ℕ
  pub history : List Action

-- an action as an operation of a history
abbrev pub operation_of : Action → Operation
operation_of a = record { worker = a.worker; call = a.call; reply = a.reply }

abbrev pub operations_of : List Action → List Operation
operations_of = map operation_of

-- an entry as an action, by the numbers that stand for its call and its reply
abbrev pub action : {O C R : Type 0} → (C → List ℕ) → (R → List ℕ) → Entry O C R → Action
action call reply e = record { worker = e.worker; call = call e.call; reply = reply e.reply }

abbrev pub actions : {O C R : Type 0} → (C → List ℕ) → (R → List ℕ) → List (Entry O C R) → List Action
actions call reply = map (action call reply)

-- no worker made more calls than it may
abbrev pub IsWithin : List ℕ → List Action → Type 0
IsWithin allowed history = (worker : ℕ) → length (actions_by worker history) ≤ slice_index allowed worker

-- the receipt of each entry is its place
abbrev pub HavePlaces : {O C R : Type 0} → List (Entry O C R) → Type 0
HavePlaces {O} {C} {R} entries = (place : ℕ) (e : Entry O C R) → slice_get entries place ≡ Some e → e.receipt ≡ place

-- what is always true of an object and its entries: the replies are the object's, it is where they leave it, and there is room for the calls to come
pub record BookInvariant {O C R : Type 0} (call : C → List ℕ) (reply : R → List ℕ) (reply_at state_after : List ℕ → List ℕ → List ℕ)
    (opening allowed : List ℕ) (entries : List (Entry O C R)) (state : List ℕ) (spare capacity : ℕ) : Type 0 where
  pub legal : IsLegal reply_at state_after opening (operations_of (actions call reply entries))
  pub state_is : state ≡ state_left state_after opening (operations_of (actions call reply entries))
  pub within : IsWithin allowed (actions call reply entries)
  pub places : HavePlaces entries
  pub room : sum allowed ≤ capacity
  pub enough : sum allowed ≤ spare + length entries

-- the worker may make this call on the object
abbrev pub MayCall : (List ℕ → List ℕ → Type 0) → ℕ → List ℕ → BookModel → Type 0
MayCall admits worker call b = (length (actions_by worker b.history) < slice_index b.allowed worker) × admits b.opening call

-- what the object answers to this call now
abbrev pub reply_now : (List ℕ → List ℕ → List ℕ) → (List ℕ → List ℕ → List ℕ) → BookModel → List ℕ → List ℕ
reply_now reply_at state_after b call = reply_at (state_left state_after b.opening (operations_of b.history)) call

-- a call was made on the object: it is the last of its history, at this place, with the object's reply
pub record MakesEntry (reply_at state_after : List ℕ → List ℕ → List ℕ) (before : BookModel) (made : Action) (place : ℕ) (after : BookModel) : Type 0 where
  pub goes_on : after ≡ record before { history = before.history ++ made ∷ [] }
  pub answered : made.reply ≡ reply_now reply_at state_after before made.call
  pub place_is : place ≡ length before.history
  pub legal : IsLegal reply_at state_after after.opening (operations_of after.history)

-- the state at the opening and the numbers of calls as one list, and back
abbrev pub pack : List ℕ → List ℕ → List ℕ
pack opening allowed = length opening ∷ (opening ++ allowed)

abbrev pub opening_of : List ℕ → List ℕ
opening_of [] = []
opening_of (n ∷ l) = take n l

abbrev pub allowed_of : List ℕ → List ℕ
allowed_of [] = []
allowed_of (n ∷ l) = drop n l
