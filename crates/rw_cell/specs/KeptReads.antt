-- The reads that a pass keeps, in order.
use Rattle.std.specs.Prelude.{◌≡◌, ℕ, ◌≤◌, List, take, length, All}
use Rattle.std.specs.List.Sorted.{IsNonDecreasingBy}
use Rattle.hist_log.specs.declared.entry.Entry.{Entry}
use Rattle.hist_log.specs.History.{state_left}
use Rattle.shfl_table.specs.declared.kept.Action.{Action}
use Rattle.shfl_table.specs.Books.{operations_of}

-- the reads of one pass that has seen these writes: each is its own, and was answered after the writes before it
pub record KeepsReads {E : Type 0} (action : E → Action) (point : E → ℕ) (fits : List ℕ → List Action → E → Type 0)
    (opening : List ℕ) (number : ℕ) (seen : List Action) (reads : List E) : Type 0 where
  pub own : All (λ e. (action e).worker ≡ number) reads
  pub within : All (λ e. point e ≤ length seen) reads
  pub in_order : IsNonDecreasingBy point reads
  pub answered : All (λ e. fits opening (take (point e) seen) e) reads

-- it is a read, answered as after these writes from the opening on
abbrev pub answers_as : {O C R : Type 0} → (C → List ℕ) → (R → List ℕ) → (List ℕ → Type 0) → (List ℕ → List ℕ → List ℕ) → (List ℕ → List ℕ → List ℕ) → List ℕ → List Action → Entry O C R → Type 0
answers_as call reply is_read reply_at state_after opening writes e =
    is_read (call e.call) × (reply e.reply ≡ reply_at (state_left state_after opening (operations_of writes)) (call e.call))
