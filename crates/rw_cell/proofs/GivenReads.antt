-- The lists of reads that the closing gives may be merged with the writes.
use Rattle.std.proofs.Common.{◌≡◌, ℕ, ◌+◌, ◌<◌, ◌≤◌, List, [], ◌∷◌, ◌++◌, map, take, length, get_or, sym, ap, ◌∙◌, subst, arith, length-append}
use Rattle.std.specs.List.{All}
use Rattle.std.proofs.lemmas.List.{length-map, take-append-le, take-map, get_or_default}
use Rattle.hist_log.specs.declared.entry.Entry.{Entry}
use Rattle.hist_log.specs.History.{Operation, operations, state_left}
use Rattle.hist_log.specs.Merge.{AreInOrder, AreWithin, ReadsFit}
use Rattle.shfl_table.specs.declared.kept.Action.{Action}
use Rattle.shfl_table.specs.Histories.{StartsWith}
use Rattle.shfl_table.specs.Books.{action, actions, operations_of}
use Rattle.shfl_table.proofs.Entries.{operations_of-actions}
use Rattle.rw_cell.specs.KeptReads.{KeepsReads, answers_as}

module _ {O C R : Type 0} (call : C → List ℕ) (reply : R → List ℕ) (is_read : List ℕ → Type 0) (reply_at state_after : List ℕ → List ℕ → List ℕ) (opening : List ℕ) (writes : List (Entry O C R)) where
  -- the reads of pass k, which has seen these writes
  abbrev pub Keeps : ℕ → List Action → List (Entry O C R) → Type 0
  Keeps k seen reads = KeepsReads (action call reply) (λ e. e.receipt) (answers_as call reply is_read reply_at state_after) opening k seen reads

  -- the first writes are those that the pass saw
  first-seen : (seen : List Action) (n : ℕ) → StartsWith (actions call reply writes) seen → n ≤ length seen → operations_of (take n seen) ≡ operations call reply (take n writes)
  first-seen seen n starts within =
      let same : take n seen ≡ actions call reply (take n writes) = sym (take-append-le n seen starts.0 within) ∙ (ap (take n) (sym starts.1) ∙ take-map (action call reply) n writes) in
      ap operations_of same ∙ operations_of-actions call reply (take n writes)

  one-within : (k : ℕ) (seen : List Action) (reads : List (Entry O C R)) → StartsWith (actions call reply writes) seen → Keeps k seen reads → All (λ e. e.receipt ≤ length writes) reads
  one-within k seen reads starts keeps j d h =
      let w = keeps.within j d h in let l = length-map writes (action call reply) in let n = ap length starts.1 in let m = length-append seen starts.0 in omega arith

  one-fits : (k : ℕ) (seen : List Action) (reads : List (Entry O C R)) → StartsWith (actions call reply writes) seen → Keeps k seen reads
      → All (λ e. is_read (call e.call) × (reply e.reply ≡ reply_at (state_left state_after opening (operations call reply (take e.receipt writes))) (call e.call))) reads
  one-fits k seen reads starts keeps j d h =
      let e : Entry O C R = get_or reads j d in let a = keeps.answered j d h in
      (a.0, a.1 ∙ ap (λ (l : List Operation). reply_at (state_left state_after opening l) (call e.call)) (first-seen seen e.receipt starts (keeps.within j d h)))

  -- each list is kept by a pass that has seen the first of the writes
  abbrev pub EachKept : List (List (Entry O C R)) → Type 0
  EachKept lists = (k : ℕ) (d : List (Entry O C R)) → k < length lists → (seen : List Action) × StartsWith (actions call reply writes) seen × Keeps k seen (get_or lists k d)

  pub in_order_all : (lists : List (List (Entry O C R))) → EachKept lists → AreInOrder (λ e. e.receipt) lists
  in_order_all lists each k d h = (each k d h).2.in_order

  pub within_all : (lists : List (List (Entry O C R))) → EachKept lists → AreWithin (λ e. e.receipt) writes lists
  within_all lists each k d h = let e = each k d h in one-within k e.0 (get_or lists k d) e.1 e.2

  pub fit_all : (lists : List (List (Entry O C R))) → EachKept lists → ReadsFit call reply is_read reply_at state_after opening writes lists
  fit_all lists each k d h = let e = each k d h in one-fits k e.0 (get_or lists k d) e.1 e.2

  pub own_all : (lists : List (List (Entry O C R))) → EachKept lists → (k : ℕ) → k < length lists → All (λ e. e.worker ≡ k) (get_or lists k [])
  own_all lists each k h = (each k [] h).2.own
