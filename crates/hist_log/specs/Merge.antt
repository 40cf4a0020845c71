-- The one order of a list of writes and of each worker's reads.
use Rattle.std.specs.Prelude.{◌≡◌, ℕ, suc, ◌<◌, ◌≤◌, List, [], ◌∷◌, ◌++◌, ◌==◌, filter, take, length, All, slice_index, slice_index_or}
use Rattle.std.specs.List.{flat_map, AllWithin}
use Rattle.std.specs.List.Sorted.{IsNonDecreasingBy}
use Rattle.hist_log.specs.declared.entry.Entry.{Entry}
use Rattle.hist_log.specs.History.{operations, state_left}

module _ {E : Type 0} (receipt : E → ℕ) where
  -- the reads that come after so many writes: by worker, and then in the worker's order
  abbrev pub reads_at : List (List E) → ℕ → List E
  reads_at reads point = flat_map (filter (λ e. receipt e == point)) reads

  -- the reads from the point on, put between the writes that come after it
  abbrev pub merged_from : List (List E) → ℕ → List E → List E
  merged_from reads point [] = reads_at reads point
  merged_from reads point (w ∷ ws) = reads_at reads point ++ w ∷ merged_from reads (suc point) ws

  -- each read after as many writes as its receipt says
  abbrev pub merged : List E → List (List E) → List E
  merged writes reads = merged_from reads 0 writes

  -- the receipts of each worker's reads don't fall
  abbrev pub AreInOrder : List (List E) → Type 0
  AreInOrder reads = All (IsNonDecreasingBy receipt) reads

  -- no receipt is above the number of writes
  abbrev pub AreWithin : List E → List (List E) → Type 0
  AreWithin writes reads = All (All (λ e. receipt e ≤ length writes)) reads

  -- the first read of the point, or of a later one, is at this place
  pub record StartsAt (point : ℕ) (reads : List E) (start : ℕ) : Type 0 where
    pub within : start ≤ length reads
    pub before : AllWithin (λ e. receipt e < point) reads 0 start
    pub from : AllWithin (λ e. point ≤ receipt e) reads start (length reads)

  -- so for each worker, where `starts` has one place for each list
  pub record AllStartAt (point : ℕ) (reads : List (List E)) (starts : List ℕ) : Type 0 where
    pub as_many : length starts ≡ length reads
    pub each : (k : ℕ) → k < length reads → StartsAt point (slice_index_or reads k []) (slice_index starts k)

-- each entry of each list is a read
abbrev pub AreReads : {O C R : Type 0} → (C → List ℕ) → (List ℕ → Type 0) → List (List (Entry O C R)) → Type 0
AreReads call is_read reads = All (All (λ e. is_read (call e.call))) reads

-- each read is answered by the state that as many writes leave as its receipt says
abbrev pub ReadsFit : {O C R : Type 0} → (C → List ℕ) → (R → List ℕ) → (List ℕ → Type 0)
    → (List ℕ → List ℕ → List ℕ) → (List ℕ → List ℕ → List ℕ) → List ℕ → List (Entry O C R) → List (List (Entry O C R)) → Type 0
ReadsFit call reply is_read reply_at state_after state writes reads =
    All (All (λ e. is_read (call e.call) × (reply e.reply ≡ reply_at (state_left state_after state (operations call reply (take e.receipt writes))) (call e.call)))) reads
