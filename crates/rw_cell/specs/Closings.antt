-- What the closing of a cell gives.
use Rattle.std.specs.Prelude.{◌≡◌, ℕ, ◌<◌, ◌≤◌, List, [], ◌∷◌, All, length, slice_index_or}
use Rattle.hist_log.specs.declared.entry.Entry.{Entry}
use Rattle.hist_log.specs.History.{IsLegal, operations}
use Rattle.hist_log.specs.Merge.{merged, AreInOrder, AreWithin, ReadsFit}
use Rattle.shfl_table.specs.declared.kept.Action.{Action}
use Rattle.shfl_table.specs.declared.view.Part.{Part}
use Rattle.shfl_table.specs.ThreadRuns.{RanUntilClosed}
use Rattle.shfl_table.specs.Histories.{HasSeen, actions_by}
use Rattle.shfl_table.specs.Books.{HavePlaces, actions}
use Rattle.rw_cell.specs.CallOrder.{calls_of}
use Rattle.rw_cell.specs.RwCells.{RwCellModel, RwPassModel, number}

module _ {O C R : Type 0} (call : C → List ℕ) (reply : R → List ℕ) where
  -- the writes are legal. They begin with what each pass saw last, have no more of its writes, and nobody else's
  pub record GivesWrites {E : Type 0} (reply_at state_after : List ℕ → List ℕ → List ℕ) (cell : RwCellModel) (passes : List (RwPassModel E)) (writes : List (Entry O C R)) : Type 0 where
    pub legal : IsLegal reply_at state_after cell.opening (operations call reply writes)
    pub seen : All (λ p. HasSeen (actions call reply writes) (number p) p.seen) passes
    pub nobody_else : (k : ℕ) → cell.count ≤ k → actions_by k (actions call reply writes) ≡ []
    pub places : HavePlaces writes

  -- list k has the reads of pass k, and no others. With the writes they may be merged, and each fits the writes before it
  pub record GivesReads (is_read : List ℕ → Type 0) (reply_at state_after : List ℕ → List ℕ → List ℕ) (cell : RwCellModel) (passes : List (RwPassModel (Entry O C R))) (writes : List (Entry O C R)) (reads : List (List (Entry O C R))) : Type 0 where
    pub count : length reads ≡ cell.count
    pub lists : All (λ p. slice_index_or reads (number p) [] ≡ p.reads) passes
    pub own : (k : ℕ) → k < cell.count → All (λ e. e.worker ≡ k) (slice_index_or reads k [])
    pub in_order : AreInOrder (λ e. e.receipt) reads
    pub within : AreWithin (λ e. e.receipt) writes reads
    -- the merged history has the calls of each pass in its order
    pub order : All (λ p. actions_by (number p) (actions call reply (merged (λ e. e.receipt) writes reads)) ≡ calls_of call reply p) passes
    pub fit : ReadsFit call reply is_read reply_at state_after cell.opening writes reads

-- what a pass did
abbrev pub part : {E : Type 0} → RwPassModel E → Part
part p = record { number = p.reg.me; steps_taken = p.steps_taken; found = p.found; attempts = p.attempts; decisions = p.decisions }

-- each of these is what the pass at its place did
abbrev pub ArePartsOf : {E : Type 0} → List (RwPassModel E) → List Part → Type 0
ArePartsOf [] [] = Unit {0}
ArePartsOf (p ∷ ps) (x ∷ xs) = (x ≡ part p) × ArePartsOf ps xs
ArePartsOf _ _ = ⊥

-- all that was done to the lock is a run of the model, in which these passes did what they tell, and whose holds have made the writes
pub record HasRunOf {E : Type 0} (cell : RwCellModel) (passes : List (RwPassModel E)) (writes : List Action) : Type 0 where
  pub parts : List Part
  pub told : ArePartsOf passes parts
  pub run : RanUntilClosed cell.id.rules cell.id.attrs cell.count parts writes
