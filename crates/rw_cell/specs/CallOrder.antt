-- The calls of one pass, in its order.
use Rattle.std.specs.Prelude.{ℕ, suc, ◌==◌, cond, List, [], ◌∷◌, ◌++◌, map, filter}
use Rattle.hist_log.specs.declared.entry.Entry.{Entry}
use Rattle.shfl_table.specs.declared.kept.Action.{Action}
use Rattle.shfl_table.specs.Books.{action, actions}
use Rattle.rw_cell.specs.RwCells.{RwPassModel, number}

module _ {O C R : Type 0} (call : C → List ℕ) (reply : R → List ℕ) where
  -- the reads after so many writes
  abbrev pub reads_after : ℕ → List (Entry O C R) → List Action
  reads_after point reads = actions call reply (filter (λ e. e.receipt == point) reads)

  -- of the writes that come after so many, the own ones, each behind the reads that have no more writes before them
  abbrev pub calls_from : ℕ → ℕ → List Action → List (Entry O C R) → List Action
  calls_from worker point [] reads = reads_after point reads
  calls_from worker point (w ∷ ws) reads =
      reads_after point reads ++ cond (w.worker == worker) (w ∷ calls_from worker (suc point) ws reads) (calls_from worker (suc point) ws reads)

  -- all calls of a pass: its reads, each after as many writes as its receipt says, and between them its writes
  abbrev pub calls_of : RwPassModel (Entry O C R) → List Action
  calls_of p = calls_from (number p) 0 p.seen p.reads
