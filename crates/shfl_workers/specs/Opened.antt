-- What is opened for a trace.
use Rattle.std.specs.Prelude.{◌≡◌, All, length, map}
use Rattle.std.specs.FinMap.{empty}
use Rattle.dir_table.specs.Directory.{Directory}
use Rattle.dir_table.specs.Numbers.{state_numbers}
use Rattle.shfl_line.specs.declared.events.Form.TheVariants.{Park, RwPark}
use Rattle.shfl_line.specs.Words.{attr_word}
use Rattle.trace_text.specs.declared.trace.Trace.{Trace}
use Rattle.trace_text.specs.Histories.{beginning}
use Rattle.shfl_cell.specs.Cells.{CellModel}
use Rattle.rw_cell.specs.RwCells.{RwCellModel}
use Rattle.shfl_workers.specs.declared.shard_dir.Shards.{Shards}

-- the empty directory that has room for the names of the trace, and calls left for its lines
abbrev pub directory_for : Trace → Directory
directory_for t = record { names = empty; next_number = 1; room = length t.names.items; spare = length t.calls.items }

-- a readers-writer cell of an empty directory, with a pass for each worker that has its attributes, whose waiters sleep, and batches
-- of up to 1,024
pub record IsCellFor (t : Trace) (cell : RwCellModel) : Type 0 where
  pub count : cell.count ≡ length t.workers.items
  pub opening : cell.opening ≡ state_numbers (beginning t)
  pub rules : cell.id.rules ≡ record { limit = 1024; form = RwPark }
  pub attrs : cell.id.attrs ≡ map attr_word t.workers.items

-- such a cell of one empty directory, with one lock for readers and writers alike
pub record IsOneFor (t : Trace) (cell : CellModel) : Type 0 where
  pub count : cell.count ≡ length t.workers.items
  pub opening : cell.opening ≡ state_numbers (beginning t)
  pub rules : cell.id.rules ≡ record { limit = 1024; form = Park }
  pub attrs : cell.id.attrs ≡ map attr_word t.workers.items

-- 64 such locks of directories for the names of the trace, and an empty directory
pub record AreShardsFor (t : Trace) (s : Shards) : Type 0 where
  pub allowed : length s.locks.allowed ≡ length t.workers.items
  pub room : s.locks.room ≡ length t.names.items
  pub count : length s.locks.locks ≡ 64
  pub rules : All (λ l. l.rules ≡ record { limit = 1024; form = Park }) s.locks.locks
  pub attrs : All (λ l. l.attrs ≡ map attr_word t.workers.items) s.locks.locks
  pub replica : s.replica ≡ directory_for t
