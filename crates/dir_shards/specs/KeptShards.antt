-- What lies behind a directory's lock.
use Rattle.std.specs.Prelude.{◌≡◌, ℕ, List, ◌∷◌, length}
use Rattle.atomic_table.specs.Seated.{TableId}
use Rattle.shard_rows.specs.Replay.{DirEntry, opening, left_by}
use Rattle.shard_rows.specs.Shares.{names_in}
use Rattle.shard_rows.specs.Values.{ShardValue}

-- the names of one directory after a beginning of the journal: at which table the journal is, below which number names are, which
-- directory it is, and the entries of that beginning
pub record KeptShardModel : Type 0 where
  pub table : TableId
  pub room : ℕ
  pub dir : ℕ
  pub list : List DirEntry

-- a directory's names after these entries
abbrev pub shard_after : ℕ → ℕ → List DirEntry → ShardValue
shard_after room dir entries = record {
  dir = dir;
  names = names_in (left_by (opening room) entries).names dir;
  known = length entries;
  room = room;
}

-- which table it is
abbrev pub table_numbers : TableId → List ℕ
table_numbers t = t.words ∷ t.slots ∷ t.views_name ∷ t.atom ∷ t.block ∷ t.offset ∷ t.slot_names

-- what never changes behind the lock of this directory
abbrev pub lock_state : TableId → ℕ → ℕ → List ℕ
lock_state table room dir = dir ∷ room ∷ table_numbers table

abbrev pub state_of : KeptShardModel → List ℕ
state_of k = lock_state k.table k.room k.dir
