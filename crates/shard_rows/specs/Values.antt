-- A shard and a journal as their callers see them.
use Rattle.std.specs.Prelude.{◌≡◌, ℕ, ◌<◌, ◌≤◌, All, List, Some, slice_get, slice_index, take, length, filter, nat_lt}
use Rattle.std.specs.FinMap.{code, entries}
use Rattle.std.specs.Coded.{Coded, code_by, coded×, coded_ℕ}
use Rattle.std.proofs.Common.{refl}
use Rattle.dir_table.specs.Names.{Place, Names}
use Rattle.dir_table.specs.Directory.{Directory}
use Rattle.dir_table.specs.Meanings.{IsAdmitted}
use Rattle.shard_rows.specs.Replay.{DirEntry, opening, left_by, numbers_of, IsLegal}
use Rattle.shard_rows.specs.Shares.{names_in, NamesDir}

pub record JournalValue : Type 0 where
  pub entries : List DirEntry
  -- names are below this number
  pub room : ℕ
  -- there is memory for so many entries
  pub limit : ℕ

pub record ShardValue : Type 0 where
  -- which directory it is
  pub dir : ℕ
  -- the names that are there, each with the number of its file
  pub names : Names
  -- after how many entries of the journal
  pub known : ℕ
  -- names are below this number
  pub room : ℕ

-- as a map and three numbers
abbrev pub coded_shard : Coded ShardValue
coded_shard = code_by (Names × (ℕ × (ℕ × ℕ))) (coded× (code (coded× coded_ℕ coded_ℕ) coded_ℕ) (coded× coded_ℕ (coded× coded_ℕ coded_ℕ)))
    (λ s. (s.names, (s.dir, (s.known, s.room)))) (λ p. record { names = p.0; dir = p.1.0; known = p.1.1.0; room = p.1.1.1 }) (λ _. refl)

-- the directory that has the shard's names alone, and this next number
abbrev pub shard_alone : ShardValue → ℕ → Directory
shard_alone shard next_number = record { names = shard.names; next_number = next_number; room = shard.room; spare = 0 }

-- the shard has the names of its directory after the first entries, of which it knows
pub record IsUpTo (entries : List DirEntry) (shard : ShardValue) : Type 0 where
  pub within : shard.known ≤ length entries
  pub names : shard.names ≡ names_in (left_by (opening shard.room) (take shard.known entries)).names shard.dir

-- the shard after all entries
abbrev pub caught_up : List DirEntry → ShardValue → ShardValue
caught_up entries shard = record shard { names = names_in (left_by (opening shard.room) entries).names shard.dir; known = length entries }

-- no entry from this place on names the directory
abbrev pub NamedBelow : List DirEntry → ℕ → ℕ → Type 0
NamedBelow entries dir place = (i : ℕ) (e : DirEntry) → slice_get entries i ≡ Some e → NamesDir e.call dir → i < place

-- what a journal keeps beside its entries
pub record IsKept (entries : List DirEntry) (numbers newest : List ℕ) (next_number room limit capacity number_capacity : ℕ) : Type 0 where
  -- each reply is the directory's after the entries before it
  pub legal : IsLegal (opening room) entries
  -- each call is one of directories and names in range
  pub admitted : All (λ e. IsAdmitted room e.call) entries
  -- each receipt is the entry's place
  pub placed : (i : ℕ) (e : DirEntry) → slice_get entries i ≡ Some e → e.receipt ≡ i
  -- the numbers that the entries gave or moved
  pub beside : numbers ≡ numbers_of (opening room) entries
  -- for each directory the place behind the last entry that names it
  pub directories : length newest ≡ 64
  pub named : (dir : ℕ) → NamedBelow entries dir (slice_index newest dir)
  -- the number that the next new file gets
  pub next : next_number ≡ (left_by (opening room) entries).next_number
  pub within : length entries ≤ limit
  pub few : limit ≤ 65536
  pub reserved : limit ≤ capacity
  pub reserved_beside : limit ≤ number_capacity

-- the map that the journal leaves
abbrev pub names_after : JournalValue → Names
names_after journal = (left_by (opening journal.room) journal.entries).names

-- its rows of the directories below this one, in order
abbrev pub rows_below : JournalValue → ℕ → List (Place × ℕ)
rows_below journal dir = filter (λ e. nat_lt e.0.0 dir) (entries (names_after journal))
