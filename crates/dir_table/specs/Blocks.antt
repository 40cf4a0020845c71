-- Rows in blocks, which are half full or more where many rows were put in.
use Rattle.std.specs.Prelude.{◌≡◌, ℕ, suc, ◌+◌, ◌-◌, ◌*◌, ◌<◌, ◌≤◌, ◌^◌, List, [], ◌∷◌, take, drop, length, slice_index_or, slice_set, All, Bool, true, false}
use Rattle.std.specs.List.{flat_map, sum_by, insert, AllWithin}
use Rattle.std.specs.Ordering.{is_lt}
use Rattle.dir_table.specs.declared.calls.DirRow.{DirRow}
use Rattle.dir_table.specs.declared.block.Spot.{Spot}
use Rattle.dir_table.specs.Names.{Place, place_cmp}

-- how many rows a block has memory for
abbrev pub block_room : ℕ
block_room = 128

-- how many rows the two halves of a full block have
abbrev pub half_room : ℕ
half_room = 64

abbrev pub Blocks : Type 0
Blocks = List (List DirRow)

-- the rows of all blocks in order
abbrev pub joined : Blocks → List DirRow
joined = flat_map (λ rows. rows)

-- the rows of the block
abbrev pub block_at : Blocks → ℕ → List DirRow
block_at blocks k = slice_index_or blocks k []

-- the first of the rows, and of none the one with the least numbers
abbrev pub first_row : List DirRow → DirRow
first_row rows = slice_index_or rows 0 (record { dir = 0; name = 0; ino = 0 })

-- how many rows stand before the spot
abbrev pub rows_before : Blocks → Spot → ℕ
rows_before blocks spot = length (joined (take spot.block blocks)) + spot.at

-- there is a block, and each but the first has rows
pub record AreFilled (blocks : Blocks) : Type 0 where
  pub some : 0 < length blocks
  pub filled : All (λ rows. 0 < length rows) (drop 1 blocks)

-- what is left of a first block and of the blocks from `next` on: each of those has rows, and a count of all rows fits
pub record AreReadable (first : List DirRow) (blocks : Blocks) (next : ℕ) : Type 0 where
  pub within : next ≤ length blocks
  pub filled : All (λ rows. 0 < length rows) (drop next blocks)
  pub few : length (joined blocks) < 2 ^ 32
  pub fewer : length first + length (joined (drop next blocks)) ≤ length (joined blocks)

-- there is a row at the spot
pub record IsRow (blocks : Blocks) (spot : Spot) : Type 0 where
  pub block : spot.block < length blocks
  pub row : spot.at < length (block_at blocks spot.block)

-- a row may be put in at the spot
pub record IsGap (blocks : Blocks) (spot : Spot) : Type 0 where
  pub block : spot.block < length blocks
  pub within : spot.at ≤ length (block_at blocks spot.block)

-- how many rows stand above the halves of their blocks
abbrev pub crowding : Blocks → ℕ
crowding = sum_by (λ rows. length rows - half_room)

-- the blocks after the full one at k became two
abbrev pub halved : Blocks → ℕ → Blocks
halved blocks k = insert (slice_set blocks k (take half_room (block_at blocks k))) (suc k) (drop half_room (block_at blocks k))

-- what a buffer keeps of its blocks, where there is memory for `left` more
pub record AreStored (blocks : Blocks) (spare left : ℕ) : Type 0 where
  pub filled : AreFilled blocks
  pub apart : All (λ rows. length rows < block_room) blocks
  -- 64 rows were put in for each block that a full one gave half of its rows
  pub reserved : crowding blocks + spare ≤ half_room * left

-- the row's place is below the limit
abbrev pub is_below : Place → DirRow → Bool
is_below limit row = is_lt (place_cmp (row.dir, row.name) limit)

-- the first element passes, if there is one
abbrev pub begins_with : {X : Type 0} → (X → Bool) → List X → Bool
begins_with test [] = false
begins_with test (x ∷ xs) = test x

-- the rows before i are below the limit, and those from i on are not
pub record IsCut (rows : List DirRow) (limit : Place) (i : ℕ) : Type 0 where
  pub within : i ≤ length rows
  pub before : AllWithin (λ row. is_below limit row ≡ true) rows 0 i
  pub behind : AllWithin (λ row. is_below limit row ≡ false) rows i (length rows)
