-- Rows in memory, and how many each directory has.
use Rattle.std.specs.Prelude.{◌≡◌, ℕ, ◌<◌, ◌==◌, List, slice_index_or}
use Rattle.std.specs.List.{count_by}
use Rattle.dir_table.specs.declared.calls.DirRow.{DirRow}
use Rattle.dir_table.specs.Blocks.{Blocks, joined, AreStored}

pub record Buffered : Type 0 where
  -- the rows, in blocks
  pub blocks : Blocks
  -- how many rows may be put in for sure
  pub spare : ℕ

-- how many of the rows are of the directory
abbrev pub rows_in : ℕ → List DirRow → ℕ
rows_in dir = count_by (λ row. row.dir == dir)

-- what a buffer keeps of its blocks, and of its counts, one for each number that a `u8` may be
pub record AreBuffered (blocks : Blocks) (spare left : ℕ) (counts : List ℕ) : Type 0 where
  pub stored : AreStored blocks spare left
  pub counted : (dir d : ℕ) → dir < 256 → slice_index_or counts dir d ≡ rows_in dir (joined blocks)
