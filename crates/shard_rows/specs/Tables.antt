-- The numbers of one directory's files, by their names.
use Rattle.std.specs.Prelude.{◌≡◌, ℕ, zero, suc, ◌<◌, ◌≤◌, ◌^◌, List, [], ◌∷◌, length, slice_index, if◌then◌else◌, ◌==◌}
use Rattle.std.specs.List.{sum_by}
use Rattle.dir_table.specs.declared.calls.DirRow.{DirRow}

-- numbers by name, 0 for a name that isn't there; names are below the room
pub record Table : Type 0 where
  pub numbers : List ℕ
  pub room : ℕ

-- the rows of the names from this one on
abbrev pub rows_from : ℕ → ℕ → List ℕ → List DirRow
rows_from dir name [] = []
rows_from dir name (zero ∷ numbers) = rows_from dir (suc name) numbers
rows_from dir name (suc n ∷ numbers) = record { dir = dir; name = name; ino = suc n } ∷ rows_from dir (suc name) numbers

-- the rows of the directory, in order
abbrev pub rows_of : ℕ → List ℕ → List DirRow
rows_of dir numbers = rows_from dir 0 numbers

-- 1 for a name that is there
abbrev pub held : ℕ → ℕ
held zero = 0
held (suc n) = 1

-- how many names there are
abbrev pub count_of : List ℕ → ℕ
count_of = sum_by held

-- the same numbers but for this name's
abbrev pub IsSet : List ℕ → List ℕ → ℕ → ℕ → Type 0
IsSet old new name number = (other : ℕ) → slice_index new other ≡ (if other == name then number else slice_index old other)

-- what a table keeps: the names are within the room, for which there is memory
pub record IsStored (numbers : List ℕ) (count room capacity : ℕ) : Type 0 where
  pub within : length numbers ≤ room
  pub counted : count ≡ count_of numbers
  pub reserved : room ≤ capacity
  pub fits : room < 2 ^ 32
