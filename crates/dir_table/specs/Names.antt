-- The names of all directories as a finite map, each with the number of its file.
use Rattle.std.specs.Prelude.{ℕ, Bool, not, List, map}
use Rattle.std.specs.declared.cmp.Ordering.{Ordering}
use Rattle.std.specs.Ordering.{nat_cmp, ordering_then, eq_by_cmp}
use Rattle.std.specs.FinMap.{FinMap}
use Rattle.dir_table.specs.declared.calls.DirRow.{DirRow}

-- a directory and a name in it
abbrev pub Place : Type 0
Place = ℕ × ℕ

-- by directory, and then by name
abbrev pub place_cmp : Place → Place → Ordering
place_cmp a b = ordering_then (nat_cmp a.0 b.0) (nat_cmp a.1 b.1)

-- what each name is the number of
abbrev pub Names : Type 0
Names = FinMap place_cmp ℕ

abbrev pub entry_of : DirRow → Place × ℕ
entry_of row = ((row.dir, row.name), row.ino)

-- the test of another place
abbrev pub is_other : Place → Place → Bool
is_other place other = not (eq_by_cmp place_cmp place other)

-- the rows of the names, in order
abbrev pub entries_of : List DirRow → List (Place × ℕ)
entries_of = map entry_of
