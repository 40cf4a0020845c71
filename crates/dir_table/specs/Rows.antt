-- What the rows of a directory keep.
use Rattle.std.specs.Prelude.{◌≡◌, ℕ, zero, suc, ◌+◌, ◌<◌, ◌≤◌, List, [], ◌∷◌, All, IsTrue, length, Option, true, false, ◌==◌, ◌&&◌}
use Rattle.std.specs.List.{AllWithin}
use Rattle.std.specs.FinMap.{is_sorted, from_sorted}
use Rattle.std.specs.FinMap.Entries.{below_all}
use Rattle.std.specs.declared.cmp.Ordering.TheVariants.{Equal, Greater}
use Rattle.dir_table.specs.declared.calls.DirRow.{DirRow}
use Rattle.dir_table.specs.Names.{Place, Names, place_cmp, entries_of}
use Rattle.dir_table.specs.Directory.{IsInRange}
use Rattle.dir_table.specs.Answers.{comes_after}

-- the rows stand in order of directory and name, none twice
abbrev pub AreInOrder : List DirRow → Type 0
AreInOrder rows = IsTrue (is_sorted place_cmp (entries_of rows))

-- the map that the rows are
abbrev pub names_of : List DirRow → Names
names_of rows = from_sorted (entries_of rows)

pub record IsConsistent (rows : List DirRow) (reserve next_number room spare : ℕ) : Type 0 where
  pub in_order : AreInOrder rows
  pub in_range : All (λ row. IsInRange room row.dir row.name) rows
  -- each row was made with a number of its own
  pub made : length rows < next_number
  -- the rows that the calls left may add have their memory
  pub reserved : spare ≤ reserve
  -- the numbers that they may give fit
  pub numbered : next_number + spare ≤ 65537

-- the place's entry is the one at i: the entries before it are of lesser places
abbrev pub IsAt : List (Place × ℕ) → Place → ℕ → Type 0
IsAt [] place i = ⊥
IsAt (e ∷ es) place zero = place_cmp place e.0 ≡ Equal
IsAt (e ∷ es) place (suc i) = (place_cmp place e.0 ≡ Greater) × IsAt es place i

-- the place would go to i: lesser places before it, and greater ones from it on
abbrev pub IsGapFor : List (Place × ℕ) → Place → ℕ → Type 0
IsGapFor es place zero = IsTrue (below_all place_cmp place es)
IsGapFor [] place (suc i) = ⊥
IsGapFor (e ∷ es) place (suc i) = (place_cmp place e.0 ≡ Greater) × IsGapFor es place i

-- before i no name is of this directory and after this one, and from i on the names of the directory are
pub record BeginAfter (rows : List DirRow) (dir : ℕ) (bound : Option ℕ) (i : ℕ) : Type 0 where
  pub within : i ≤ length rows
  pub before : AllWithin (λ row. ((row.dir == dir) && comes_after bound row.name) ≡ false) rows 0 i
  pub directories : AllWithin (λ row. dir ≤ row.dir) rows i (length rows)
  pub later : AllWithin (λ row. row.dir ≡ dir → comes_after bound row.name ≡ true) rows i (length rows)
