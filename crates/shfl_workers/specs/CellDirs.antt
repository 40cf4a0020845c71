-- The calls that a pass of a cell made.
use Rattle.std.specs.Prelude.{◌≡◌, List, map}
use Rattle.dir_table.specs.declared.calls.DirCall.{DirCall}
use Rattle.dir_table.specs.Numbers.{call_numbers}
use Rattle.shfl_table.specs.Histories.{actions_by}
use Rattle.shfl_cell.specs.Cells.{CellModel, CellPassModel, number}

-- a pass of this cell
abbrev pub IsPassOf : CellModel → CellPassModel → Type 0
IsPassOf cell p = (p.cell ≡ cell.id) × (p.opening ≡ cell.opening)

-- the pass made these calls on the directory, in order: those of its own entries in what it has seen
abbrev pub HasMade : CellPassModel → List DirCall → Type 0
HasMade p calls = map (λ a. a.call) (actions_by (number p) p.seen) ≡ map call_numbers calls
