-- Which directories a call names, and so whose locks it takes.
use Rattle.std.specs.Prelude.{ℕ, min, max, ◌==◌, Option, None, Some, List, [], ◌∷◌, if◌then◌else◌}
use Rattle.dir_table.specs.declared.calls.DirCall.{DirCall}
use Rattle.dir_table.specs.declared.calls.DirCall.TheVariants.{Make, Drop, Rename, Find, Count, Next}
use Rattle.shard_rows.specs.Shares.{first_named}

-- the other directory of a rename over two
abbrev pub other_named : DirCall → Option ℕ
other_named (Make dir name) = None
other_named (Drop dir name) = None
other_named (Rename dir name to_dir to_name) = if dir == to_dir then None else Some to_dir
other_named (Find dir name) = None
other_named (Count dir) = None
other_named (Next dir bound) = None

-- one number, or two with the lower one first
abbrev pub in_order : ℕ → Option ℕ → List ℕ
in_order dir None = dir ∷ []
in_order dir (Some other) = min dir other ∷ max dir other ∷ []

-- the locks that a call takes, in this order
abbrev pub locks_of : DirCall → List ℕ
locks_of call = in_order (first_named call) (other_named call)
