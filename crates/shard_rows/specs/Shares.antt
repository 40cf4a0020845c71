-- One directory's share of the names, and what an entry makes of it.
use Rattle.std.specs.Prelude.{◌≡◌, ◌≢◌, ◌⊎◌, ℕ, zero, suc, ◌+◌, ◌<◌, ◌==◌, Option, None, Some, if◌then◌else◌}
use Rattle.std.specs.FinMap.{get, insert, remove, retain_keys}
use Rattle.dir_table.specs.declared.calls.DirCall.{DirCall}
use Rattle.dir_table.specs.declared.calls.DirCall.TheVariants.{Make, Drop, Rename, Find, Count, Next}
use Rattle.dir_table.specs.Names.{Place, Names}
use Rattle.dir_table.specs.Directory.{Directory}

-- the names of one directory
abbrev pub names_in : Names → ℕ → Names
names_in names dir = retain_keys names (λ place. place.0 == dir)

-- names and numbers as they come about: files have numbers from 1 on
pub record IsNumbered (d : Directory) : Type 0 where
  pub next : 0 < d.next_number
  pub there : (place : Place) → get d.names place ≢ Some 0

-- the names of directory k with this name set to the number, or without it where the number is 0
abbrev pub with_number : ℕ → Names → ℕ → ℕ → ℕ → Names
with_number k names dir name zero = if dir == k then remove names (dir, name) else names
with_number k names dir name (suc n) = if dir == k then insert names (dir, name) (suc n) else names

-- the names of directory k after a call beside which the number stands
abbrev pub advanced : ℕ → Names → DirCall → ℕ → Names
advanced k names (Make dir name) zero = names
advanced k names (Make dir name) (suc n) = with_number k names dir name (suc n)
advanced k names (Drop dir name) number = with_number k names dir name 0
advanced k names (Rename dir name to_dir to_name) zero = names
advanced k names (Rename dir name to_dir to_name) (suc n) = with_number k (with_number k names dir name 0) to_dir to_name (suc n)
advanced k names (Find dir name) number = names
advanced k names (Count dir) number = names
advanced k names (Next dir bound) number = names

-- the directory that the call reads, and whose names its reply and its number come from
abbrev pub first_named : DirCall → ℕ
first_named (Make dir name) = dir
first_named (Drop dir name) = dir
first_named (Rename dir name to_dir to_name) = dir
first_named (Find dir name) = dir
first_named (Count dir) = dir
first_named (Next dir bound) = dir

-- the directory that the call names last
abbrev pub last_named : DirCall → ℕ
last_named (Make dir name) = dir
last_named (Drop dir name) = dir
last_named (Rename dir name to_dir to_name) = to_dir
last_named (Find dir name) = dir
last_named (Count dir) = dir
last_named (Next dir bound) = dir

-- the call names the directory
abbrev pub NamesDir : DirCall → ℕ → Type 0
NamesDir call dir = (first_named call ≡ dir) ⊎ (last_named call ≡ dir)

-- a directory that has these names alone
abbrev pub alone : Directory → Names → Directory
alone d names = record d { names = names }

-- the name with which those after this one begin
abbrev pub start_of : Option ℕ → ℕ
start_of None = 0
start_of (Some name) = name + 1

-- the next number after a call beside which the number stands
abbrev pub next_after : DirCall → ℕ → ℕ → ℕ
next_after (Make dir name) zero next_number = next_number
next_after (Make dir name) (suc n) next_number = next_number + 1
next_after (Drop dir name) number next_number = next_number
next_after (Rename dir name to_dir to_name) number next_number = next_number
next_after (Find dir name) number next_number = next_number
next_after (Count dir) number next_number = next_number
next_after (Next dir bound) number next_number = next_number
