-- What each call is answered, and the directory after it.
use Rattle.std.specs.Prelude.{ℕ, ◌+◌, ◌≤◌, IsTrue, IsSome, IsNone, ◌==◌, ◌&&◌, Bool, true, nat_lt, Option, Some, None, if◌then◌else◌, find, filter, length}
use Rattle.std.specs.FinMap.{get, contains_key, insert, remove, entries}
use Rattle.dir_table.specs.declared.calls.DirCall.{DirCall}
use Rattle.dir_table.specs.declared.calls.DirCall.TheVariants.{Make, Drop, Rename, Find, Count, Next}
use Rattle.dir_table.specs.declared.calls.DirReply.{DirReply}
use Rattle.dir_table.specs.declared.calls.DirReply.TheVariants.{Ino, Done, Exists, Absent, Number, Name, End}
use Rattle.dir_table.specs.Names.{Place, Names}
use Rattle.dir_table.specs.Directory.{Directory}

-- the name comes after this one, or after none
abbrev pub comes_after : Option ℕ → ℕ → Bool
comes_after None name = true
comes_after (Some after) name = nat_lt after name

-- the first name of the directory after this one, in order
abbrev pub next_name : Names → ℕ → Option ℕ → Option (Place × ℕ)
next_name names dir after = find (λ e. (e.0.0 == dir) && comes_after after e.0.1) (entries names)

abbrev pub name_reply : Option (Place × ℕ) → DirReply
name_reply None = End
name_reply (Some e) = Name e.0.1

-- the name is there and comes after this one, and no lesser one does
pub record IsLeastAfter (names : Names) (dir : ℕ) (bound : Option ℕ) (name : ℕ) : Type 0 where
  pub there : IsSome (get names (dir, name))
  pub later : IsTrue (comes_after bound name)
  pub least : (other : ℕ) → IsSome (get names (dir, other)) → IsTrue (comes_after bound other) → name ≤ other

-- no name of the directory comes after this one
abbrev pub NoneAfter : Names → ℕ → Option ℕ → Type 0
NoneAfter names dir bound = (other : ℕ) → IsTrue (comes_after bound other) → IsNone (get names (dir, other))

-- how many names the directory has
abbrev pub count_in : Names → ℕ → ℕ
count_in names dir = length (filter (λ e. e.0.0 == dir) (entries names))

abbrev pub number_reply : Option ℕ → DirReply
number_reply None = Absent
number_reply (Some number) = Ino number

-- what the call is answered
abbrev pub reply_to : Directory → DirCall → DirReply
reply_to d (Make dir name) = if contains_key d.names (dir, name) then Exists else Ino d.next_number
reply_to d (Drop dir name) = if contains_key d.names (dir, name) then Done else Absent
reply_to d (Rename dir name to_dir to_name) = if contains_key d.names (dir, name) then Done else Absent
reply_to d (Find dir name) = number_reply (get d.names (dir, name))
reply_to d (Count dir) = Number (count_in d.names dir)
reply_to d (Next dir after) = name_reply (next_name d.names dir after)

-- the new name is this file's, and the old one is gone
abbrev pub moved : Names → Place → Place → Option ℕ → Names
moved names old new None = names
moved names old new (Some number) = insert (remove names old) new number

-- the directory after the call, as it was where the call is a read or is refused. A name that is renamed onto itself stays
abbrev pub after : Directory → DirCall → Directory
after d (Make dir name) =
    if contains_key d.names (dir, name) then d
    else record d { names = insert d.names (dir, name) d.next_number; next_number = d.next_number + 1 }
after d (Drop dir name) = record d { names = remove d.names (dir, name) }
after d (Rename dir name to_dir to_name) =
    if (dir == to_dir) && (name == to_name) then d
    else record d { names = moved d.names (dir, name) (to_dir, to_name) (get d.names (dir, name)) }
after d (Find dir name) = d
after d (Count dir) = d
after d (Next dir bound) = d
