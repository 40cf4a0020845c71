-- What a list of entries makes of the empty directory.
use Rattle.std.specs.Prelude.{◌≡◌, ℕ, ◌==◌, ◌&&◌, List, [], ◌∷◌, ◌++◌, if◌then◌else◌}
use Rattle.std.specs.Option.{unwrap_or}
use Rattle.std.specs.FinMap.{get, empty, contains_key}
use Rattle.hist_log.specs.declared.entry.Entry.{Entry}
use Rattle.dir_table.specs.declared.calls.DirCall.{DirCall}
use Rattle.dir_table.specs.declared.calls.DirCall.TheVariants.{Make, Drop, Rename, Find, Count, Next}
use Rattle.dir_table.specs.declared.calls.DirReply.{DirReply}
use Rattle.dir_table.specs.Directory.{Directory}
use Rattle.dir_table.specs.Answers.{reply_to, after}

-- one call of a directory, with its worker, its reply and its place
abbrev pub DirEntry : Type 0
DirEntry = Entry Directory DirCall DirReply

-- the empty directory, whose numbers begin at 1
abbrev pub opening : ℕ → Directory
opening room = record { names = empty; next_number = 1; room = room; spare = 0 }

-- the directory that the entries leave
abbrev pub left_by : Directory → List DirEntry → Directory
left_by d [] = d
left_by d (e ∷ es) = left_by (after d e.call) es

-- each reply is the directory's after the entries before it
abbrev pub IsLegal : Directory → List DirEntry → Type 0
IsLegal d [] = Unit {0}
IsLegal d (e ∷ es) = (e.reply ≡ reply_to d e.call) × IsLegal (after d e.call) es

-- the number that the call gives a new file, or that it moves to another name; 0 where it does neither
abbrev pub number_of : Directory → DirCall → ℕ
number_of d (Make dir name) = if contains_key d.names (dir, name) then 0 else d.next_number
number_of d (Rename dir name to_dir to_name) = if (dir == to_dir) && (name == to_name) then 0 else unwrap_or (get d.names (dir, name)) 0
number_of d (Drop dir name) = 0
number_of d (Find dir name) = 0
number_of d (Count dir) = 0
number_of d (Next dir bound) = 0

-- so for each entry, after those before it
abbrev pub numbers_of : Directory → List DirEntry → List ℕ
numbers_of d [] = []
numbers_of d (e ∷ es) = number_of d e.call ∷ numbers_of (after d e.call) es

-- an entry more
abbrev pub entry_by : ℕ → DirCall → DirReply → ℕ → DirEntry
entry_by worker call reply place = record { worker = worker; call = call; reply = reply; receipt = place }
