-- What a directory means as an object: replies and states as functions of the state and the call.
use Rattle.std.specs.Prelude.{ℕ, ◌<◌, List, Some, None, Bool, true, false, IsTrue, if◌then◌else◌, slice_index}
use Rattle.dir_table.specs.declared.calls.DirCall.{DirCall}
use Rattle.dir_table.specs.declared.calls.DirCall.TheVariants.{Make, Drop, Rename, Find, Count, Next}
use Rattle.dir_table.specs.Directory.{IsInRange}
use Rattle.dir_table.specs.Answers.{reply_to, after}
use Rattle.dir_table.specs.Numbers.{reply_numbers, state_numbers, directory_from, call_from}

abbrev pub is_read : DirCall → Bool
is_read (Make dir name) = false
is_read (Drop dir name) = false
is_read (Rename dir name to_dir to_name) = false
is_read (Find dir name) = true
is_read (Count dir) = true
is_read (Next dir after) = true

-- the directories and names of the call are in range
abbrev pub IsAdmitted : ℕ → DirCall → Type 0
IsAdmitted room (Make dir name) = IsInRange room dir name
IsAdmitted room (Drop dir name) = IsInRange room dir name
IsAdmitted room (Rename dir name to_dir to_name) = IsInRange room dir name × IsInRange room to_dir to_name
IsAdmitted room (Find dir name) = IsInRange room dir name
IsAdmitted room (Count dir) = dir < 64
IsAdmitted room (Next dir None) = dir < 64
IsAdmitted room (Next dir (Some name)) = IsInRange room dir name

-- the numbers of the reply to a call
abbrev pub reply_at : List ℕ → List ℕ → List ℕ
reply_at state call = reply_numbers (reply_to (directory_from state) (call_from call))

-- the state after a call: a read leaves it
abbrev pub state_after : List ℕ → List ℕ → List ℕ
state_after state call = if is_read (call_from call) then state else state_numbers (after (directory_from state) (call_from call))

abbrev pub Reads : List ℕ → Type 0
Reads call = IsTrue (is_read (call_from call))

abbrev pub Admits : List ℕ → List ℕ → Type 0
Admits state call = IsAdmitted (slice_index state 0) (call_from call)
