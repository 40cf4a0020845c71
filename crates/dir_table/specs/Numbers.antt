-- States, calls and replies as lists of numbers, and back.
use Rattle.std.specs.Prelude.{ℕ, suc, zero, List, [], ◌∷◌, Some, None, drop, slice_index}
use Rattle.std.specs.FinMap.{entries, from_sorted}
use Rattle.dir_table.specs.declared.calls.DirCall.{DirCall}
use Rattle.dir_table.specs.declared.calls.DirCall.TheVariants.{Make, Drop, Rename, Find, Count, Next}
use Rattle.dir_table.specs.declared.calls.DirReply.{DirReply}
use Rattle.dir_table.specs.declared.calls.DirReply.TheVariants.{Ino, Done, Exists, Absent, Number, Name, End}
use Rattle.dir_table.specs.Names.{Place}
use Rattle.dir_table.specs.Directory.{Directory}

abbrev pub call_numbers : DirCall → List ℕ
call_numbers (Make dir name) = 0 ∷ dir ∷ name ∷ []
call_numbers (Drop dir name) = 1 ∷ dir ∷ name ∷ []
call_numbers (Rename dir name to_dir to_name) = 2 ∷ dir ∷ name ∷ to_dir ∷ to_name ∷ []
call_numbers (Find dir name) = 3 ∷ dir ∷ name ∷ []
call_numbers (Count dir) = 4 ∷ dir ∷ []
call_numbers (Next dir None) = 5 ∷ dir ∷ []
call_numbers (Next dir (Some after)) = 6 ∷ dir ∷ after ∷ []

abbrev pub reply_numbers : DirReply → List ℕ
reply_numbers (Ino number) = 0 ∷ number ∷ []
reply_numbers Done = 1 ∷ []
reply_numbers Exists = 2 ∷ []
reply_numbers Absent = 3 ∷ []
reply_numbers (Number count) = 4 ∷ count ∷ []
reply_numbers (Name name) = 5 ∷ name ∷ []
reply_numbers End = 6 ∷ []

-- each entry's directory, name and number
abbrev pub entry_numbers : List (Place × ℕ) → List ℕ
entry_numbers [] = []
entry_numbers (e ∷ es) = e.0.0 ∷ e.0.1 ∷ e.1 ∷ entry_numbers es

-- the state is all but the spare
abbrev pub state_numbers : Directory → List ℕ
state_numbers d = d.room ∷ d.next_number ∷ entry_numbers (entries d.names)

-- the entries of which these are the numbers
abbrev pub entries_from : List ℕ → List (Place × ℕ)
entries_from (dir ∷ name ∷ number ∷ rest) = ((dir, name), number) ∷ entries_from rest
entries_from _ = []

-- the directory of which these are the numbers, with nothing to spare
abbrev pub directory_from : List ℕ → Directory
directory_from state = record {
  names = from_sorted (entries_from (drop 2 state));
  next_number = slice_index state 1;
  room = slice_index state 0;
  spare = 0;
}

-- the call of which these are the numbers, and else one of no directory
abbrev pub call_from : List ℕ → DirCall
call_from (zero ∷ dir ∷ name ∷ []) = Make dir name
call_from (suc zero ∷ dir ∷ name ∷ []) = Drop dir name
call_from (suc (suc zero) ∷ dir ∷ name ∷ to_dir ∷ to_name ∷ []) = Rename dir name to_dir to_name
call_from (suc (suc (suc zero)) ∷ dir ∷ name ∷ []) = Find dir name
call_from (suc (suc (suc (suc zero))) ∷ dir ∷ []) = Count dir
call_from (suc (suc (suc (suc (suc zero)))) ∷ dir ∷ []) = Next dir None
call_from (suc (suc (suc (suc (suc (suc zero))))) ∷ dir ∷ name ∷ []) = Next dir (Some name)
call_from _ = Count 64
