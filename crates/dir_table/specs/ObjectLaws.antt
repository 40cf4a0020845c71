-- The laws of a directory as an object.
use Rattle.std.specs.Prelude.{◌≡◌, ℕ, ◌↔◌, List, [], ◌∷◌, slice_index, Bool, true, false, cond, Some, None, ◌==◌, ◌&&◌}
use Rattle.std.proofs.Common.{refl, sym, ap, ◌∙◌, subst}
use mathlib.Core.Bool.{false≢true}
use Rattle.std.specs.FinMap.{entries, from_sorted, entries-from_sorted, entries_sorted, same_entries_map, contains_key}
use Rattle.dir_table.specs.declared.calls.DirCall.{DirCall}
use Rattle.dir_table.specs.declared.calls.DirCall.TheVariants.{Make, Drop, Rename, Find, Count, Next}
use Rattle.dir_table.specs.Names.{Place, Names, place_cmp}
use Rattle.dir_table.specs.Directory.{Directory}
use Rattle.dir_table.specs.Answers.{reply_to, after}
use Rattle.dir_table.specs.Numbers.{call_numbers, reply_numbers, call_from, state_numbers, entry_numbers, entries_from, directory_from}
use Rattle.dir_table.specs.Meanings.{is_read, IsAdmitted, reply_at, state_after, Reads, Admits}

-- a call comes back from its numbers
pub call_again : (call : DirCall) → call_from (call_numbers call) ≡ call
call_again (Make dir name) = refl
call_again (Drop dir name) = refl
call_again (Rename dir name to_dir to_name) = refl
call_again (Find dir name) = refl
call_again (Count dir) = refl
call_again (Next dir None) = refl
call_again (Next dir (Some name)) = refl

pub calls_differ : (a b : DirCall) → call_numbers a ≡ call_numbers b → a ≡ b
calls_differ a b same = sym (call_again a) ∙ ap call_from same ∙ call_again b

entries_again : (es : List (Place × ℕ)) → entries_from (entry_numbers es) ≡ es
entries_again [] = refl
entries_again (((dir, name), number) ∷ es) = ap (λ l. ((dir, name), number) ∷ l) (entries_again es)

-- the names come back from their entries
pub names_again : (names : Names) → from_sorted (entries names) ≡ names
names_again names = same_entries_map _ _ (entries-from_sorted place_cmp (entries names) (entries_sorted names))

-- a directory comes back from its numbers, but for the spare
pub directory_again : (d : Directory) → directory_from (state_numbers d) ≡ record d { spare = 0 }
directory_again d = ap (λ n. record { names = n; next_number = d.next_number; room = d.room; spare = 0 })
    (ap from_sorted (entries_again (entries d.names)) ∙ names_again d.names)

pub states_differ : (a b : Directory) → state_numbers a ≡ state_numbers b → a.spare ≡ b.spare → a ≡ b
states_differ a b same spare =
    let other : record a { spare = 0 } ≡ record b { spare = 0 } = sym (directory_again a) ∙ ap directory_from same ∙ directory_again b in
    λ i. record { names = (other i).names; next_number = (other i).next_number; room = (other i).room; spare = spare i }

read_is : (state other : List ℕ) (b : Bool) → b ≡ true → cond b state other ≡ state
read_is state other true h = refl
read_is state other false h = absurd (false≢true h)

pub reads_leave : (state call : List ℕ) → Reads call → state_after state call ≡ state
reads_leave state call reads = read_is state (state_numbers (after (directory_from state) (call_from call))) (is_read (call_from call)) reads

either_room : (b : Bool) (c d : Directory) (room : ℕ) → c.room ≡ room → d.room ≡ room → (cond b c d).room ≡ room
either_room true c d room first second = first
either_room false c d room first second = second

-- no call changes the room
room_stays : (d : Directory) (call : DirCall) → (after d call).room ≡ d.room
room_stays d (Make dir name) = either_room (contains_key d.names (dir, name)) _ _ d.room refl refl
room_stays d (Drop dir name) = refl
room_stays d (Rename dir name to_dir to_name) = either_room ((dir == to_dir) && (name == to_name)) _ _ d.room refl refl
room_stays d (Find dir name) = refl
room_stays d (Count dir) = refl
room_stays d (Next dir bound) = refl

first_of_either : (b : Bool) (c d : List ℕ) (n : ℕ) → slice_index c 0 ≡ n → slice_index d 0 ≡ n → slice_index (cond b c d) 0 ≡ n
first_of_either true c d n first second = first
first_of_either false c d n first second = second

room_after : (state call : List ℕ) → slice_index (state_after state call) 0 ≡ slice_index state 0
room_after state call =
    first_of_either (is_read (call_from call)) state (state_numbers (after (directory_from state) (call_from call))) (slice_index state 0) refl (room_stays (directory_from state) (call_from call))

pub admits_stays : (state call other : List ℕ) → Admits state other ↔ Admits (state_after state call) other
admits_stays state call other =
    let same = room_after state call in
    (subst (λ room. IsAdmitted room (call_from other)) (sym same), subst (λ room. IsAdmitted room (call_from other)) same)

-- the numbers of a reply are the reply's at the numbers of the directory and the call
pub reply_as : (d : Directory) (call : DirCall) → reply_numbers (reply_to d call) ≡ reply_at (state_numbers d) (call_numbers call)
reply_as d (Make dir name) = ap (λ e. reply_numbers (reply_to e (Make dir name))) (sym (directory_again d))
reply_as d (Drop dir name) = ap (λ e. reply_numbers (reply_to e (Drop dir name))) (sym (directory_again d))
reply_as d (Rename dir name to_dir to_name) = ap (λ e. reply_numbers (reply_to e (Rename dir name to_dir to_name))) (sym (directory_again d))
reply_as d (Find dir name) = ap (λ e. reply_numbers (reply_to e (Find dir name))) (sym (directory_again d))
reply_as d (Count dir) = ap (λ e. reply_numbers (reply_to e (Count dir))) (sym (directory_again d))
reply_as d (Next dir None) = ap (λ e. reply_numbers (reply_to e (Next dir None))) (sym (directory_again d))
reply_as d (Next dir (Some name)) = ap (λ e. reply_numbers (reply_to e (Next dir (Some name)))) (sym (directory_again d))

either_numbers : (b : Bool) (c d e f : Directory) → state_numbers c ≡ state_numbers e → state_numbers d ≡ state_numbers f → state_numbers (cond b c d) ≡ state_numbers (cond b e f)
either_numbers true c d e f first second = first
either_numbers false c d e f first second = second

-- and so the state after it
pub state_as : (d : Directory) (call : DirCall) → state_numbers (after d call) ≡ state_after (state_numbers d) (call_numbers call)
state_as d (Make dir name) =
    either_numbers (contains_key d.names (dir, name)) _ _ _ _ refl refl ∙ ap (λ e. state_numbers (after e (Make dir name))) (sym (directory_again d))
state_as d (Drop dir name) = ap (λ e. state_numbers (after e (Drop dir name))) (sym (directory_again d))
state_as d (Rename dir name to_dir to_name) =
    either_numbers ((dir == to_dir) && (name == to_name)) _ _ _ _ refl refl ∙ ap (λ e. state_numbers (after e (Rename dir name to_dir to_name))) (sym (directory_again d))
state_as d (Find dir name) = refl
state_as d (Count dir) = refl
state_as d (Next dir None) = refl
state_as d (Next dir (Some name)) = refl
