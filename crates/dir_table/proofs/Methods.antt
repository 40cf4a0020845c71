-- What each call does to the directory, by what it does to the rows.
use Rattle.std.proofs.Common.{◌≡◌, ◌≢◌, ℕ, ◌+◌, ◌-◌, Bool, true, false, cond, eqb, List, Option, Some, None, sym, refl, ap, ◌∙◌, arith}
use Rattle.std.specs.Prelude.{IsSome, IsNone, is_some, ◌↔◌, ◌&&◌}
use Rattle.std.specs.declared.cmp.Ordering.TheVariants.{Less, Equal, Greater}
use Rattle.std.specs.Ordering.{is_eq, eq_by_cmp}
use Rattle.std.specs.FinMap.{get, find, put, insert, remove, contains_key, get-insert, get-remove}
use Rattle.std.specs.FinMap.Entries.{where_key}
use Rattle.std.proofs.lemmas.Bool.Decides.{nat_tests}
use mathlib.Core.Bool.{false≢true, true≢false}
use Rattle.dir_table.specs.declared.calls.DirRow.{DirRow}
use Rattle.dir_table.specs.declared.calls.DirCall.TheVariants.{Make, Drop, Rename, Find}
use Rattle.dir_table.specs.declared.calls.DirReply.TheVariants.{Ino, Done, Exists, Absent}
use Rattle.dir_table.specs.Names.{Place, Names, place_cmp, is_other, entries_of}
use Rattle.dir_table.specs.Directory.{Directory, spent}
use Rattle.dir_table.specs.Answers.{reply_to, after, number_reply, moved}
use Rattle.dir_table.specs.Rows.{AreInOrder, names_of}
use Rattle.dir_table.proofs.Order.{places_total, places_exact}
use Rattle.dir_table.proofs.NamesKept.{get_names, put_names, removal_names, removal_in_order}

-- the answers that say that a name isn't there, or is
pub find_absent : (o : Option ℕ) → (number_reply o ≡ Absent) ↔ IsNone o
find_absent None = (λ _. refl, λ _. refl)
find_absent (Some n) = (λ e. cc, λ e. absurd (true≢false e))

pub make_exists : (o : Option ℕ) (n : ℕ) → (cond (is_some o) Exists (Ino n) ≡ Exists) ↔ IsSome o
make_exists None n = (λ e. cc, λ e. absurd (false≢true e))
make_exists (Some m) n = (λ _. refl, λ _. refl)

pub done_absent : (o : Option ℕ) → (cond (is_some o) Done Absent ≡ Absent) ↔ IsNone o
done_absent None = (λ _. refl, λ _. refl)
done_absent (Some n) = (λ e. cc, λ e. absurd (true≢false e))

-- other places don't tie
apart : (a b : Place) → a ≢ b → eq_by_cmp place_cmp a b ≡ false
apart a b differs = elim (place_cmp a b) as (λ r. place_cmp a b ≡ r → is_eq r ≡ false) [
  | Less ↦ λ _. refl
  | Equal ↦ λ tie. absurd (differs (places_exact a b tie))
  | Greater ↦ λ _. refl
] refl

get_others_insert : (names : Names) (place other : Place) (n : ℕ) → other ≢ place → get (insert names place n) other ≡ get names other
get_others_insert names place other n differs =
    get-insert places_total names place n other ∙ ap (λ b. cond b (Some n) (get names other)) (apart other place differs)

get_others_remove : (names : Names) (place other : Place) → other ≢ place → get (remove names place) other ≡ get names other
get_others_remove names place other differs =
    get-remove places_total names place other ∙ ap (λ b. cond b None (get names other)) (apart other place differs)

either_get : (b : Bool) (c d : Directory) (other : Place) (o : Option ℕ) → get c.names other ≡ o → get d.names other ≡ o → get (cond b c d).names other ≡ o
either_get true c d other o first second = first
either_get false c d other o first second = second

pub make_others : (d : Directory) (dir name : ℕ) (other : Place) → other ≢ (dir, name) → get (after d (Make dir name)).names other ≡ get d.names other
make_others d dir name other differs =
    either_get (contains_key d.names (dir, name)) d _ other (get d.names other) refl (get_others_insert d.names (dir, name) other d.next_number differs)

pub drop_others : (d : Directory) (dir name : ℕ) (other : Place) → other ≢ (dir, name) → get (after d (Drop dir name)).names other ≡ get d.names other
drop_others d dir name other differs = get_others_remove d.names (dir, name) other differs

moved_others : (names : Names) (from to other : Place) (o : Option ℕ) → other ≢ from → other ≢ to → get (moved names from to o) other ≡ get names other
moved_others names from to other None not_from not_to = refl
moved_others names from to other (Some n) not_from not_to =
    get_others_insert (remove names from) to other n not_to ∙ get_others_remove names from other not_from

pub rename_others : (d : Directory) (dir name to_dir to_name : ℕ) (other : Place) → other ≢ (dir, name) → other ≢ (to_dir, to_name)
    → get (after d (Rename dir name to_dir to_name)).names other ≡ get d.names other
rename_others d dir name to_dir to_name other not_from not_to =
    either_get ((eqb dir to_dir) && (eqb name to_name)) d _ other (get d.names other) refl
    (moved_others d.names (dir, name) (to_dir, to_name) other (get d.names (dir, name)) not_from not_to)

same_names : (a b : Bool) → a ≡ true → b ≡ true → (a && b) ≡ true
same_names a b first second = ap (λ x. x && b) first ∙ second

module _ (rows : List DirRow) (next room spare : ℕ) (sorted : AreInOrder rows) where
  abbrev pub old : Directory
  old = record { names = names_of rows; next_number = next; room = room; spare = spare }

  found : (dir name : ℕ) (o : Option ℕ) → o ≡ find place_cmp (dir, name) (entries_of rows) → get (names_of rows) (dir, name) ≡ o
  found dir name o is = get_names rows (dir, name) sorted ∙ sym is

  pub find_reply : (dir name : ℕ) (o : Option ℕ) → o ≡ find place_cmp (dir, name) (entries_of rows) → number_reply o ≡ reply_to old (Find dir name)
  find_reply dir name o is = ap number_reply (sym (found dir name o is))

  pub make_reply : (dir name : ℕ) (o : Option ℕ) → o ≡ find place_cmp (dir, name) (entries_of rows) → cond (is_some o) Exists (Ino next) ≡ reply_to old (Make dir name)
  make_reply dir name o is = ap (λ x. cond (is_some x) Exists (Ino next)) (sym (found dir name o is))

  pub made_none : (dir name : ℕ) (o : Option ℕ) → o ≡ find place_cmp (dir, name) (entries_of rows) → is_some o ≡ true → spent old ≡ spent (after old (Make dir name))
  made_none dir name o is there = ap (λ b. spent (cond b old (record old { names = insert (names_of rows) (dir, name) next; next_number = next + 1 })))
      (sym (ap is_some (found dir name o is) ∙ there))

  pub made_one : (new : List DirRow) (dir name : ℕ) (o : Option ℕ) → o ≡ find place_cmp (dir, name) (entries_of rows) → is_some o ≡ false
      → entries_of new ≡ put place_cmp (dir, name) next (entries_of rows)
      → record { names = names_of new; next_number = next + 1; room = room; spare = spare - 1 } ≡ spent (after old (Make dir name))
  made_one new dir name o is absent edit =
      ap (λ m. record { names = m; next_number = next + 1; room = room; spare = spare - 1 }) (put_names rows new sorted (dir, name) next edit)
      ∙ ap (λ b. spent (cond b old (record old { names = insert (names_of rows) (dir, name) next; next_number = next + 1 }))) (sym (ap is_some (found dir name o is) ∙ absent))

  pub drop_reply : (dir name : ℕ) (o : Option ℕ) → o ≡ find place_cmp (dir, name) (entries_of rows) → cond (is_some o) Done Absent ≡ reply_to old (Drop dir name)
  drop_reply dir name o is = ap (λ x. cond (is_some x) Done Absent) (sym (found dir name o is))

  pub dropped : (new : List DirRow) (dir name : ℕ) → entries_of new ≡ where_key place_cmp (is_other (dir, name)) (entries_of rows)
      → record { names = names_of new; next_number = next; room = room; spare = spare - 1 } ≡ spent (after old (Drop dir name))
  dropped new dir name edit = ap (λ m. record { names = m; next_number = next; room = room; spare = spare - 1 }) (removal_names rows new sorted (dir, name) edit)

  module _ (dir name to_dir to_name : ℕ) where
    pub rename_reply : (o : Option ℕ) → o ≡ find place_cmp (dir, name) (entries_of rows) → cond (is_some o) Done Absent ≡ reply_to old (Rename dir name to_dir to_name)
    rename_reply o is = ap (λ x. cond (is_some x) Done Absent) (sym (found dir name o is))

    pub onto_itself : dir ≡ to_dir → name ≡ to_name → spent old ≡ spent (after old (Rename dir name to_dir to_name))
    onto_itself first second =
        ap (λ b. spent (cond b old (record old { names = moved (names_of rows) (dir, name) (to_dir, to_name) (get (names_of rows) (dir, name)) })))
        (sym (same_names (eqb dir to_dir) (eqb name to_name) (grind (arith, nat_tests)) (grind (arith, nat_tests))))

    differs_or : (dir ≡ to_dir → name ≡ to_name → ⊥) → ((eqb dir to_dir) && (eqb name to_name)) ≡ false
    differs_or differs = grind (arith, nat_tests)

    renamed : (differs : dir ≡ to_dir → name ≡ to_name → ⊥) (o : Option ℕ) → o ≡ find place_cmp (dir, name) (entries_of rows)
        → spent (record old { names = moved (names_of rows) (dir, name) (to_dir, to_name) o }) ≡ spent (after old (Rename dir name to_dir to_name))
    renamed differs o is =
        ap (λ x. spent (record old { names = moved (names_of rows) (dir, name) (to_dir, to_name) x })) (sym (found dir name o is))
        ∙ ap (λ b. spent (cond b old (record old { names = moved (names_of rows) (dir, name) (to_dir, to_name) (get (names_of rows) (dir, name)) }))) (sym (differs_or differs))

    pub renamed_none : (dir ≡ to_dir → name ≡ to_name → ⊥) → None ≡ find place_cmp (dir, name) (entries_of rows) → spent old ≡ spent (after old (Rename dir name to_dir to_name))
    renamed_none differs is = renamed differs None is

    pub renamed_one : (dir ≡ to_dir → name ≡ to_name → ⊥) → (n : ℕ) (mid new : List DirRow) → Some n ≡ find place_cmp (dir, name) (entries_of rows)
        → entries_of mid ≡ where_key place_cmp (is_other (dir, name)) (entries_of rows) → entries_of new ≡ put place_cmp (to_dir, to_name) n (entries_of mid)
        → record { names = names_of new; next_number = next; room = room; spare = spare - 1 } ≡ spent (after old (Rename dir name to_dir to_name))
    renamed_one differs n mid new is removed added =
        ap (λ m. record { names = m; next_number = next; room = room; spare = spare - 1 })
        (put_names mid new (removal_in_order rows mid sorted (dir, name) removed) (to_dir, to_name) n added
        ∙ ap (λ m. insert m (to_dir, to_name) n) (removal_names rows mid sorted (dir, name) removed))
        ∙ renamed differs (Some n) is
