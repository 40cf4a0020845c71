-- How many names there are, and of which directories.
use Rattle.std.proofs.Common.{◌≡◌, ℕ, zero, suc, ◌+◌, ◌-◌, ◌<◌, ◌≤◌, Bool, true, false, cond, eqb, List, [], ◌∷◌, length, All, Option, Some, None, Ordering, sym, refl, ap, ◌∙◌, subst, arith}
use Rattle.std.specs.Prelude.{◌&&◌, filter, not}
use Rattle.std.specs.Ordering.{is_eq, eq_by_cmp}
use Rattle.std.specs.Cmp.{eq_by_cmp_equiv, alike_right}
use Rattle.std.specs.List.{AllByRecursion}
use Rattle.std.specs.declared.cmp.Ordering.TheVariants.{Less, Equal, Greater}
use Rattle.std.specs.FinMap.{get, insert, remove, empty, entries, retain_keys, get-remove, get-retain_keys, same_map, len, put, len-insert, len-remove, len-entries, len-empty, entries-insert, contains_key}
use Rattle.std.specs.FinMap.Entries.{by_order}
use Rattle.std.proofs.lemmas.List.Elements.{recursion_from_All}
use Rattle.dir_table.specs.declared.calls.DirCall.{DirCall}
use Rattle.dir_table.specs.declared.calls.DirCall.TheVariants.{Make, Drop, Rename, Find, Count, Next}
use Rattle.dir_table.specs.Names.{Place, Names, place_cmp, is_other}
use Rattle.dir_table.specs.Directory.{Directory}
use Rattle.dir_table.specs.Meanings.{IsAdmitted}
use Rattle.dir_table.specs.Answers.{after, moved}
use Rattle.dir_table.proofs.Order.{places_total, places_exact}
use Rattle.shard_rows.specs.Replay.{DirEntry, opening, left_by}
use Rattle.shard_rows.proofs.Filtered.{entries_kept}

-- no call adds more than one name
most_insert : (names : Names) (place : Place) (n : ℕ) → len (insert names place n) ≤ len names + 1
most_insert names place n = let is = len-insert places_total names place n in either (contains_key names place) is
  where
    either : (b : Bool) → len (insert names place n) ≡ cond b (len names) (len names + 1) → len (insert names place n) ≤ len names + 1
    either true is = omega arith
    either false is = omega arith

most_remove : (names : Names) (place : Place) → len (remove names place) ≤ len names
most_remove names place = let is = len-remove places_total names place in either (contains_key names place) is
  where
    either : (b : Bool) → len (remove names place) ≡ cond b (len names - 1) (len names) → len (remove names place) ≤ len names
    either true is = omega arith
    either false is = omega arith

made : (d e : Directory) (b : Bool) → len e.names ≤ len d.names + 1 → len (cond b d e).names ≤ len d.names + 1
made d e true most = omega arith
made d e false most = most

most_moved : (names : Names) (from to : Place) (o : Option ℕ) → len (moved names from to o) ≤ len names + 1
most_moved names from to None = omega arith
most_moved names from to (Some n) = let a = most_insert (remove names from) to n in let b = most_remove names from in omega arith

one_more : (d : Directory) (call : DirCall) → len (after d call).names ≤ len d.names + 1
one_more d (Make dir name) = made d _ (contains_key d.names (dir, name)) (most_insert d.names (dir, name) d.next_number)
one_more d (Drop dir name) = let less = most_remove d.names (dir, name) in omega arith
one_more d (Rename dir name to_dir to_name) =
    made d _ ((eqb dir to_dir) && (eqb name to_name)) (most_moved d.names (dir, name) (to_dir, to_name) (get d.names (dir, name)))
one_more d (Find dir name) = omega arith
one_more d (Count dir) = omega arith
one_more d (Next dir bound) = omega arith

most_left : (d : Directory) (es : List DirEntry) → len (left_by d es).names ≤ len d.names + length es
most_left d [] = omega arith
most_left d (e ∷ es) = let rest = most_left (after d e.call) es in let one = one_more d e.call in omega arith

pub few_names : (room : ℕ) (es : List DirEntry) → length (entries (left_by (opening room) es).names) ≤ length es
few_names room es =
    let most = most_left (opening room) es in
    let is = len-entries (left_by (opening room) es).names in
    let none : len (opening room).names ≡ 0 = len-empty place_cmp ℕ in
    omega arith

-- the directories of the names are below 64
abbrev AreKnown : List (Place × ℕ) → Type 0
AreKnown = AllByRecursion (λ e. e.0.0 < 64)

known_put : (place : Place) (n : ℕ) (es : List (Place × ℕ)) → place.0 < 64 → AreKnown es → AreKnown (put place_cmp place n es)
known_put place n [] known all = (known, tt)
known_put place n (e ∷ es) known all =
    elim (place_cmp place e.0) as (λ r. AreKnown (by_order r ((place, n) ∷ e ∷ es) ((e.0, n) ∷ es) (e ∷ put place_cmp place n es))) [
      | Less ↦ (known, all)
      | Equal ↦ all
      | Greater ↦ (all.0, known_put place n es known all.1)
    ]

known_filter : (p : Place × ℕ → Bool) (es : List (Place × ℕ)) → AreKnown es → AreKnown (filter p es)
known_filter p [] all = tt
known_filter p (e ∷ es) all = elim (p e) as (λ b. AreKnown (cond b (e ∷ filter p es) (filter p es))) [ true ↦ (all.0, known_filter p es all.1) | false ↦ known_filter p es all.1 ]

KnownNames : Names → Type 0
KnownNames names = AreKnown (entries names)

-- a removal keeps the other places
removed_is : (names : Names) (place : Place) → remove names place ≡ retain_keys names (is_other place)
removed_is names place = same_map places_total places_exact _ _ (λ q.
    get-remove places_total names place q
    ∙ ap (λ b. cond b None (get names q)) ((eq_by_cmp_equiv places_total).symm q place)
    ∙ turned (eq_by_cmp place_cmp place q) (get names q)
    ∙ sym (get-retain_keys names (is_other place) q (λ x tie. ap (λ r. not (is_eq r)) (sym (alike_right places_total q x place tie)))))
  where
    turned : (b : Bool) (o : Option ℕ) → cond b None o ≡ cond (not b) o None
    turned true o = refl
    turned false o = refl

known_insert : (names : Names) (place : Place) (n : ℕ) → place.0 < 64 → KnownNames names → KnownNames (insert names place n)
unfolding KnownNames
known_insert names place n known all = subst AreKnown (sym (entries-insert places_total names place n)) (known_put place n (entries names) known all)

known_remove : (names : Names) (place : Place) → KnownNames names → KnownNames (remove names place)
unfolding KnownNames
known_remove names place all =
    subst AreKnown (sym (ap entries (removed_is names place) ∙ entries_kept names (is_other place))) (known_filter (λ e. is_other place e.0) (entries names) all)

known_either : (b : Bool) (d e : Directory) → KnownNames d.names → KnownNames e.names → KnownNames (cond b d e).names
known_either true d e first second = first
known_either false d e first second = second

known_moved : (names : Names) (from to : Place) (o : Option ℕ) → to.0 < 64 → KnownNames names → KnownNames (moved names from to o)
known_moved names from to None known all = all
known_moved names from to (Some n) known all = known_insert (remove names from) to n known (known_remove names from all)

known_after : (room : ℕ) (d : Directory) (call : DirCall) → IsAdmitted room call → KnownNames d.names → KnownNames (after d call).names
known_after room d (Make dir name) admitted all = known_either (contains_key d.names (dir, name)) d _ all (known_insert d.names (dir, name) d.next_number admitted.known all)
known_after room d (Drop dir name) admitted all = known_remove d.names (dir, name) all
known_after room d (Rename dir name to_dir to_name) admitted all =
    known_either ((eqb dir to_dir) && (eqb name to_name)) d _ all (known_moved d.names (dir, name) (to_dir, to_name) (get d.names (dir, name)) admitted.1.known all)
known_after room d (Find dir name) admitted all = all
known_after room d (Count dir) admitted all = all
known_after room d (Next dir bound) admitted all = all

known_left : (room : ℕ) (d : Directory) (es : List DirEntry) → AllByRecursion (λ (e : DirEntry). IsAdmitted room e.call) es → KnownNames d.names → KnownNames (left_by d es).names
known_left room d [] admitted all = all
known_left room d (e ∷ es) admitted all = known_left room (after d e.call) es admitted.1 (known_after room d e.call admitted.0 all)

no_entries : entries (empty {X = ℕ} {R = place_cmp}) ≡ []
no_entries = none_there (entries (empty {X = ℕ} {R = place_cmp})) (sym (len-entries (empty {X = ℕ} {R = place_cmp})) ∙ len-empty place_cmp ℕ)
  where
    none_there : (es : List (Place × ℕ)) → length es ≡ 0 → es ≡ []
    none_there [] is = refl
    none_there (e ∷ es) is = absurd (omega arith)

pub known_names : (room : ℕ) (es : List DirEntry) → All (λ (e : DirEntry). IsAdmitted room e.call) es → AllByRecursion (λ e. e.0.0 < 64) (entries (left_by (opening room) es).names)
unfolding KnownNames
known_names room es admitted =
    known_left room (opening room) es (recursion_from_All (λ (e : DirEntry). IsAdmitted room e.call) es admitted) (subst AreKnown (sym no_entries) tt)
