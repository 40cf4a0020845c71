-- What a refused call leaves.
use Rattle.std.proofs.Common.{◌≡◌, ℕ, Bool, true, false, cond, List, Option, Some, None, sym, refl, ap, ◌∙◌, subst, ⊎_elim, arith}
use Rattle.std.specs.Prelude.{is_some, slice_index, ◌⊎◌, ◌==◌, ◌&&◌}
use Rattle.std.specs.declared.cmp.Ordering.{Ordering}
use Rattle.std.specs.declared.cmp.Ordering.TheVariants.{Less, Equal, Greater}
use Rattle.std.specs.Ordering.{is_eq, eq_by_cmp}
use Rattle.std.specs.FinMap.{get, remove, contains_key, get-remove, same_map}
use mathlib.Core.Bool.{false≢true}
use Rattle.dir_table.specs.declared.calls.DirCall.{DirCall}
use Rattle.dir_table.specs.declared.calls.DirCall.TheVariants.{Make, Drop, Rename, Find, Count, Next}
use Rattle.dir_table.specs.declared.calls.DirReply.{DirReply}
use Rattle.dir_table.specs.declared.calls.DirReply.TheVariants.{Ino, Done, Exists, Absent}
use Rattle.dir_table.specs.Names.{Place, Names, place_cmp}
use Rattle.dir_table.specs.Directory.{Directory, spent}
use Rattle.dir_table.specs.Answers.{reply_to, after, moved}
use Rattle.dir_table.specs.Numbers.{call_numbers, reply_numbers, state_numbers}
use Rattle.dir_table.specs.Meanings.{reply_at, state_after}
use Rattle.dir_table.specs.ObjectLaws.{reply_as, state_as}
use Rattle.dir_table.proofs.Order.{places_total, places_exact}

-- the numbers of a reply that says that the name is there, or that it isn't
abbrev pub IsRefusal : List ℕ → Type 0
IsRefusal numbers = (numbers ≡ reply_numbers Exists) ⊎ (numbers ≡ reply_numbers Absent)

equal_if : (r : Ordering) → is_eq r ≡ true → r ≡ Equal
equal_if Less h = absurd (false≢true h)
equal_if Equal h = refl
equal_if Greater h = absurd (false≢true h)

-- a name that isn't there is removed by leaving the names
remove_absent : (names : Names) (place : Place) → get names place ≡ None → remove names place ≡ names
remove_absent names place absent = same_map places_total places_exact _ _ (λ q. get-remove places_total names place q ∙ by q (eq_by_cmp place_cmp q place) refl)
  where
    by : (q : Place) (b : Bool) → eq_by_cmp place_cmp q place ≡ b → cond b None (get names q) ≡ get names q
    by q true tie = sym (ap (get names) (places_exact q place (equal_if _ tie)) ∙ absent)
    by q false tie = refl

made_stays : (b : Bool) (d e : Directory) (n : ℕ) → IsRefusal (reply_numbers (cond b Exists (Ino n))) → cond b d e ≡ d
made_stays true d e n refused = refl
made_stays false d e n refused = absurd (⊎_elim (λ h. let head : 0 ≡ 2 = ap (λ l. slice_index l 0) h in omega arith) (λ h. let head : 0 ≡ 3 = ap (λ l. slice_index l 0) h in omega arith) refused)

not_there : (o : Option ℕ) → IsRefusal (reply_numbers (cond (is_some o) Done Absent)) → o ≡ None
not_there None refused = refl
not_there (Some n) refused = absurd (⊎_elim (λ h. let head : 1 ≡ 2 = ap (λ l. slice_index l 0) h in omega arith) (λ h. let head : 1 ≡ 3 = ap (λ l. slice_index l 0) h in omega arith) refused)

either_stays : (b : Bool) (d e : Directory) → e ≡ d → cond b d e ≡ d
either_stays true d e same = refl
either_stays false d e same = same

-- a call that is refused changes nothing
refused_stays : (d : Directory) (call : DirCall) → IsRefusal (reply_numbers (reply_to d call)) → after d call ≡ d
refused_stays d (Make dir name) refused = made_stays (contains_key d.names (dir, name)) d _ d.next_number refused
refused_stays d (Drop dir name) refused = ap (λ m. record d { names = m }) (remove_absent d.names (dir, name) (not_there (get d.names (dir, name)) refused))
refused_stays d (Rename dir name to_dir to_name) refused = either_stays ((dir == to_dir) && (name == to_name)) d _
    (ap (λ o. record d { names = moved d.names (dir, name) (to_dir, to_name) o }) (not_there (get d.names (dir, name)) refused))
refused_stays d (Find dir name) refused = refl
refused_stays d (Count dir) refused = refl
refused_stays d (Next dir bound) refused = refl

-- the state after a call that was refused so
pub follows_refused : (d : Directory) (call : DirCall) (reply : DirReply) → IsRefusal (reply_numbers reply) → reply_numbers reply ≡ reply_at (state_numbers d) (call_numbers call)
    → state_numbers (spent d) ≡ state_after (state_numbers d) (call_numbers call)
follows_refused d call reply refused answered =
    let same : reply_numbers reply ≡ reply_numbers (reply_to d call) = answered ∙ sym (reply_as d call) in
    sym (ap state_numbers (refused_stays d call (subst IsRefusal same refused))) ∙ state_as d call
