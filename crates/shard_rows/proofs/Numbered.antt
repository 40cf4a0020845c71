-- Files have numbers from 1 on.
use Rattle.std.proofs.Common.{◌≡◌, ◌≢◌, ℕ, zero, suc, ◌+◌, ◌<◌, Bool, true, false, cond, eqb, List, [], ◌∷◌, Option, Some, None, sym, refl, ap, ◌∙◌, subst, arith}
use Rattle.std.specs.Prelude.{◌&&◌}
use Rattle.std.specs.Option.{unwrap_or}
use Rattle.std.specs.Ordering.{eq_by_cmp}
use Rattle.std.specs.FinMap.{get, insert, remove, get-insert, get-remove, get-empty, contains_key}
use Rattle.dir_table.specs.declared.calls.DirCall.{DirCall}
use Rattle.dir_table.specs.declared.calls.DirCall.TheVariants.{Make, Drop, Rename, Find, Count, Next}
use Rattle.dir_table.specs.Names.{Place, Names, place_cmp}
use Rattle.dir_table.specs.Directory.{Directory}
use Rattle.dir_table.specs.Answers.{after, moved}
use Rattle.dir_table.proofs.Order.{places_total}
use Rattle.shard_rows.specs.Replay.{DirEntry, opening, left_by, number_of}
use Rattle.shard_rows.specs.Shares.{IsNumbered, next_after}

some_is : (a b : ℕ) → Some a ≡ Some b → a ≡ b
some_is a b e = ap (λ o. unwrap_or o a) e

HasNoZero : Names → Type 0
HasNoZero names = (place : Place) → get names place ≢ Some 0

none_is_some : (n : ℕ) → None ≡ Some n → ⊥
none_is_some n e = cc

no_zero_insert : (names : Names) (place : Place) (n : ℕ) → 0 < n → HasNoZero names → HasNoZero (insert names place n)
unfolding HasNoZero
no_zero_insert names place n positive kept q is = either (eq_by_cmp place_cmp q place) (sym (get-insert places_total names place n q) ∙ is)
  where
    either : (b : Bool) → cond b (Some n) (get names q) ≡ Some 0 → ⊥
    either true e = let zero_is = some_is n 0 e in absurd (omega arith)
    either false e = kept q e

no_zero_remove : (names : Names) (place : Place) → HasNoZero names → HasNoZero (remove names place)
unfolding HasNoZero
no_zero_remove names place kept q is = either (eq_by_cmp place_cmp q place) (sym (get-remove places_total names place q) ∙ is)
  where
    either : (b : Bool) → cond b None (get names q) ≡ Some 0 → ⊥
    either true e = none_is_some 0 e
    either false e = kept q e

pub numbered_opening : (room : ℕ) → IsNumbered (opening room)
numbered_opening room = record { next = omega arith; there = λ place is. none_is_some 0 (sym (get-empty place_cmp place) ∙ is) }

module _ (d : Directory) (numbered : IsNumbered d) where
  made : (place : Place) (b : Bool) → IsNumbered (cond b d (record d { names = insert d.names place d.next_number; next_number = d.next_number + 1 }))
  unfolding HasNoZero
  made place true = numbered
  made place false = record { next = omega arith; there = no_zero_insert d.names place d.next_number numbered.next numbered.there }

  renamed : (from to : Place) (b : Bool) (o : Option ℕ) → get d.names from ≡ o → IsNumbered (cond b d (record d { names = moved d.names from to o }))
  unfolding HasNoZero
  renamed from to true o is = numbered
  renamed from to false None is = numbered
  renamed from to false (Some zero) is = absurd (numbered.there from is)
  renamed from to false (Some (suc n)) is =
      record { next = numbered.next; there = no_zero_insert (remove d.names from) to (suc n) (omega arith) (no_zero_remove d.names from numbered.there) }

  pub numbered_after : (call : DirCall) → IsNumbered (after d call)
  unfolding HasNoZero
  numbered_after (Make dir name) = made (dir, name) (contains_key d.names (dir, name))
  numbered_after (Drop dir name) = record { next = numbered.next; there = no_zero_remove d.names (dir, name) numbered.there }
  numbered_after (Rename dir name to_dir to_name) = renamed (dir, name) (to_dir, to_name) ((eqb dir to_dir) && (eqb name to_name)) (get d.names (dir, name)) refl
  numbered_after (Find dir name) = numbered
  numbered_after (Count dir) = numbered
  numbered_after (Next dir bound) = numbered

  next_made : (b : Bool) (place : Place) (dir name next : ℕ) → next ≡ d.next_number
      → (cond b d (record d { names = insert d.names place next; next_number = next + 1 })).next_number ≡ next_after (Make dir name) (cond b 0 next) d.next_number
  next_made true place dir name next is = refl
  next_made false place dir name zero is = absurd (let positive = numbered.next in omega arith)
  next_made false place dir name (suc n) is = ap (λ m. m + 1) is

  next_renamed : (b : Bool) (m : Names) → (cond b d (record d { names = m })).next_number ≡ d.next_number
  next_renamed true m = refl
  next_renamed false m = refl

  -- the next number after a call, by the number beside it
  pub next_is : (call : DirCall) → (after d call).next_number ≡ next_after call (number_of d call) d.next_number
  next_is (Make dir name) = next_made (contains_key d.names (dir, name)) (dir, name) dir name d.next_number refl
  next_is (Drop dir name) = refl
  next_is (Rename dir name to_dir to_name) = next_renamed ((eqb dir to_dir) && (eqb name to_name)) (moved d.names (dir, name) (to_dir, to_name) (get d.names (dir, name)))
  next_is (Find dir name) = refl
  next_is (Count dir) = refl
  next_is (Next dir bound) = refl

pub numbered_left : (d : Directory) (es : List DirEntry) → IsNumbered d → IsNumbered (left_by d es)
numbered_left d [] numbered = numbered
numbered_left d (e ∷ es) numbered = numbered_left (after d e.call) es (numbered_after d numbered e.call)
