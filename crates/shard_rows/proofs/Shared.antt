-- A directory's names after a call, by its names before it and the number beside the call.
use Rattle.std.proofs.Common.{◌≡◌, ◌≢◌, ℕ, zero, suc, ◌+◌, ◌<◌, Bool, true, false, cond, eqb, Option, Some, None, sym, refl, ap, ◌∙◌, subst, inl, inr, arith}
use Rattle.std.specs.Prelude.{◌&&◌, ◌⊎◌}
use Rattle.std.specs.Option.{unwrap_or}
use Rattle.std.specs.Ordering.{eq_by_cmp, is_eq}
use Rattle.std.specs.declared.cmp.Ordering.TheVariants.{Equal}
use Rattle.std.specs.FinMap.{get, insert, remove, empty, retain_keys, get-insert, get-remove, get-empty, get-retain_keys, same_map, contains_key}
use Rattle.std.proofs.lemmas.Bool.{cases_eq}
use Rattle.std.proofs.lemmas.Bool.Decides.{nat_tests}
use Rattle.dir_table.specs.declared.calls.DirCall.{DirCall}
use Rattle.dir_table.specs.declared.calls.DirCall.TheVariants.{Make, Drop, Rename, Find, Count, Next}
use Rattle.dir_table.specs.Names.{Place, Names, place_cmp}
use Rattle.dir_table.specs.Directory.{Directory}
use Rattle.dir_table.specs.Answers.{after, moved}
use Rattle.dir_table.proofs.Order.{places_total, places_exact}
use Rattle.shard_rows.proofs.SamePlace.{no_tie_over}
use Rattle.shard_rows.specs.Replay.{number_of}
use Rattle.shard_rows.specs.Shares.{names_in, IsNumbered, with_number, advanced}

-- what a share answers
pub get_kept : (names : Names) (p : ℕ → Bool) (q : Place) → get (retain_keys names (λ place. p place.0)) q ≡ cond (p q.0) (get names q) None
get_kept names p q = get-retain_keys names (λ place. p place.0) q (λ x tie. ap (λ place. p place.0) (sym (places_exact q x tie)))

pub get_in : (names : Names) (k : ℕ) (q : Place) → get (names_in names k) q ≡ cond (eqb q.0 k) (get names q) None
get_in names k q = get_kept names (λ dir. eqb dir k) q

pub get_here : (names : Names) (dir name : ℕ) → get (names_in names dir) (dir, name) ≡ get names (dir, name)
get_here names dir name =
    let yes : eqb dir dir ≡ true = grind (arith, nat_tests) in
    get_in names dir (dir, name) ∙ ap (λ b. cond b (get names (dir, name)) None) yes

kept_inside : (a b : Bool) (x y : Option ℕ) → cond a (cond b x y) None ≡ cond b (cond a x None) (cond a y None)
kept_inside true true x y = refl
kept_inside true false x y = refl
kept_inside false true x y = refl
kept_inside false false x y = refl

-- an edit at a place of the directory is seen in its share
module _ (names : Names) (k dir name : ℕ) where
  seen_insert : (v : ℕ) → dir ≡ k → names_in (insert names (dir, name) v) k ≡ insert (names_in names k) (dir, name) v
  seen_insert v same = same_map places_total places_exact _ _ (λ q.
      get_in (insert names (dir, name) v) k q
      ∙ ap (λ o. cond (eqb q.0 k) o None) (get-insert places_total names (dir, name) v q)
      ∙ at q (cases_eq q.0 k)
      ∙ ap (cond (eq_by_cmp place_cmp q (dir, name)) (Some v)) (sym (get_in names k q))
      ∙ sym (get-insert places_total (names_in names k) (dir, name) v q))
    where
      at : (q : Place) → (q.0 ≡ k) ⊎ (q.0 ≢ k)
          → cond (eqb q.0 k) (cond (eq_by_cmp place_cmp q (dir, name)) (Some v) (get names q)) None
          ≡ cond (eq_by_cmp place_cmp q (dir, name)) (Some v) (cond (eqb q.0 k) (get names q) None)
      at q (inl here) =
          let yes : eqb q.0 k ≡ true = grind (arith, nat_tests) in
          ap (λ b. cond b (cond (eq_by_cmp place_cmp q (dir, name)) (Some v) (get names q)) None) yes
          ∙ ap (λ b. cond (eq_by_cmp place_cmp q (dir, name)) (Some v) (cond b (get names q) None)) (sym yes)
      at q (inr there) =
          let miss : eqb q.0 k ≡ false = grind (arith, nat_tests) in
          let apart : eq_by_cmp place_cmp q (dir, name) ≡ false = no_tie_over q (dir, name) (λ is. there (is ∙ same)) in
          ap (λ b. cond b (cond (eq_by_cmp place_cmp q (dir, name)) (Some v) (get names q)) None) miss
          ∙ ap (λ b. cond b (get names q) None) (sym miss)
          ∙ ap (λ b. cond b (Some v) (cond (eqb q.0 k) (get names q) None)) (sym apart)

  seen_remove : names_in (remove names (dir, name)) k ≡ remove (names_in names k) (dir, name)
  seen_remove = same_map places_total places_exact _ _ (λ q.
      get_in (remove names (dir, name)) k q
      ∙ ap (λ o. cond (eqb q.0 k) o None) (get-remove places_total names (dir, name) q)
      ∙ turned (eqb q.0 k) (eq_by_cmp place_cmp q (dir, name)) (get names q)
      ∙ ap (cond (eq_by_cmp place_cmp q (dir, name)) None) (sym (get_in names k q))
      ∙ sym (get-remove places_total (names_in names k) (dir, name) q))
    where
      turned : (a b : Bool) (o : Option ℕ) → cond a (cond b None o) None ≡ cond b None (cond a o None)
      turned true b o = refl
      turned false true o = refl
      turned false false o = refl

  -- one at a place of another directory isn't
  unseen_insert : (v : ℕ) → dir ≢ k → names_in (insert names (dir, name) v) k ≡ names_in names k
  unseen_insert v differ = same_map places_total places_exact _ _ (λ q.
      get_in (insert names (dir, name) v) k q
      ∙ ap (λ o. cond (eqb q.0 k) o None) (get-insert places_total names (dir, name) v q)
      ∙ at q (cases_eq q.0 k) ∙ sym (get_in names k q))
    where
      at : (q : Place) → (q.0 ≡ k) ⊎ (q.0 ≢ k)
          → cond (eqb q.0 k) (cond (eq_by_cmp place_cmp q (dir, name)) (Some v) (get names q)) None ≡ cond (eqb q.0 k) (get names q) None
      at q (inl here) =
          let apart : eq_by_cmp place_cmp q (dir, name) ≡ false = no_tie_over q (dir, name) (λ is. differ (sym is ∙ here)) in
          ap (λ b. cond (eqb q.0 k) (cond b (Some v) (get names q)) None) apart
      at q (inr there) =
          let miss : eqb q.0 k ≡ false = grind (arith, nat_tests) in
          ap (λ b. cond b (cond (eq_by_cmp place_cmp q (dir, name)) (Some v) (get names q)) None) miss ∙ ap (λ b. cond b (get names q) None) (sym miss)

  unseen_remove : dir ≢ k → names_in (remove names (dir, name)) k ≡ names_in names k
  unseen_remove differ = same_map places_total places_exact _ _ (λ q.
      get_in (remove names (dir, name)) k q
      ∙ ap (λ o. cond (eqb q.0 k) o None) (get-remove places_total names (dir, name) q)
      ∙ at q (cases_eq q.0 k) ∙ sym (get_in names k q))
    where
      at : (q : Place) → (q.0 ≡ k) ⊎ (q.0 ≢ k)
          → cond (eqb q.0 k) (cond (eq_by_cmp place_cmp q (dir, name)) None (get names q)) None ≡ cond (eqb q.0 k) (get names q) None
      at q (inl here) =
          let apart : eq_by_cmp place_cmp q (dir, name) ≡ false = no_tie_over q (dir, name) (λ is. differ (sym is ∙ here)) in
          ap (λ b. cond (eqb q.0 k) (cond b None (get names q)) None) apart
      at q (inr there) =
          let miss : eqb q.0 k ≡ false = grind (arith, nat_tests) in
          ap (λ b. cond b (cond (eq_by_cmp place_cmp q (dir, name)) None (get names q)) None) miss ∙ ap (λ b. cond b (get names q) None) (sym miss)

  pub removed_in : names_in (remove names (dir, name)) k ≡ with_number k (names_in names k) dir name 0
  removed_in = elim (cases_eq dir k) [
    | inl same ↦ let yes : eqb dir k ≡ true = grind (arith, nat_tests) in seen_remove ∙ ap (λ b. cond b (remove (names_in names k) (dir, name)) (names_in names k)) (sym yes)
    | inr differ ↦ let miss : eqb dir k ≡ false = grind (arith, nat_tests) in unseen_remove differ ∙ ap (λ b. cond b (remove (names_in names k) (dir, name)) (names_in names k)) (sym miss)
  ]

  pub inserted_in : (n : ℕ) → names_in (insert names (dir, name) (suc n)) k ≡ with_number k (names_in names k) dir name (suc n)
  inserted_in n = elim (cases_eq dir k) [
    | inl same ↦ let yes : eqb dir k ≡ true = grind (arith, nat_tests) in seen_insert (suc n) same ∙ ap (λ b. cond b (insert (names_in names k) (dir, name) (suc n)) (names_in names k)) (sym yes)
    | inr differ ↦ let miss : eqb dir k ≡ false = grind (arith, nat_tests) in unseen_insert (suc n) differ ∙ ap (λ b. cond b (insert (names_in names k) (dir, name) (suc n)) (names_in names k)) (sym miss)
  ]

module _ (d : Directory) (numbered : IsNumbered d) (k : ℕ) where
  made : (dir name : ℕ) (b : Bool) (next : ℕ) → next ≡ d.next_number
      → names_in (cond b d (record d { names = insert d.names (dir, name) next; next_number = next + 1 })).names k ≡ advanced k (names_in d.names k) (Make dir name) (cond b 0 next)
  made dir name true next is = refl
  made dir name false zero is = absurd (let some = numbered.next in omega arith)
  made dir name false (suc n) is = inserted_in d.names k dir name n

  renamed : (dir name to_dir to_name : ℕ) (same : Bool) (o : Option ℕ) → get d.names (dir, name) ≡ o
      → names_in (cond same d (record d { names = moved d.names (dir, name) (to_dir, to_name) o })).names k
      ≡ advanced k (names_in d.names k) (Rename dir name to_dir to_name) (cond same 0 (unwrap_or o 0))
  renamed dir name to_dir to_name true o is = refl
  renamed dir name to_dir to_name false None is = refl
  renamed dir name to_dir to_name false (Some zero) is = absurd (numbered.there (dir, name) is)
  renamed dir name to_dir to_name false (Some (suc n)) is =
      inserted_in (remove d.names (dir, name)) k to_dir to_name n
      ∙ ap (λ m. with_number k m to_dir to_name (suc n)) (removed_in d.names k dir name)

  -- the names of directory k after the call are those before it, changed by the call and the number beside it
  pub advanced_after : (call : DirCall) → names_in (after d call).names k ≡ advanced k (names_in d.names k) call (number_of d call)
  advanced_after (Make dir name) = made dir name (contains_key d.names (dir, name)) d.next_number refl
  advanced_after (Drop dir name) = removed_in d.names k dir name
  advanced_after (Rename dir name to_dir to_name) = renamed dir name to_dir to_name ((eqb dir to_dir) && (eqb name to_name)) (get d.names (dir, name)) refl
  advanced_after (Find dir name) = refl
  advanced_after (Count dir) = refl
  advanced_after (Next dir bound) = refl
