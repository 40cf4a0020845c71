-- What a filter keeps for a count and a search by the same test.
use Rattle.std.proofs.Common.{◌≡◌, ℕ, Bool, true, false, cond, List, [], ◌∷◌, Option, Some, None, sym, refl, ap, ◌∙◌}
use Rattle.std.specs.Prelude.{◌&&◌, find, filter}
use Rattle.std.specs.declared.cmp.Ordering.TheVariants.{Equal}
use Rattle.std.specs.FinMap.{entries, entries_sorted, retain_keys, get-entries, get-retain_keys}
use Rattle.std.specs.FinMap.Entries.{same_entries, is_sorted-where_key, find-where_key}
use Rattle.dir_table.specs.Names.{Place, Names, place_cmp}
use Rattle.dir_table.proofs.Order.{places_total, places_exact}

module _ {X : Type 0} (p q : X → Bool) where
  pub filter-filter : (xs : List X) → filter p (filter p xs) ≡ filter p xs
  filter-filter [] = refl
  filter-filter (x ∷ xs) =
      elim (p x) as (λ b. p x ≡ b → filter p (cond b (x ∷ filter p xs) (filter p xs)) ≡ cond b (x ∷ filter p xs) (filter p xs)) [
        | true ↦ λ is. ap (λ b. cond b (x ∷ filter p (filter p xs)) (filter p (filter p xs))) is ∙ ap (λ l. x ∷ l) (filter-filter xs)
        | false ↦ λ is. filter-filter xs
      ] refl

  pub find-filter : (xs : List X) → find (λ x. p x && q x) (filter p xs) ≡ find (λ x. p x && q x) xs
  find-filter [] = refl
  find-filter (x ∷ xs) =
      let rest = find (λ x. p x && q x) xs in
      elim (p x) as (λ b. p x ≡ b → find (λ x. p x && q x) (cond b (x ∷ filter p xs) (filter p xs)) ≡ cond (b && q x) (Some x) rest) [
        | true ↦ λ is. ap (λ b. cond (b && q x) (Some x) (find (λ x. p x && q x) (filter p xs))) is ∙ ap (cond (q x) (Some x)) (find-filter xs)
        | false ↦ λ is. find-filter xs
      ] refl

-- the entries of the names that are kept
pub entries_kept : (names : Names) (p : Place → Bool) → entries (retain_keys names p) ≡ filter (λ e. p e.0) (entries names)
entries_kept names p =
    let alike : (q x : Place) → place_cmp q x ≡ Equal → p x ≡ p q = λ q x tie. ap p (sym (places_exact q x tie)) in
    same_entries place_cmp places_total places_exact (entries (retain_keys names p)) (filter (λ e. p e.0) (entries names))
    (entries_sorted (retain_keys names p)) (is_sorted-where_key place_cmp p (entries names) (entries_sorted names))
    (λ q. sym (get-entries (retain_keys names p) q) ∙ get-retain_keys names p q (alike q) ∙ ap (λ o. cond (p q) o None) (get-entries names q)
    ∙ sym (find-where_key place_cmp p q (alike q) (entries names)))
