-- The first entry of a directory after a name, in order, is the least.
use Rattle.std.proofs.Common.{◌≡◌, ℕ, ◌<◌, ◌≤◌, Bool, true, false, cond, eqb, List, [], ◌∷◌, Option, Some, None, sym, refl, ap, ◌∙◌, subst, inl, inr, arith}
use Rattle.std.specs.Prelude.{IsTrue, IsSome, is_some, ◌&&◌}
use Rattle.std.specs.List.{find}
use Rattle.std.specs.Option.{option_map}
use Rattle.std.specs.Ordering.{nat_cmp, is_eq, is_lt, eq_by_cmp, ordering_then}
use Rattle.std.specs.declared.cmp.Ordering.TheVariants.{Less, Equal, Greater}
use Rattle.std.specs.FinMap as map_of
use Rattle.std.specs.FinMap.{is_sorted}
use Rattle.std.specs.FinMap.Entries.{below_all}
use Rattle.std.proofs.lemmas.Bool.{cases_lt}
use Rattle.std.proofs.lemmas.Bool.Decides.{nat_tests}
use mathlib.Core.Bool.{false≢true, true≢false}
use Rattle.dir_table.specs.declared.calls.DirRow.{DirRow}
use Rattle.dir_table.specs.declared.calls.DirReply.{DirReply}
use Rattle.dir_table.specs.declared.calls.DirReply.TheVariants.{Name, End}
use Rattle.dir_table.specs.Names.{Place, place_cmp, entries_of}
use Rattle.dir_table.specs.Answers.{comes_after, next_name, name_reply, IsLeastAfter, NoneAfter}
use Rattle.dir_table.specs.Rows.{AreInOrder, names_of}
use Rattle.dir_table.proofs.Order.{places_total, places_exact, both_true, less_of}
use Rattle.dir_table.proofs.Places.{find_below}
use Rattle.dir_table.proofs.Next.{is_next}
use Rattle.dir_table.proofs.NamesKept.{entries_names, get_names}

tied : (a b : Place) → eq_by_cmp place_cmp a b ≡ true → a ≡ b
tied a b same = elim (place_cmp a b) as (λ r. place_cmp a b ≡ r → is_eq r ≡ true → a ≡ b) [
  | Less ↦ λ _ h. absurd (false≢true h)
  | Equal ↦ λ tie h. places_exact a b tie
  | Greater ↦ λ _ h. absurd (false≢true h)
] refl same

ties_itself : (a b : Place) → a ≡ b → eq_by_cmp place_cmp a b ≡ true
ties_itself a b same = subst (λ x. eq_by_cmp place_cmp a x ≡ true) same
    (ap is_eq (ap (λ r. ordering_then r (nat_cmp a.1 a.1)) (equal_itself a.0) ∙ equal_itself a.1))
  where
    equal_itself : (n : ℕ) → nat_cmp n n ≡ Equal
    equal_itself n = grind (arith, nat_tests)

lower_name : (dir m n : ℕ) → m < n → place_cmp (dir, m) (dir, n) ≡ Less
lower_name dir m n below =
    let first : nat_cmp dir dir ≡ Equal = grind (arith, nat_tests) in
    let second : nat_cmp m n ≡ Less = grind (arith, nat_tests) in
    ap (λ r. ordering_then r (nat_cmp m n)) first ∙ second

-- what the first entry tells, or that there is none
passes : (dir : ℕ) (bound : Option ℕ) (e : Place × ℕ) → is_next dir bound e ≡ true → (e.0.0 ≡ dir) × IsTrue (comes_after bound e.0.1)
passes dir bound e h = let both = both_true (eqb e.0.0 dir) (comes_after bound e.0.1) h in (grind (arith, nat_tests, both.0), both.1)

passing : (dir : ℕ) (bound : Option ℕ) (other : ℕ) (e : Place × ℕ) → (dir, other) ≡ e.0 → IsTrue (comes_after bound other) → is_next dir bound e ≡ true
passing dir bound other e same later =
    let first : eqb e.0.0 dir ≡ true = (let is : e.0.0 ≡ dir = ap (λ p. p.0) (sym same) in grind (arith, nat_tests)) in
    ap (λ b. b && comes_after bound e.0.1) first ∙ ap (comes_after bound) (ap (λ p. p.1) (sym same)) ∙ later

some_later : (b : Bool) (v : ℕ) (o : Option ℕ) → IsSome o → IsSome (cond b (Some v) o)
some_later true v o h = refl
some_later false v o h = h

-- the first that passes
pub record IsFirst (es : List (Place × ℕ)) (dir : ℕ) (bound : Option ℕ) (e : Place × ℕ) : Type 0 where
  pub there : IsSome (map_of.find place_cmp (dir, e.0.1) es)
  pub later : IsTrue (comes_after bound e.0.1)
  pub least : (other : ℕ) → IsSome (map_of.find place_cmp (dir, other) es) → IsTrue (comes_after bound other) → e.0.1 ≤ other

first_here : (x : Place × ℕ) (es : List (Place × ℕ)) (dir : ℕ) (bound : Option ℕ) → IsTrue (below_all place_cmp x.0 es) → is_next dir bound x ≡ true → IsFirst (x ∷ es) dir bound x
first_here x es dir bound below hit =
    let facts = passes dir bound x hit in
    let same : (dir, x.0.1) ≡ x.0 = λ i. (sym facts.0 i, x.0.1) in
    record {
      there = ap (λ b. is_some (cond b (Some x.1) (map_of.find place_cmp (dir, x.0.1) es))) (ties_itself (dir, x.0.1) x.0 same);
      later = facts.1;
      least = λ other there later. elim (cases_lt other x.0.1) [
        | inl lower ↦
            let less : place_cmp (dir, other) x.0 ≡ Less = subst (λ p. place_cmp (dir, other) p ≡ Less) same (lower_name dir other x.0.1 lower) in
            let absent : map_of.find place_cmp (dir, other) es ≡ None = find_below es (dir, other) (below_lower (dir, other) x.0 es less below) in
            absurd (false≢true (sym (ap (λ r. is_some (cond (is_eq r) (Some x.1) (map_of.find place_cmp (dir, other) es))) less ∙ ap is_some absent) ∙ there))
        | inr higher ↦ higher
      ];
    }
  where
    below_lower : (a b : Place) (es : List (Place × ℕ)) → place_cmp a b ≡ Less → IsTrue (below_all place_cmp b es) → IsTrue (below_all place_cmp a es)
    below_lower a b [] less below = refl
    below_lower a b (e ∷ es) less below =
        let parts = both_true _ _ below in
        ap (λ x. x && below_all place_cmp a es) (ap is_lt (places_total.trans a b e.0 less (less_of _ parts.0))) ∙ below_lower a b es less parts.1

first_later : (x : Place × ℕ) (es : List (Place × ℕ)) (dir : ℕ) (bound : Option ℕ) (e : Place × ℕ) → is_next dir bound x ≡ false → IsFirst es dir bound e → IsFirst (x ∷ es) dir bound e
first_later x es dir bound e miss first = record {
  there = some_later (eq_by_cmp place_cmp (dir, e.0.1) x.0) x.1 (map_of.find place_cmp (dir, e.0.1) es) first.there;
  later = first.later;
  least = λ other there later.
      let find_rest = map_of.find place_cmp (dir, other) es in
      elim (eq_by_cmp place_cmp (dir, other) x.0) as (λ b. eq_by_cmp place_cmp (dir, other) x.0 ≡ b → IsSome (cond b (Some x.1) find_rest) → e.0.1 ≤ other) [
        | true ↦ λ tie _. absurd (false≢true (sym miss ∙ passing dir bound other x (tied (dir, other) x.0 tie) later))
        | false ↦ λ _ rest. first.least other rest later
      ] refl there;
}

pub is_first : (es : List (Place × ℕ)) (dir : ℕ) (bound : Option ℕ) (e : Place × ℕ) → IsTrue (is_sorted place_cmp es) → find (is_next dir bound) es ≡ Some e → IsFirst es dir bound e
is_first [] dir bound e sorted found = absurd (true≢false (sym (ap is_some found)))
is_first (x ∷ es) dir bound e sorted found =
    elim (is_next dir bound x) as (λ b. is_next dir bound x ≡ b → cond b (Some x) (find (is_next dir bound) es) ≡ Some e → IsFirst (x ∷ es) dir bound e) [
      | true ↦ λ hit is. let same : x ≡ e = cc in subst (IsFirst (x ∷ es) dir bound) same (first_here x es dir bound (both_true _ _ sorted).0 hit)
      | false ↦ λ miss is. first_later x es dir bound e miss (is_first es dir bound e (both_true _ _ sorted).1 is)
    ] refl found

pub none_after : (es : List (Place × ℕ)) (dir : ℕ) (bound : Option ℕ) → find (is_next dir bound) es ≡ None → (other : ℕ) → IsTrue (comes_after bound other)
    → map_of.find place_cmp (dir, other) es ≡ None
none_after [] dir bound none other later = refl
none_after (x ∷ es) dir bound none other later =
    elim (is_next dir bound x) as (λ b. is_next dir bound x ≡ b → cond b (Some x) (find (is_next dir bound) es) ≡ None → map_of.find place_cmp (dir, other) (x ∷ es) ≡ None) [
      | true ↦ λ hit is. absurd (true≢false (ap is_some is))
      | false ↦ λ miss is.
          elim (eq_by_cmp place_cmp (dir, other) x.0) as (λ b. eq_by_cmp place_cmp (dir, other) x.0 ≡ b → cond b (Some x.1) (map_of.find place_cmp (dir, other) es) ≡ None) [
            | true ↦ λ tie. absurd (false≢true (sym miss ∙ passing dir bound other x (tied (dir, other) x.0 tie) later))
            | false ↦ λ _. none_after es dir bound is other later
          ] refl
    ] refl none

module _ (rows : List DirRow) (sorted : AreInOrder rows) (dir : ℕ) (bound : Option ℕ) where
  abbrev found_next : Option (Place × ℕ)
  found_next = find (is_next dir bound) (entries_of rows)

  pub next_is : next_name (names_of rows) dir bound ≡ find (is_next dir bound) (entries_of rows)
  next_is = ap (find (is_next dir bound)) (entries_names rows sorted)

  -- the reply, by the name that was found
  pub next_reply : (o : Option (Place × ℕ)) (reply : Option ℕ → DirReply) → reply None ≡ End → ((n : ℕ) → reply (Some n) ≡ Name n) → (r : Option ℕ)
      → r ≡ option_map (λ e. e.0.1) o → reply r ≡ name_reply o
  next_reply None reply end name r is = ap reply is ∙ end
  next_reply (Some e) reply end name r is = ap reply is ∙ name e.0.1

  least_of : (name : ℕ) (o : Option (Place × ℕ)) → next_name (names_of rows) dir bound ≡ o → Name name ≡ name_reply o → IsLeastAfter (names_of rows) dir bound name
  least_of name None is same = absurd (differ same)
    where
      differ : Name name ≡ End → ⊥
      differ h = cc
  least_of name (Some e) is same =
      let first = is_first (entries_of rows) dir bound e sorted (sym next_is ∙ is) in
      let named : e.0.1 ≡ name = cc in
      subst (IsLeastAfter (names_of rows) dir bound) named (record {
        there = ap is_some (get_names rows (dir, e.0.1) sorted) ∙ first.there;
        later = first.later;
        least = λ other there later. first.least other (sym (ap is_some (get_names rows (dir, other) sorted)) ∙ there) later;
      })

  pub least_name : (name : ℕ) → Name name ≡ name_reply (next_name (names_of rows) dir bound) → IsLeastAfter (names_of rows) dir bound name
  least_name name same = least_of name (next_name (names_of rows) dir bound) refl same

  end_of : (o : Option (Place × ℕ)) → next_name (names_of rows) dir bound ≡ o → End ≡ name_reply o → NoneAfter (names_of rows) dir bound
  end_of None is same other later =
      ap is_some (get_names rows (dir, other) sorted ∙ none_after (entries_of rows) dir bound (sym next_is ∙ is) other later)
  end_of (Some e) is same other later = absurd (differ same)
    where
      differ : End ≡ Name e.0.1 → ⊥
      differ h = cc

  pub no_name : End ≡ name_reply (next_name (names_of rows) dir bound) → NoneAfter (names_of rows) dir bound
  no_name same = end_of (next_name (names_of rows) dir bound) refl same
