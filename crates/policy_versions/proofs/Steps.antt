-- Each step keeps the rule.
use Rattle.std.proofs.Common.{◌≡◌, ◌≢◌, ◌⊎◌, ℕ, zero, suc, ◌+◌, ◌<◌, true, false, List, [], ◌∷◌, ◌++◌, length, get_or-set_same, set, sym, refl, ap, ◌∙◌, subst, inl, inr, ⊎_elim, arith, length-set, length-append, slice_index, slice_get, Some, None, Option}
use mathlib.Core.Option.{some, some-injective, some-ne-none}
use lib.ListN.{get_elem?}
use Rattle.atomic_table.specs.Table.{opening, keeps, Allows, Splits, Joins, Final, Seen}
use Rattle.atomic_table.proofs.Lists.{at_set, set_else}
use Rattle.shfl_policy.specs.Policies.{PolicyModel}
use Rattle.policy_versions.specs.declared.view.View.{View}
use Rattle.policy_versions.specs.Rule.{version_of, which_of, IsAmong, IsPublished, SeatTells, IsConsistent, first_view, user_view, given_back, see, raise, loaded, raised, spent}

Some-injective : {A : Type 0} (d a b : A) → Some a ≡ Some b → a ≡ b
Some-injective d a b e = let f : Option _ → _ = λ o. elim o [ Some x ↦ x | None ↦ d ] in ap f e

-- below the end a longer list has the same elements, and at the end the new one
get_longer : (xs : List ℕ) (x : ℕ) (i : ℕ) (y : ℕ) → slice_get xs i ≡ Some y → slice_get (xs ++ x ∷ []) i ≡ Some y
get_longer [] x i y e = absurd (cc)
get_longer (z ∷ zs) x zero y e = e
get_longer (z ∷ zs) x (suc i) y e = get_longer zs x i y e

get_end : (xs : List ℕ) (x : ℕ) → slice_get (xs ++ x ∷ []) (length xs) ≡ Some x
get_end [] x = refl
get_end (z ∷ zs) x = get_end zs x

get_either : (xs : List ℕ) (x : ℕ) (i : ℕ) (y : ℕ) → slice_get (xs ++ x ∷ []) i ≡ Some y → (slice_get xs i ≡ Some y) ⊎ ((i ≡ length xs) × (x ≡ y))
get_either [] x zero y e = inr (refl, Some-injective x x y e)
get_either [] x (suc i) y e = absurd (cc)
get_either (z ∷ zs) x zero y e = inl e
get_either (z ∷ zs) x (suc i) y e = ⊎_elim inl (λ p. inr (ap suc p.0, p.1)) (get_either zs x i y e)

get_below : (xs : List ℕ) (i : ℕ) (y : ℕ) → slice_get xs i ≡ Some y → i < length xs
get_below [] i y e = absurd (cc)
get_below (z ∷ zs) zero y e = omega arith
get_below (z ∷ zs) (suc i) y e = let h = get_below zs i y e in omega arith

set_same : (ws : List ℕ) → length ws ≡ 1 → set ws 0 (slice_index ws 0) ≡ ws
set_same [] h = absurd (omega arith)
set_same (x ∷ xs) h = refl

-- a seat's view becomes another
each_set : (P : ℕ → View → Type 0) (Q : ℕ → View → Type 0) (vs : List View) (id : ℕ) (w : View) → Q id w → ((seat : ℕ) (u : View) → seat ≢ id → P seat u → Q seat u)
    → ((seat : ℕ) (u : View) → get_elem? vs seat ≡ some u → P seat u) → (seat : ℕ) (u : View) → get_elem? (set vs id w) seat ≡ some u → Q seat u
each_set P Q vs id w mine others old seat u e = ⊎_elim (λ p. subst (λ (z : ℕ × View). Q z.0 z.1) (λ i. (sym p.0 i, p.1 i)) mine) (λ p. others seat u p.0 (old seat u p.1)) (at_set vs id seat w u e)

module _ (declared : List PolicyModel) where
  pub load_keeps : (slots id : ℕ) (v : View) (c : List (ℕ × Unit {0})) → v.spent ≡ false
      → Allows (IsConsistent declared) slots id (v, c) 0 (λ n. n) (loaded (v, c))
  load_keeps slots id v c live s ok _ at _ = let n : ℕ = slice_index s.words 0 in let w : View = see v n in
      let o = ok.seated id v at in
      let here : slice_get ok.words (length ok.before) ≡ Some n = subst (λ ws. slice_get ws (length ok.before) ≡ Some n) (sym ok.current) (get_end ok.before n) in
      let is = ok.numbered (length ok.before) n here in
      let long : length ok.words ≡ length ok.before + 1 = ap length ok.current ∙ length-append ok.before (n ∷ []) in
      let published : IsPublished ok.words n = ap (slice_get ok.words) is.0 ∙ here in
      let same : set s.words 0 n ≡ s.words = set_same s.words ok.one in (
        w,
        keeps,
        tt,
        record {
          words = ok.words;
          before = ok.before;
          one = ap length same ∙ ok.one;
          current = ok.current ∙ ap (λ ws. ok.before ++ slice_index ws 0 ∷ []) (sym same);
          first = ok.first;
          numbered = ok.numbered;
          seated = each_set (SeatTells declared ok.words) (SeatTells declared ok.words) s.views id w
              (record { knows = o.knows; publisher = o.publisher; seen = λ k h. ⊎_elim (λ e. subst (IsPublished ok.words) (sym e) published) (o.seen k) h })
              (λ seat u _ old. old) ok.seated;
        },
        (refl, refl, subst (λ d. which_of n < length d) (sym (o.knows live)) is.1, λ k h. let b = get_below ok.words (version_of k) k (o.seen k h) in let e = is.0 in omega arith),
      )

  pub raise_keeps : (slots id : ℕ) (v : View) (c : List (ℕ × Unit {0})) (word : ℕ) → v.publisher ≡ true → version_of word ≡ length v.words → which_of word < length declared
      → Allows (IsConsistent declared) slots id (v, c) 0 (λ _. word) (λ _. raised (v, c) word)
  raise_keeps slots id v c word mine is_next known s ok _ at _ = let w : View = raise v word in let ws = ok.words in let ws' = ok.words ++ word ∷ [] in
      let o = ok.seated id v at in let owns = o.publisher mine in
      let is_length : version_of word ≡ length ws = is_next ∙ ap length owns.1 in
      let here : slice_index (set s.words 0 word) 0 ≡ word = get_or-set_same s.words 0 word 0 (let e = ok.one in omega arith) in
      let longer : (k : ℕ) → IsPublished ws k → IsPublished ws' k = λ k e. get_longer ws word (version_of k) k e in (
        w,
        keeps,
        tt,
        record {
          words = ws';
          before = ws;
          one = length-set s.words 0 word ∙ ok.one;
          current = ap (λ n. ws ++ n ∷ []) (sym here);
          first = get_longer ws word 0 0 ok.first;
          numbered = λ i k e. ⊎_elim (ok.numbered i k) (λ p. (ap version_of (sym p.1) ∙ (is_length ∙ sym p.0), subst (λ n. which_of n < length declared) p.1 known)) (get_either ws word i k e);
          seated = each_set (SeatTells declared ws) (SeatTells declared ws') s.views id w
              (record { knows = o.knows; publisher = λ _. (owns.0, ap (λ l. l ++ word ∷ []) owns.1); seen = λ k h. longer k (o.seen k h) })
              (λ seat u ne old. record { knows = old.knows; publisher = λ p. absurd (ne ((old.publisher p).0 ∙ sym owns.0)); seen = λ k h. longer k (old.seen k h) })
              ok.seated;
        },
        (refl, refl),
      )

  -- the end of a longer list
  at_end : (l : List View) (a b : View) (j : ℕ) → get_elem? (l ++ a ∷ []) j ≡ some b → (get_elem? l j ≡ some b) ⊎ (a ≡ b)
  at_end [] a b zero e = inr (some-injective a b e)
  at_end [] a b (suc j) e = absurd (some-ne-none b (sym e))
  at_end (x ∷ xs) a b zero e = inl e
  at_end (x ∷ xs) a b (suc j) e = at_end xs a b j e

  pub split_keeps : (id : ℕ) (v : View) → v.spent ≡ false → Splits (IsConsistent declared) id v v (user_view v.declared)
  split_keeps id v live s ok at = let o = ok.seated id v at in record {
    words = ok.words;
    before = ok.before;
    one = ok.one;
    current = ok.current;
    first = ok.first;
    numbered = ok.numbered;
    seated = λ seat u e. ⊎_elim
        (λ old. each_set (SeatTells declared ok.words) (SeatTells declared ok.words) s.views id v o (λ seat u _ old. old) ok.seated seat u old)
        (λ is. subst (SeatTells declared ok.words seat) is (record { knows = λ _. o.knows live; publisher = λ no. absurd (cc); seen = λ k h. absurd h }))
        (at_end (set s.views id v) (user_view v.declared) u seat e);
  }

  has_append : (k : ℕ) (xs ys : List ℕ) → IsAmong k (xs ++ ys) → IsAmong k xs ⊎ IsAmong k ys
  has_append k [] ys h = inr h
  has_append k (x ∷ xs) ys h = ⊎_elim (λ e. inl (inl e)) (λ t. ⊎_elim (λ a. inl (inr a)) inr (has_append k xs ys t)) h

  pub join_keeps : (id : ℕ) (v : View) (other : ℕ) (w : View) → Joins (IsConsistent declared) id v other w (given_back v w) spent
  join_keeps id v other w s ok at apart at' = let b = given_back v w in let o = ok.seated id v at in
      let theirs = ok.seated other w (sym (set_else s.views id other b apart) ∙ at') in record {
        words = ok.words;
        before = ok.before;
        one = ok.one;
        current = ok.current;
        first = ok.first;
        numbered = ok.numbered;
        seated = each_set (SeatTells declared ok.words) (SeatTells declared ok.words) (set s.views id b) other spent
            (record { knows = λ no. absurd (cc); publisher = λ no. absurd (cc); seen = λ k h. absurd h })
            (λ seat u _ old. old)
            (each_set (SeatTells declared ok.words) (SeatTells declared ok.words) s.views id b
            (record { knows = o.knows; publisher = o.publisher; seen = λ k h. ⊎_elim (theirs.seen k) (o.seen k) (has_append k w.seen v.seen h) })
            (λ seat u _ old. old) ok.seated);
      }

  numbered_first : 0 < length declared → (i word : ℕ) → slice_get (0 ∷ []) i ≡ Some word → (version_of word ≡ i) × (which_of word < length declared)
  numbered_first h zero word e = let is : 0 ≡ word = Some-injective 0 0 word e in subst (λ n. (version_of n ≡ 0) × (which_of n < length declared)) is (refl, h)
  numbered_first h (suc i) word e = absurd (cc)

  seated_first : (seat : ℕ) (u : View) → get_elem? (first_view declared ∷ []) seat ≡ some u → SeatTells declared (0 ∷ []) seat u
  seated_first zero u e = subst (SeatTells declared (0 ∷ []) 0) (some-injective (first_view declared) u e) (record { knows = λ _. refl; publisher = λ _. (refl, refl); seen = λ k h. absurd h })
  seated_first (suc seat) u e = absurd (some-ne-none u (sym e))

  pub open_holds : 0 < length declared → IsConsistent declared (opening (0 ∷ []) [] (first_view declared))
  open_holds some_one = record {
    words = 0 ∷ [];
    before = [];
    one = refl;
    current = refl;
    first = refl;
    numbered = numbered_first some_one;
    seated = seated_first;
  }

  -- at the end each word that was given back was published
  pub close_tells : (id : ℕ) (v : View) (ws : List ℕ) (xs : List (Unit {0})) → v.publisher ≡ true → Final (Seen (IsConsistent declared) id v) ws xs → (k : ℕ) → IsAmong k v.seen → IsPublished v.words k
  close_tells id v ws xs mine f k h = let ok = f.1.0 in let o = ok.seated id v f.1.1 in subst (λ l. IsPublished l k) (sym (o.publisher mine).1) (o.seen k h)
