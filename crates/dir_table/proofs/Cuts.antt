-- Where a test of rows in order changes, found by the first rows of the blocks and then in one block.
use Rattle.std.proofs.Common.{◌≡◌, ℕ, zero, suc, ◌+◌, ◌-◌, ◌/◌, ◌<◌, ◌≤◌, Bool, true, false, cond, List, [], ◌∷◌, ◌++◌, take, drop, length, get_or, sym, refl, ap, ◌∙◌, subst, inl, inr, arith}
use Rattle.std.specs.List.{All, AllWithin}
use Rattle.std.specs.List.Sorted.{IsPartitionedBy, IsPartitionPoint}
use Rattle.std.proofs.lemmas.Bool.{cases_lt, false≢true}
use Rattle.std.proofs.lemmas.List.{length-append, get_or_append_left, get_or-append-add}
use Rattle.std.proofs.lemmas.List.Elements.{All-head, All-tail}
use Rattle.dir_table.specs.Blocks.{begins_with}
use Rattle.dir_table.proofs.Joined.{joins, before}

module _ {X : Type 0} (p : X → Bool) where
  -- elements up to i pass, and those from there on don't
  abbrev pub ChangesAt : List X → ℕ → Type 0
  ChangesAt xs i = (i ≤ length xs) × AllWithin (λ x. p x ≡ true) xs 0 i × AllWithin (λ x. p x ≡ false) xs i (length xs)

  -- the part behind a first part
  pub parted_behind : (xs ys : List X) → IsPartitionedBy p (xs ++ ys) → IsPartitionedBy p ys
  parted_behind xs ys parted i j d below in_range h =
      subst (λ x. p x ≡ true) (get_or-append-add xs ys i d)
      (parted (length xs + i) (length xs + j) d (omega arith) (omega (arith, length-append xs ys))
      (subst (λ x. p x ≡ true) (sym (get_or-append-add xs ys j d)) h))

  pub parted_first : (xs ys : List X) → IsPartitionedBy p (xs ++ ys) → IsPartitionedBy p xs
  parted_first xs ys parted i j d below in_range h =
      subst (λ x. p x ≡ true) (get_or_append_left xs ys d i (omega arith))
      (parted i j d below (omega (arith, length-append xs ys))
      (subst (λ x. p x ≡ true) (sym (get_or_append_left xs ys d j in_range)) h))

  -- each of the lists
  pub parted_each : (xss : List (List X)) (k : ℕ) (d : List X) → IsPartitionedBy p (joins xss) → k < length xss → IsPartitionedBy p (get_or xss k d)
  parted_each [] k d parted known = absurd (omega arith)
  parted_each (xs ∷ xss) zero d parted known = parted_first xs (joins xss) parted
  parted_each (xs ∷ xss) (suc k) d parted known = parted_each xss k d (parted_behind xs (joins xss) parted) (omega arith)

  -- where an element passes, all of an earlier part do
  pub earlier_pass : (xs : List X) (y : X) (ys : List X) → IsPartitionedBy p (xs ++ y ∷ ys) → p y ≡ true → All (λ x. p x ≡ true) xs
  earlier_pass xs y ys parted h i d in_range =
      subst (λ x. p x ≡ true) (get_or_append_left xs (y ∷ ys) d i in_range)
      (parted i (length xs + 0) d (omega arith) (omega (arith, length-append xs (y ∷ ys)))
      (subst (λ x. p x ≡ true) (sym (get_or-append-add xs (y ∷ ys) 0 d)) h))

  false_or : (b : Bool) → (b ≡ true → ⊥) → b ≡ false
  false_or b never = elim b as (λ v. (v ≡ true → ⊥) → v ≡ false) [ true ↦ λ h. absurd (h refl) | false ↦ λ _. refl ] never

  -- where the first of a later part doesn't pass, none of it does
  none_pass : (ys : List X) → IsPartitionedBy p ys → begins_with p ys ≡ false → All (λ x. p x ≡ false) ys
  none_pass [] parted h i d in_range = absurd (omega arith)
  none_pass (y ∷ ys) parted h i d in_range = false_or _ (λ passes. false≢true (sym h ∙ parted 0 i d (omega arith) in_range passes))

  -- a later part of which none passes
  changes_before : (xs ys : List X) (i : ℕ) → ChangesAt xs i → All (λ x. p x ≡ false) ys → ChangesAt (xs ++ ys) i
  changes_before xs ys i change none = (
    omega (arith, change.0, length-append xs ys),
    λ k d from below. subst (λ x. p x ≡ true) (sym (get_or_append_left xs ys d k (omega (arith, change.0)))) (change.1 k d from below),
    λ k d from below. elim (cases_lt k (length xs)) [
      | inl here ↦ subst (λ x. p x ≡ false) (sym (get_or_append_left xs ys d k here)) (change.2 k d from here)
      | inr later ↦
          let n = k - length xs in
          let there : get_or (xs ++ ys) k d ≡ get_or ys n d = ap (λ m. get_or (xs ++ ys) m d) {x = k} {y = length xs + n} (omega arith) ∙ get_or-append-add xs ys n d in
          subst (λ x. p x ≡ false) (sym there) (none n d (omega (arith, length-append xs ys)))
    ],
  )

  -- an earlier part of which all pass
  changes_behind : (xs ys : List X) (i : ℕ) → All (λ x. p x ≡ true) xs → ChangesAt ys i → ChangesAt (xs ++ ys) (length xs + i)
  changes_behind xs ys i all change = (
    omega (arith, change.0, length-append xs ys),
    λ k d from below. elim (cases_lt k (length xs)) [
      | inl here ↦ subst (λ x. p x ≡ true) (sym (get_or_append_left xs ys d k here)) (all k d here)
      | inr later ↦
          let n = k - length xs in
          let there : get_or (xs ++ ys) k d ≡ get_or ys n d = ap (λ m. get_or (xs ++ ys) m d) {x = k} {y = length xs + n} (omega arith) ∙ get_or-append-add xs ys n d in
          subst (λ x. p x ≡ true) (sym there) (change.1 n d (omega arith) (omega arith))
    ],
    λ k d from below.
        let n = k - length xs in
        let there : get_or (xs ++ ys) k d ≡ get_or ys n d = ap (λ m. get_or (xs ++ ys) m d) {x = k} {y = length xs + n} (omega arith) ∙ get_or-append-add xs ys n d in
        subst (λ x. p x ≡ false) (sym there) (change.2 n d (omega arith) (omega (arith, length-append xs ys))),
  )

  -- the first of the joined lists is that of the first one that has any
  first_of_joined : (xs : List X) (xss : List (List X)) → 0 < length xs → begins_with p (xs ++ joins xss) ≡ begins_with p xs
  first_of_joined [] xss some = absurd (omega arith)
  first_of_joined (x ∷ xs) xss some = refl

  abbrev HasSome : List X → Type 0
  HasSome xs = 0 < length xs

  first_of_all : (xs : List X) → All (λ x. p x ≡ true) xs → 0 < length xs → begins_with p xs ≡ true
  first_of_all [] all some = absurd (omega arith)
  first_of_all (x ∷ xs) all some = all 0 x (omega arith)

  -- where the first of a later list passes, all of the first list do
  pub earlier_all : (xs : List X) (xss : List (List X)) (j : ℕ) (d : List X) → All (λ ys. 0 < length ys) xss → IsPartitionedBy p (xs ++ joins xss)
      → j < length xss → begins_with p (get_or xss j d) ≡ true → All (λ x. p x ≡ true) xs
  earlier_all xs [] j d some parted in_range h = absurd (omega arith)
  earlier_all xs ([] ∷ xss) j d some parted in_range h = absurd (let none : 0 < length {A = X} [] = some 0 [] (omega arith) in omega arith)
  earlier_all xs ((y ∷ ys) ∷ xss) zero d some parted in_range h = earlier_pass xs y (ys ++ joins xss) parted h
  earlier_all xs ((y ∷ ys) ∷ xss) (suc j) d some parted in_range h =
      let all = earlier_all (y ∷ ys) xss j d (All-tail HasSome (y ∷ ys) xss some) (parted_behind xs ((y ∷ ys) ++ joins xss) parted) (omega arith) h in
      earlier_pass xs y (ys ++ joins xss) parted (all 0 y (omega arith))

  -- the first elements of lists in order are in order
  pub firsts_parted : (xss : List (List X)) → All (λ xs. 0 < length xs) xss → IsPartitionedBy p (joins xss) → IsPartitionedBy (begins_with p) xss
  firsts_parted [] some parted i j d below in_range h = absurd (omega arith)
  firsts_parted (xs ∷ xss) some parted zero zero d below in_range h = h
  firsts_parted (xs ∷ xss) some parted (suc i) zero d below in_range h = absurd (omega arith)
  firsts_parted (xs ∷ xss) some parted zero (suc j) d below in_range h =
      first_of_all xs (earlier_all xs xss j d (All-tail HasSome xs xss some) parted (omega arith) h) (All-head HasSome xs xss some)
  firsts_parted (xs ∷ xss) some parted (suc i) (suc j) d below in_range h =
      firsts_parted xss (All-tail HasSome xs xss some) (parted_behind xs (joins xss) parted) i j d (omega arith) (omega arith) h

  none_later : (xss : List (List X)) → All (λ ys. 0 < length ys) xss → IsPartitionedBy p (joins xss)
      → AllWithin (λ ys. begins_with p ys ≡ false) xss 0 (length xss) → All (λ x. p x ≡ false) (joins xss)
  none_later [] some parted behind = λ i d in_range. absurd (omega arith)
  none_later (ys ∷ xss) some parted behind =
      none_pass (ys ++ joins xss) parted (first_of_joined ys xss (All-head HasSome ys xss some) ∙ behind 0 ys (omega arith) (omega arith))

  -- where the test changes in the last list whose first element passes, or in the first list, it changes in all
  pub cut_joined : (xs : List X) (xss : List (List X)) (k j : ℕ) → All (λ ys. 0 < length ys) xss → IsPartitionedBy p (xs ++ joins xss)
      → k ≤ length xss → AllWithin (λ ys. begins_with p ys ≡ true) xss 0 k → AllWithin (λ ys. begins_with p ys ≡ false) xss k (length xss)
      → ChangesAt (get_or (xs ∷ xss) k []) j → ChangesAt (xs ++ joins xss) (before (xs ∷ xss) k j)
  cut_joined xs xss zero j some parted within first behind change =
      subst (ChangesAt (xs ++ joins xss)) {x = j} {y = before (xs ∷ xss) zero j} (omega arith)
      (changes_before xs (joins xss) j change (none_later xss some (parted_behind xs (joins xss) parted) behind))
  cut_joined xs [] (suc k) j some parted within first behind change = absurd (omega arith)
  cut_joined xs (ys ∷ xss) (suc k) j some parted within first behind change =
      let all = earlier_all xs (ys ∷ xss) 0 [] some parted (omega arith) (first 0 [] (omega arith) (omega arith)) in
      let rest = cut_joined ys xss k j (All-tail HasSome ys xss some) (parted_behind xs (ys ++ joins xss) parted) (omega arith)
      (λ i d from below. first (suc i) d (omega arith) (omega arith)) (λ i d from below. behind (suc i) d (omega arith) (omega arith)) change in
      subst (ChangesAt (xs ++ joins (ys ∷ xss))) {x = length xs + before (ys ∷ xss) k j} {y = before (xs ∷ ys ∷ xss) (suc k) j}
      (omega (arith, length-append xs (joins (take k (ys ∷ xss)))))
      (changes_behind xs (joins (ys ∷ xss)) (before (ys ∷ xss) k j) all rest)

  -- the same, where the first list is found by its place
  pub cut_found : (xss tail : List (List X)) (xs : List X) (k j : ℕ) → 0 < length xss → tail ≡ drop 1 xss → All HasSome tail → IsPartitionedBy p (joins xss)
      → k ≤ length tail → IsPartitionPoint (λ ys. begins_with p ys ≡ true) (λ ys. begins_with p ys ≡ false) tail k → xs ≡ get_or xss k []
      → j ≤ length xs → IsPartitionPoint (λ x. p x ≡ true) (λ x. p x ≡ false) xs j → ChangesAt (joins xss) (before xss k j)
  cut_found [] tail xs k j any is some parted within firsts here in_block change = absurd (omega arith)
  cut_found (ys ∷ xss) tail xs k j any is some parted within firsts here in_block change =
      cut_joined ys xss k j (subst (All HasSome) is some) parted (subst (λ l. k ≤ length l) is within)
      (subst (λ l. AllWithin (λ zs. begins_with p zs ≡ true) l 0 k) is firsts.0)
      (subst (λ l. AllWithin (λ zs. begins_with p zs ≡ false) l k (length l)) is firsts.1)
      (subst (λ l. ChangesAt l j) here (in_block, change.0, change.1))

  not_begun : (xs : List X) → begins_with p xs ≡ true → AllWithin (λ x. p x ≡ false) xs 0 (length xs) → ⊥
  not_begun [] h none = false≢true h
  not_begun (x ∷ xs) h none = false≢true (sym (none 0 x (omega arith) (omega arith)) ∙ h)

  -- in a later list at least the first element passes
  pub cut_start : (xss tail : List (List X)) (xs : List X) (k j : ℕ) → 0 < length xss → tail ≡ drop 1 xss → k ≤ length tail
      → AllWithin (λ ys. begins_with p ys ≡ true) tail 0 k → xs ≡ get_or xss k [] → AllWithin (λ x. p x ≡ false) xs j (length xs)
      → j ≡ 0 → before xss k j ≡ 0
  cut_start xss tail xs zero j any is within firsts here change none = omega arith
  cut_start [] tail xs (suc k) j any is within firsts here change none = absurd (omega arith)
  cut_start (ys ∷ xss) tail xs (suc k) j any is within firsts here change none =
      let begun : begins_with p (get_or xss k []) ≡ true = subst (λ l. begins_with p (get_or l k []) ≡ true) is (firsts k [] (omega arith) (omega arith)) in
      absurd (not_begun xs (subst (λ l. begins_with p l ≡ true) (sym here) begun) (subst (λ n. AllWithin (λ x. p x ≡ false) xs n (length xs)) none change))

  -- the first elements of all lists but the first one are in order
  pub tail_parted : (xss tail : List (List X)) → 0 < length xss → tail ≡ drop 1 xss → All HasSome tail → IsPartitionedBy p (joins xss) → IsPartitionedBy (begins_with p) tail
  tail_parted [] tail any is some parted = absurd (omega arith)
  tail_parted (xs ∷ xss) tail any is some parted =
      subst (IsPartitionedBy (begins_with p)) (sym is) (firsts_parted xss (subst (All HasSome) is some) (parted_behind xs (joins xss) parted))

  -- the elements before base pass, and those behind the next size ones don't
  pub record Narrowed (xs : List X) (base size : ℕ) : Type 0 where
    pub within : base + size ≤ length xs
    pub before : AllWithin (λ x. p x ≡ true) xs 0 base
    pub behind : AllWithin (λ x. p x ≡ false) xs (base + size) (length xs)

  pub narrowed_none : (xs : List X) → Narrowed xs 0 (length xs)
  narrowed_none xs = record { within = omega arith; before = λ k d from below. absurd (omega arith); behind = λ k d from below. absurd (omega arith) }

  -- a look at the last element of the first half
  pub narrowed_half : (xs : List X) (b : Bool) (base size : ℕ) → IsPartitionedBy p xs → 0 < size → Narrowed xs base size
      → ((d : X) → p (get_or xs (base + (size - size / 2) - 1) d) ≡ b) → Narrowed xs (base + cond b (size - size / 2) 0) (size / 2)
  narrowed_half xs true base size parted some known look = record {
    within = omega (arith, known.within);
    before = λ k d from below. parted k (base + (size - size / 2) - 1) d (omega arith) (omega (arith, known.within)) (look d);
    behind = λ k d from below. known.behind k d (omega arith) below;
  }
  narrowed_half xs false base size parted some known look = record {
    within = omega (arith, known.within);
    before = λ k d from below. known.before k d from (omega arith);
    behind = λ k d from below. false_or _ (λ passes. false≢true (sym (look d) ∙ parted (base + (size - size / 2) - 1) k d (omega arith) below passes));
  }
