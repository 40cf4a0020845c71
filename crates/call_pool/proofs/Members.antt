-- Members of lists, and lists by their members.
use Rattle.std.proofs.Common.{◌≡◌, ◌≢◌, ◌⊎◌, ℕ, zero, suc, ◌+◌, ◌<◌, ◌≤◌, cond, Bool, List, [], ◌∷◌, ◌++◌, map, length, take, drop, slice_index_or, Contains, sym, refl, ap, ◌∙◌, inl, inr, ⊎_elim, arith}
use Rattle.std.specs.List.{count_by, flat_map, sum_by, All, AllByRecursion}
use Rattle.std.proofs.lemmas.List.Elements.{All-nil, All-cons, All-head, All-tail, recursion_from_All}
use Rattle.std.proofs.lemmas.List.Sums.{sum_by-append, sum_by-cons}
use native.Mathlib.Decide.{ℕ_discrete}
use mathlib.Core.Logic.{dite}

module _ {A : Type 0} where
  first_one : (x : A) (xs : List A) → Contains (x ∷ xs) x
  first_one x xs = (0, omega arith, refl)

  later_one : (x : A) (xs : List A) (y : A) → Contains xs y → Contains (x ∷ xs) y
  later_one x xs y h = let below = h.1 in (suc h.0, omega arith, h.2)

  first_or_later : (x : A) (xs : List A) (y : A) (k : ℕ) → k < length (x ∷ xs) → slice_index_or (x ∷ xs) k y ≡ y → (x ≡ y) ⊎ Contains xs y
  first_or_later x xs y zero below is = inl is
  first_or_later x xs y (suc k) below is = inr (k, omega arith, is)

  -- a list that contains a number of its members' has such a member
  pub member_with : (f : A → ℕ) (xs : List A) (n k d : ℕ) → k < length (map f xs) → slice_index_or (map f xs) k d ≡ n → (x : A) × Contains xs x × (f x ≡ n)
  member_with f [] n k d below is = absurd (omega arith)
  member_with f (x ∷ xs) n zero d below is = (x, first_one x xs, is)
  member_with f (x ∷ xs) n (suc k) d below is = let r = member_with f xs n k d (omega arith) is in (r.0, later_one x xs r.0 r.1, r.2)

module _ {A B : Type 0} (f : A → B) (differ : (x y : A) → f x ≡ f y → x ≡ y) where
  head_of : B → List B → B
  head_of d [] = d
  head_of d (x ∷ xs) = x

  rest_of : List B → List B
  rest_of [] = []
  rest_of (x ∷ xs) = xs

  -- where different values have different images, lists with the same images are the same
  pub same_images : (xs ys : List A) → map f xs ≡ map f ys → xs ≡ ys
  unfolding head_of rest_of
  same_images [] [] e = refl
  same_images [] (y ∷ ys) e = let n : length (map f []) ≡ length (map f (y ∷ ys)) = ap length e in absurd (omega arith)
  same_images (x ∷ xs) [] e = let n : length (map f (x ∷ xs)) ≡ length (map f []) = ap length e in absurd (omega arith)
  same_images (x ∷ xs) (y ∷ ys) e = let h = differ x y (ap (head_of (f x)) e) in let r = same_images xs ys (ap rest_of e) in λ i. h i ∷ r i

module _ {A B : Type 0} (test : B → Bool) (of : A → List B) where
  abbrev how_many : List B → ℕ
  how_many l = count_by test l

  at_most : (xs : List A) (x : A) (k : ℕ) → k < length xs → slice_index_or xs k x ≡ x → how_many (of x) ≤ how_many (flat_map of xs)
  at_most [] x k below is = absurd (omega arith)
  at_most (y ∷ ys) x k below is = let s = sum_by-append (λ b. cond (test b) 1 0) (of y) (flat_map of ys) in
      ⊎_elim (λ (e : y ≡ x). let q : how_many (of y) ≡ how_many (of x) = ap (λ z. how_many (of z)) e in omega arith)
      (λ (h : Contains ys x). let r = at_most ys x h.0 h.1 h.2 in omega arith)
      (first_or_later y ys x k below is)

  -- Where one of all is counted, it is with one member; a member that has another key counts none.
  pub one_of : (key : A → ℕ) (xs : List A) → how_many (flat_map of xs) ≡ 1
      → (x : A) × Contains xs x × (how_many (of x) ≡ 1) × ((y : A) → Contains xs y → key y ≢ key x → how_many (of y) ≡ 0)
  one_of key [] one = absurd (omega arith)
  one_of key (x ∷ xs) one = let s = sum_by-append (λ b. cond (test b) 1 0) (of x) (flat_map of xs) in
      dite (ℕ_discrete (how_many (of x)) 0)
      (λ none. let r = one_of key xs (omega arith) in (
        r.0,
        later_one x xs r.0 r.1,
        r.2,
        λ y h ne. ⊎_elim (λ (e : x ≡ y). sym (ap (λ z. how_many (of z)) e) ∙ none) (λ (z : Contains xs y). r.3 y z ne) (first_or_later x xs y h.0 h.1 h.2),
      ))
      (λ some. let apart : how_many (of x) ≢ 0 = some in (
        x,
        first_one x xs,
        omega arith,
        λ y h ne. ⊎_elim (λ (e : x ≡ y). absurd (ne (sym (ap key e)))) (λ (z : Contains xs y). let m = at_most xs y z.0 z.1 z.2 in omega arith) (first_or_later x xs y h.0 h.1 h.2),
      ))

-- what is true of all images is true of the images of all
pub all_of-map : {A B : Type 0} (P : B → Type 0) (f : A → B) (xs : List A) → All P (map f xs) → All (λ x. P (f x)) xs
all_of-map P f [] all = All-nil (λ x. P (f x))
all_of-map P f (x ∷ xs) all = All-cons (λ x. P (f x)) x xs (All-head P (f x) (map f xs) all) (all_of-map P f xs (All-tail P (f x) (map f xs) all))

module _ {A : Type 0} where
  abbrev last_or : A → List A → A
  last_or d [] = d
  last_or d (z ∷ zs) = last_or z zs

  last_is : (zs : List A) (d z : A) → last_or d (zs ++ z ∷ []) ≡ z
  last_is [] d z = refl
  last_is (w ∷ ws) d z = last_is ws w z

  -- lists with a last element that are the same have the same one
  pub last_same : (xs ys : List A) (x y : A) → xs ++ x ∷ [] ≡ ys ++ y ∷ [] → x ≡ y
  last_same xs ys x y e = sym (last_is xs x x) ∙ (ap (last_or x) e ∙ last_is ys x y)

-- what is left where the first element was removed
pub first_removed : {A : Type 0} (old new : List A) (x : A) → 0 < length old → x ≡ slice_index_or old 0 x → new ≡ take 0 old ++ drop 1 old → old ≡ x ∷ new
first_removed [] new x some here rest = absurd (omega arith)
first_removed (y ∷ ys) new x some here rest = λ i. sym here i ∷ sym rest i

-- the sum of numbers that aren't 0 is at least one of them and as many others as there are
pub sum_at_least : {A : Type 0} (f : A → ℕ) (xs : List A) (x : A) → All (λ y. 0 < f y) xs → Contains xs x → length xs + f x ≤ sum_by f xs + 1
sum_at_least {A} f xs x all here = by xs x (recursion_from_All (λ y. 0 < f y) xs all) here.0 here.1 here.2
  where
    count_all : (ys : List A) → AllByRecursion (λ y. 0 < f y) ys → length ys ≤ sum_by f ys
    count_all [] all = omega arith
    count_all (y ∷ ys) all = let s = sum_by-cons f y ys in let r = count_all ys all.1 in let h : 0 < f y = all.0 in omega arith

    by : (ys : List A) (x : A) → AllByRecursion (λ y. 0 < f y) ys → (k : ℕ) → k < length ys → slice_index_or ys k x ≡ x → length ys + f x ≤ sum_by f ys + 1
    by [] x all k below is = absurd (omega arith)
    by (y ∷ ys) x all zero below is = let s = sum_by-cons f y ys in let r = count_all ys all.1 in let e : f y ≡ f x = ap f is in omega arith
    by (y ∷ ys) x all (suc k) below is = let s = sum_by-cons f y ys in let r = by ys x all.1 k (omega arith) is in let h : 0 < f y = all.0 in omega arith
