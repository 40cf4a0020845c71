-- Names in order: how a loop keeps each once.
use Rattle.std.proofs.Common.{◌≡◌, ℕ, zero, suc, ◌+◌, ◌-◌, ◌<◌, ◌≤◌, ◌⊎◌, inl, inr, List, [], ◌∷◌, ◌++◌, length, map, get_or, take, false, Option, Some, None, Result, Ok, Err, refl, sym, ap, ◌∙◌, subst, arith, length-append}
use Rattle.std.specs.Prelude.{Contains, IfOk, OnSome}
use Rattle.std.specs.List.Sorted.{IsSorted, IsSortedBy}
use Rattle.std.specs.Ordering.{nat_cmp, is_lt, ordering_reverse}
use Rattle.std.specs.Cmp.Lexicographic.{slice_cmp}
use Rattle.std.specs.declared.cmp.Ordering.{Ordering}
use Rattle.std.specs.declared.cmp.Ordering.TheVariants.{Less, Equal, Greater}
use Rattle.std.proofs.lemmas.Cmp.{nat_list_cmp_total}
use Rattle.std.proofs.lemmas.Map.Lookups.{exact_bytes}
use Rattle.std.proofs.lemmas.List.{take_more, get_or-map}
use Rattle.std.proofs.lemmas.Bool.{cases_lt}
use Rattle.std.proofs.lemmas.List.Elements.{Contains-append_left, Contains-append_right, Contains-append_cases}
use Rattle.std.proofs.Math.ListN.{get_or-append}
use Rattle.std.proofs.Math.Seq.{get_or-append_seam}
use Rattle.std.proofs.lemmas.List.{map-append, length-map, take_all}
use Rattle.name_order.specs.Names.{AreRisingBy, EndsWith, SameMembers}

abbrev cmp : List ℕ → List ℕ → Ordering
cmp a b = slice_cmp nat_cmp a b

-- ---- keeping each once

-- one more name, greater than the last
pub rising-push : {X : Type 0} (bytes : X → List ℕ) (xs : List X) (y : X) → AreRisingBy bytes xs → (0 < length xs → (d : X) → cmp (bytes (get_or xs (length xs - 1) d)) (bytes y) ≡ Less) → AreRisingBy bytes (xs ++ y ∷ [])
rising-push {X} bytes xs y rising above i j d lt within = by_place (cases_lt j (length xs))
  where
    long : length (xs ++ y ∷ []) ≡ length xs + 1
    long = length-append xs (y ∷ [])

    by_front : i < length xs → j ≡ length xs → (i + 1 < length xs) ⊎ (length xs ≤ i + 1) → cmp (bytes (get_or xs i d)) (bytes y) ≡ Less
    by_front low e (inl inner) = nat_list_cmp_total.trans (bytes (get_or xs i d)) (bytes (get_or xs (length xs - 1) d)) (bytes y) (rising i (length xs - 1) d (omega arith) (omega arith)) (above (omega arith) d)
    by_front low e (inr top) = let at : i ≡ length xs - 1 = omega arith in rw at (above (omega arith) d)

    by_place : (j < length xs) ⊎ (length xs ≤ j) → cmp (bytes (get_or (xs ++ y ∷ []) i d)) (bytes (get_or (xs ++ y ∷ []) j d)) ≡ Less
    by_place (inl low) =
        let a : get_or (xs ++ y ∷ []) i d ≡ get_or xs i d = get_or-append xs (y ∷ []) d i (omega arith) in
        let b : get_or (xs ++ y ∷ []) j d ≡ get_or xs j d = get_or-append xs (y ∷ []) d j low in
        rw (a, b) (rising i j d lt low)
    by_place (inr high) =
        let e : j ≡ length xs = omega (arith, long, within) in
        let a : get_or (xs ++ y ∷ []) i d ≡ get_or xs i d = get_or-append xs (y ∷ []) d i (omega arith) in
        let b : get_or (xs ++ y ∷ []) j d ≡ y = ap (λ (k : ℕ). get_or (xs ++ y ∷ []) k d) e ∙ get_or-append_seam xs y [] d in
        rw (a, b) (by_front (omega arith) e (cases_lt (i + 1) (length xs)))

-- what stands before i of the sorted names, each once
pub record Keeps {X : Type 0} (bytes : X → List ℕ) (ns : List (List ℕ)) (i : ℕ) (kept : List X) : Type 0 where
  pub rising : AreRisingBy bytes kept
  pub same : SameMembers (take i ns) (map bytes kept)
  pub none : i ≡ 0 → length kept ≡ 0
  pub ends : 0 < i → EndsWith bytes kept (get_or ns (i - 1) [])

contains-one : (x n : List ℕ) → Contains (x ∷ []) n → x ≡ n
contains-one x n (zero, h, e) = e
contains-one x n (suc k, h, e) = absurd (omega (arith, h))

contains-last : {X : Type 0} (bytes : X → List ℕ) (kept : List X) (n : List ℕ) → EndsWith bytes kept n → Contains (map bytes kept) n
contains-last bytes [] n h = absurd (omega (arith, h.0))
contains-last bytes (y ∷ ys) n h = (length (y ∷ ys) - 1, omega (arith, length-map (y ∷ ys) bytes), get_or-map bytes (y ∷ ys) (length (y ∷ ys) - 1) y n (omega arith) ∙ h.1 y)

module _ {X : Type 0} (bytes : X → List ℕ) (ns : List (List ℕ)) where
  pub keeps-start : Keeps bytes ns 0 []
  keeps-start = record {
    rising = λ i j d lt within. absurd (omega arith);
    same = λ n. (λ h. h, λ h. h);
    none = λ h. refl;
    ends = λ h. absurd (omega arith);
  }

  -- a name as the last one
  pub keeps-old : (i : ℕ) (kept : List X) → i < length ns → EndsWith bytes kept (get_or ns i []) → Keeps bytes ns i kept → Keeps bytes ns (i + 1) kept
  keeps-old i kept lt ends k = record {
    rising = k.rising;
    same = λ n. (to n, from n);
    none = λ h. absurd (omega arith);
    ends = λ h. (let e : i + 1 - 1 ≡ i = omega arith in rw e ends);
  }
    where
      front : take (i + 1) ns ≡ take i ns ++ get_or ns i [] ∷ []
      front = take_more ns i [] lt

      by_part : (n : List ℕ) → Contains (take i ns) n ⊎ Contains (get_or ns i [] ∷ []) n → Contains (map bytes kept) n
      by_part n (inl h) = (k.same n).0 h
      by_part n (inr h) = subst (λ (m : List ℕ). Contains (map bytes kept) m) (contains-one (get_or ns i []) n h) (contains-last bytes kept (get_or ns i []) ends)

      to : (n : List ℕ) → Contains (take (i + 1) ns) n → Contains (map bytes kept) n
      to n h = by_part n (Contains-append_cases (take i ns) (get_or ns i [] ∷ []) n (subst (λ (l : List (List ℕ)). Contains l n) front h))

      from : (n : List ℕ) → Contains (map bytes kept) n → Contains (take (i + 1) ns) n
      from n h = subst (λ (l : List (List ℕ)). Contains l n) (sym front) (Contains-append_left (take i ns) (get_or ns i [] ∷ []) n ((k.same n).1 h))

  -- another name, which is greater
  pub keeps-new : (i : ℕ) (kept : List X) (y : X) → i < length ns → bytes y ≡ get_or ns i [] → IsSorted cmp ns → ¬ (EndsWith bytes kept (get_or ns i [])) → Keeps bytes ns i kept → Keeps bytes ns (i + 1) (kept ++ y ∷ [])
  keeps-new i kept y lt is sorted new k = record {
    rising = rising-push bytes kept y k.rising above;
    same = λ n. (to n, from n);
    none = λ h. absurd (omega arith);
    ends = λ h. (
      omega (arith, length-append kept (y ∷ [])),
      λ d.
          let e : length (kept ++ y ∷ []) - 1 ≡ length kept = omega (arith, length-append kept (y ∷ [])) in
          let f : i + 1 - 1 ≡ i = omega arith in
          rw (e, f, get_or-append_seam kept y [] d) is,
    );
  }
    where
      front : take (i + 1) ns ≡ take i ns ++ bytes y ∷ []
      front = take_more ns i [] lt ∙ ap (λ (n : List ℕ). take i ns ++ n ∷ []) (sym is)

      mapped : map bytes (kept ++ y ∷ []) ≡ map bytes kept ++ bytes y ∷ []
      mapped = map-append bytes kept (y ∷ [])

      to : (n : List ℕ) → Contains (take (i + 1) ns) n → Contains (map bytes (kept ++ y ∷ [])) n
      to n h = subst (λ (l : List (List ℕ)). Contains l n) (sym mapped) (by_part (Contains-append_cases (take i ns) (bytes y ∷ []) n (subst (λ (l : List (List ℕ)). Contains l n) front h)))
        where
          by_part : Contains (take i ns) n ⊎ Contains (bytes y ∷ []) n → Contains (map bytes kept ++ bytes y ∷ []) n
          by_part (inl g) = Contains-append_left (map bytes kept) (bytes y ∷ []) n ((k.same n).0 g)
          by_part (inr g) = Contains-append_right (map bytes kept) (bytes y ∷ []) n g

      from : (n : List ℕ) → Contains (map bytes (kept ++ y ∷ [])) n → Contains (take (i + 1) ns) n
      from n h = subst (λ (l : List (List ℕ)). Contains l n) (sym front) (by_part (Contains-append_cases (map bytes kept) (bytes y ∷ []) n (subst (λ (l : List (List ℕ)). Contains l n) mapped h)))
        where
          by_part : Contains (map bytes kept) n ⊎ Contains (bytes y ∷ []) n → Contains (take i ns ++ bytes y ∷ []) n
          by_part (inl g) = Contains-append_left (take i ns) (bytes y ∷ []) n ((k.same n).1 g)
          by_part (inr g) = Contains-append_right (take i ns) (bytes y ∷ []) n g

      is_less : (o : Ordering) → is_lt (ordering_reverse o) ≡ false → (o ≡ Equal → ⊥) → o ≡ Less
      is_less Less h ne = refl
      is_less Equal h ne = absurd (ne refl)
      is_less Greater h ne = cc

      -- some name was kept, so that one stands before
      later : 0 < length kept → 0 < i
      later some = by_place (cases_lt 0 i)
        where
          by_place : (0 < i) ⊎ (i ≤ 0) → 0 < i
          by_place (inl p) = p
          by_place (inr z) = absurd (omega (arith, k.none (omega arith), some))

      not_back : 0 < i → is_lt (cmp (get_or ns i []) (get_or ns (i - 1) [])) ≡ false
      not_back p = let e : i - 1 + 1 ≡ i = omega arith in rw e at (sorted (i - 1) [] (omega arith) (omega arith))

      above : 0 < length kept → (d : X) → cmp (bytes (get_or kept (length kept - 1) d)) (bytes y) ≡ Less
      above some d =
          let p : 0 < i = later some in
          let ends = k.ends p in
          let differ : get_or ns (i - 1) [] ≡ get_or ns i [] → ⊥ = λ e. new (some, λ x. ends.1 x ∙ e) in
          let back : is_lt (ordering_reverse (cmp (get_or ns (i - 1) []) (get_or ns i []))) ≡ false = ap is_lt (sym (nat_list_cmp_total.antisymm (get_or ns i []) (get_or ns (i - 1) []))) ∙ not_back p in
          rw (ends.1 d, is) (is_less (cmp (get_or ns (i - 1) []) (get_or ns i [])) back (λ e. differ (exact_bytes (get_or ns (i - 1) []) (get_or ns i []) e)))

  pub keeps-all : (kept : List X) (i : ℕ) → length ns ≤ i → Keeps bytes ns i kept → SameMembers ns (map bytes kept)
  keeps-all kept i all k = subst (λ (l : List (List ℕ)). SameMembers l (map bytes kept)) (take_all i ns all) k.same

-- a sorted list of parts is a sorted list of their bytes
pub sorted-map : {X : Type 0} (bytes : X → List ℕ) (xs : List X) → IsSortedBy (λ a b. is_lt (cmp (bytes a) (bytes b))) xs → IsSorted cmp (map bytes xs)
sorted-map bytes [] h k d low high = absurd (omega (arith, high))
sorted-map bytes (x ∷ xs) h k d low high =
    let long = length-map (x ∷ xs) bytes in
    rw (get_or-map bytes (x ∷ xs) (k + 1) x d (omega (arith, long, high)), get_or-map bytes (x ∷ xs) k x d (omega (arith, long, high))) (h k x low (omega (arith, long, high)))

-- the bytes of the element at i
pub bytes_at : {X : Type 0} (bytes : X → List ℕ) (xs : List X) (i : ℕ) (d : X) → i < length xs → get_or (map bytes xs) i [] ≡ bytes (get_or xs i d)
bytes_at bytes xs i d lt = get_or-map bytes xs i d [] lt

-- the same steps over parts of a document
module _ {X Y : Type 0} (bytes : X → List ℕ) (now : Y → List ℕ) (parts : List Y) where
  pub step-old : (i : ℕ) (kept : List X) (d : Y) → i < length parts → EndsWith bytes kept (now (get_or parts i d)) → Keeps bytes (map now parts) i kept → Keeps bytes (map now parts) (i + 1) kept
  step-old i kept d lt ends k =
      let same : get_or (map now parts) i [] ≡ now (get_or parts i d) = bytes_at now parts i d lt in
      keeps-old bytes (map now parts) i kept (omega (arith, length-map parts now)) (subst (λ (n : List ℕ). EndsWith bytes kept n) (sym same) ends) k

  pub step-new : (i : ℕ) (kept : List X) (d : Y) (y : X) → i < length parts → bytes y ≡ now (get_or parts i d) → IsSortedBy (λ a b. is_lt (cmp (now a) (now b))) parts → ¬ (EndsWith bytes kept (now (get_or parts i d))) → Keeps bytes (map now parts) i kept → Keeps bytes (map now parts) (i + 1) (kept ++ y ∷ [])
  step-new i kept d y lt is sorted new k =
      let same : get_or (map now parts) i [] ≡ now (get_or parts i d) = bytes_at now parts i d lt in
      keeps-new bytes (map now parts) i kept y (omega (arith, length-map parts now)) (is ∙ sym same) (sorted-map now parts sorted) (λ e. new (subst (λ (n : List ℕ). EndsWith bytes kept n) same e)) k

  pub all-same : (kept : List X) (i : ℕ) → length parts ≤ i → Keeps bytes (map now parts) i kept → SameMembers (map now parts) (map bytes kept)
  all-same kept i all k = keeps-all bytes (map now parts) kept i (omega (arith, length-map parts now)) k

pub ok_then : {V E : Type 0} (r : Result V E) (P Q : V → Type 0) → ((v : V) → P v → Q v) → IfOk r P → IfOk r Q
ok_then (Ok v) P Q f h = f v h
ok_then (Err e) P Q f h = tt

pub ok_both : {V E : Type 0} (r : Result V E) (P Q R : V → Type 0) → ((v : V) → P v → Q v → R v) → IfOk r P → IfOk r Q → IfOk r R
ok_both (Ok v) P Q R f h k = f v h k
ok_both (Err e) P Q R f h k = tt

pub ok_some : {X : Type 0} {P : Type 0} (o : Option X) (x : X) → o ≡ Some x → OnSome o P → P
ok_some (Some y) x e h = h
ok_some None x e h = cc
