-- Names in order, each once, and where each stands then.
use Rattle.std.proofs.Common.{◌≡◌, ℕ, zero, suc, ◌+◌, ◌-◌, ◌<◌, ◌≤◌, ◌⊎◌, inl, inr, List, [], ◌∷◌, ◌++◌, length, map, get_or, set, refl, sym, ap, ◌∙◌, subst, arith, length-append}
use Rattle.std.specs.Prelude.{All, Contains, slice_index}
use Rattle.std.specs.List.{AllWithin}
use Rattle.std.specs.List.Sorted.{IsSorted, IsSortedBy, IsPermutation}
use Rattle.std.proofs.lemmas.List.{length-map, get_or-map, get_or_default, get_or-set_same, get_or-set_other}
use Rattle.std.proofs.lemmas.List.Elements.{All-contains}
use Rattle.std.proofs.lemmas.List.Sorted.{All-permutation, Contains-permutation}
use Rattle.std.proofs.lemmas.Bool.{cases_lt, cases_eq}
use Rattle.std.proofs.Math.ListN.{get_or-append}
use Rattle.std.proofs.Math.Seq.{get_or-append_seam}
use Rattle.std.specs.Ordering.{nat_cmp, is_lt}
use Rattle.std.specs.Cmp.Lexicographic.{slice_cmp}
use Rattle.name_order.specs.declared.ordered.Placed.{Placed}
use Rattle.name_order.specs.Names.{EndsWith, SameMembers}
use Rattle.name_order.specs.Names.{name_at}
use Rattle.name_order.specs.Places.{StandsAt, ArePlaces, rank, ArePlaced, HaveOneName, AreHeaded, IsTold}
use Rattle.name_order.proofs.Heads.{names_behind}
use Rattle.name_order.proofs.Placing.{read_stands}

-- ---- names with their places

-- the names before `i` with their places
pub record PlacedBefore (names : List (List ℕ)) (i : ℕ) (ps : List Placed) : Type 0 where
  pub many : length ps ≡ i
  pub each : (k : ℕ) (d : Placed) → k < i → ((get_or ps k d).place ≡ k) × ((get_or ps k d).name.items ≡ name_at names k)

pub placed-none : (names : List (List ℕ)) → PlacedBefore names 0 []
placed-none names = record { many = refl; each = λ k d lt. absurd (omega (arith, lt)) }

pub placed-more : (names : List (List ℕ)) (i : ℕ) (ps : List Placed) (p : Placed) → p.place ≡ i → p.name.items ≡ name_at names i → PlacedBefore names i ps → PlacedBefore names (i + 1) (ps ++ p ∷ [])
placed-more names i ps p place name b = record { many = omega (arith, length-append ps (p ∷ []), b.many); each = λ k d lt. by_place k d lt (cases_lt k i) }
  where
    by_place : (k : ℕ) (d : Placed) → k < i + 1 → (k < i) ⊎ (i ≤ k) → ((get_or (ps ++ p ∷ []) k d).place ≡ k) × ((get_or (ps ++ p ∷ []) k d).name.items ≡ name_at names k)
    by_place k d lt (inl low) = let e : get_or (ps ++ p ∷ []) k d ≡ get_or ps k d = get_or-append ps (p ∷ []) d k (omega (arith, low, b.many)) in rw e (b.each k d low)
    by_place k d lt (inr high) =
        let at : k ≡ length ps = omega (arith, lt, high, b.many) in
        let on : length ps ≡ i = b.many in
        let e : get_or (ps ++ p ∷ []) k d ≡ p = ap (λ (j : ℕ). get_or (ps ++ p ∷ []) j d) at ∙ get_or-append_seam ps p [] d in
        rw e (place ∙ sym on ∙ sym at, name ∙ sym (ap (name_at names) (at ∙ on)))

-- the element at a place
at-place : (ps : List Placed) (k : ℕ) → k < length ps → (p : Placed) × ((d : Placed) → get_or ps k d ≡ p)
at-place [] k lt = absurd (omega (arith, lt))
at-place (p ∷ ps) zero lt = (p, λ d. refl)
at-place (p ∷ ps) (suc k) lt = at-place ps k (omega (arith, lt))

pub all-placed : (names : List (List ℕ)) (i : ℕ) (ps : List Placed) → i ≡ length names → PlacedBefore names i ps → ArePlaced names ps
all-placed names i ps all b = record {
  each = λ k d lt. (let inside : k < i = omega (arith, lt, b.many) in let e = b.each k d inside in (omega (arith, e.0, inside, all), ap (name_at names) e.0 ∙ sym e.1));
  whole = λ k lt. (let inside : k < length ps = omega (arith, lt, all, b.many) in let p = at-place ps k inside in (p.0, (k, inside, p.1 p.0), ap (λ (q : Placed). q.place) (sym (p.1 p.0)) ∙ (b.each k p.0 (omega (arith, lt, all))).0));
}

-- ---- sorted, they are the same names

pub placed-permuted : (names : List (List ℕ)) (ps qs : List Placed) → IsPermutation ps qs → ArePlaced names ps → ArePlaced names qs
placed-permuted names ps qs p a = record {
  each = All-permutation (λ q. StandsAt names q.place q.name.items) ps qs p a.each;
  whole = λ k lt. (let w = a.whole k lt in (w.0, Contains-permutation ps qs w.0 p w.1, w.2));
}

-- the same place is of the same name
pub placed-apart : (names : List (List ℕ)) (ps : List Placed) → ArePlaced names ps → HaveOneName ps
placed-apart names ps a p q inp inq e =
    let s = All-contains (λ x. StandsAt names x.place x.name.items) ps p a.each inp in
    let t = All-contains (λ x. StandsAt names x.place x.name.items) ps q a.each inq in
    sym s.1 ∙ ap (name_at names) e ∙ t.1

pub placed-within : (names : List (List ℕ)) (ps : List Placed) (n : ℕ) → n ≡ length names → ArePlaced names ps → All (λ p. p.place < n) ps
placed-within names ps n e a k d lt = omega (arith, e, (a.each k d lt).0)

pub placed-same : (names : List (List ℕ)) (ps : List Placed) → ArePlaced names ps → SameMembers names (map (λ p. p.name.items) ps)
placed-same names ps a n = (to, from)
  where
    name : Placed → List ℕ
    name p = p.name.items

    to : Contains names n → Contains (map (λ p. p.name.items) ps) n
    to (k, lt, e) =
        let w = a.whole k lt in
        let s = All-contains (λ x. StandsAt names x.place x.name.items) ps w.0 a.each w.1 in
        let is : w.0.name.items ≡ n = sym s.1 ∙ ap (name_at names) w.2 ∙ get_or_default names k [] n lt ∙ e in
        (w.1.0, omega (arith, w.1.1, length-map ps name), get_or-map (λ p. p.name.items) ps w.1.0 w.0 n w.1.1 ∙ ap (λ (p : Placed). p.name.items) w.1.2 ∙ is)

    from : Contains (map (λ p. p.name.items) ps) n → Contains names n
    from (k, lt, e) =
        let inside : k < length ps = omega (arith, lt, length-map ps name) in
        let d : Placed = (at-place ps k inside).0 in
        let s = a.each k d inside in
        ((get_or ps k d).place, s.0, get_or_default names (get_or ps k d).place n [] s.0 ∙ s.1 ∙ sym (get_or-map (λ p. p.name.items) ps k d n inside) ∙ e)

-- by the whole order they are in order of their names
pub sorted-names : (ps : List Placed) → IsSorted rank ps → AreHeaded ps → IsSortedBy (λ a b. is_lt (slice_cmp nat_cmp a.name.items b.name.items)) ps
sorted-names ps s (front, headed) k d low high =
    names_behind front (get_or ps (k + 1) d) (get_or ps k d) (headed (k + 1) d (omega (arith, high))) (headed k d (omega (arith, high))) (s k d low high)

-- ---- what is told at their places

-- the last name, which is this one
pub last-stands : {X : Type 0} (bytes : X → List ℕ) (xs : List X) (n : List ℕ) → EndsWith bytes xs n → StandsAt (map bytes xs) (length xs - 1) n
last-stands bytes [] n h = absurd (omega (arith, h.0))
last-stands bytes (x ∷ xs) n h = read_stands bytes (x ∷ xs) (length (x ∷ xs) - 1) x n (omega arith) (h.1 x)

pub new-stands : {X : Type 0} (bytes : X → List ℕ) (xs : List X) (y : X) (n : List ℕ) → bytes y ≡ n → StandsAt (map bytes (xs ++ y ∷ [])) (length (xs ++ y ∷ []) - 1) n
new-stands bytes xs y n e =
    let long = length-append xs (y ∷ []) in
    read_stands bytes (xs ++ y ∷ []) (length (xs ++ y ∷ []) - 1) y n (omega (arith, long)) (let at : length (xs ++ y ∷ []) - 1 ≡ length xs = omega (arith, long) in rw (at, get_or-append_seam xs y [] y) e)

module _ (ps : List Placed) (apart : HaveOneName ps) (i : ℕ) (own : Placed) (inside : i < length ps) (is : (d : Placed) → get_or ps i d ≡ own) (old new : List (List ℕ)) (more : List (List ℕ)) (grown : new ≡ old ++ more) (places : List ℕ) (m : ℕ) (lt : own.place < length places) (stands : StandsAt new m own.name.items) where
  pub told-more : AllWithin (IsTold old places) ps 0 i → AllWithin (IsTold new (set places own.place m)) ps 0 (i + 1)
  told-more told k d low high = by_place (cases_lt k i)
    where
      here : (p : Placed) → p.name.items ≡ own.name.items → p.place ≡ own.place → IsTold new (set places own.place m) p
      here p name place = let e : slice_index (set places own.place m) p.place ≡ m = ap (λ (j : ℕ). get_or (set places own.place m) j 0) place ∙ get_or-set_same places own.place m 0 lt in rw (e, name) stands

      among : (j : ℕ) (e : Placed) → j < length ps → Contains ps (get_or ps j e)
      among j e l = (j, l, get_or_default ps j (get_or ps j e) e l)

      own-in : Contains ps own
      own-in = (i, inside, is own)

      by_other : k < i → (((get_or ps k d).place ≡ own.place) ⊎ ((get_or ps k d).place ≡ own.place → ⊥)) → IsTold new (set places own.place m) (get_or ps k d)
      by_other less (inl same) = here (get_or ps k d) (apart (get_or ps k d) own (among k d (omega (arith, less, inside))) own-in same) same
      by_other less (inr other) =
          let e : slice_index (set places own.place m) (get_or ps k d).place ≡ slice_index places (get_or ps k d).place = get_or-set_other places own.place (get_or ps k d).place m 0 other in
          let s = told k d low less in
          rw (e, grown) (omega (arith, s.0, length-append old more), get_or-append old more [] (slice_index places (get_or ps k d).place) s.0 ∙ s.1)

      by_place : (k < i) ⊎ (i ≤ k) → IsTold new (set places own.place m) (get_or ps k d)
      by_place (inl less) = by_other less (cases_eq (get_or ps k d).place own.place)
      by_place (inr past) = let at : k ≡ i = omega (arith, high, past) in rw (at, is d) (here own refl refl)

-- all told, these are the places of the names
pub told-places : (names others : List (List ℕ)) (ps : List Placed) (places : List ℕ) → length places ≡ length names → ArePlaced names ps → All (IsTold others places) ps → ArePlaces names others places
told-places names others ps places many a told = record { many = many; each = λ k lt. by_name k lt (a.whole k lt) }
  where
    by_name : (k : ℕ) → k < length names → (p : Placed) × Contains ps p × (p.place ≡ k) → StandsAt others (slice_index places k) (name_at names k)
    by_name k lt (p, within, e) =
        let s = All-contains (IsTold others places) ps p told within in
        let t = All-contains (λ x. StandsAt names x.place x.name.items) ps p a.each within in
        let name : p.name.items ≡ name_at names k = sym t.1 ∙ ap (name_at names) e in
        subst (λ (j : ℕ). StandsAt others (slice_index places j) (name_at names k)) e (subst (λ (n : List ℕ). StandsAt others (slice_index places p.place) n) name s)
