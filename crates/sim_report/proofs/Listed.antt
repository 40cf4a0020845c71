-- Each value that a pass has is listed once.
use Rattle.std.proofs.Common.{◌≡◌, inl, inr, ℕ, zero, suc, ◌+◌, ◌<◌, ◌≤◌, List, length, cond, Option, Some, None, nat_le, nat_lt, refl, sym, ap, ◌∙◌, subst, arith}
use Rattle.std.proofs.lemmas.Bool.{cond-true, cond-false, le-leb, lt-leb, lt-ltb, le-ltb, cases_lt, cases_eq}
use Rattle.shfl_line.specs.declared.words.Attr.{Attr}
use Rattle.sim_setup.specs.Cores.{attr_at}
use Rattle.sim_report.specs.declared.tallies.Key.{Key}
use Rattle.sim_report.specs.Sums.{TalliesAddUp}
use Rattle.sim_report.specs.Tallies.{value_of, lesser, least_from, of_value, values_from, values_of}
use Rattle.sim_report.proofs.Totals.{Absent, Once, each-counted}

-- a value of one of the first n passes, and the least from this one on
record Least (f : ℕ → ℕ) (first n v : ℕ) : Type 0 where
  from : first ≤ v
  at : ℕ
  below : at < n
  is : f at ≡ v
  least : (k : ℕ) → k < n → first ≤ f k → v ≤ f k

abbrev IsLeast : (ℕ → ℕ) → ℕ → ℕ → Option ℕ → Type 0
IsLeast f first n None = (k : ℕ) → k < n → f k < first
IsLeast f first n (Some v) = Least f first n v

-- in how many of the first n passes the value is at least this
abbrev count : (ℕ → ℕ) → ℕ → ℕ → ℕ
count f first zero = 0
count f first (suc n) = cond (nat_le first (f n)) (suc (count f first n)) (count f first n)

module _ (f : ℕ → ℕ) (first : ℕ) where
  -- a pass more, whose value is too small
  low : (n : ℕ) (o : Option ℕ) → f n < first → IsLeast f first n o → IsLeast f first (suc n) o
  low n None lt h = λ k below. elim (cases_eq k n) as (λ _. f k < first) [ inl e ↦ subst (λ (j : ℕ). f j < first) (sym e) lt | inr ne ↦ h k (omega (arith, below, ne)) ]
  low n (Some v) lt h = record {
    from = h.from;
    at = h.at;
    below = omega (arith, h.below);
    is = h.is;
    least = λ k below le. elim (cases_eq k n) as (λ _. v ≤ f k) [
      | inl e ↦ absurd (let big : first ≤ f n = subst (λ (j : ℕ). first ≤ f j) e le in omega (arith, big, lt))
      | inr ne ↦ h.least k (omega (arith, below, ne)) le
    ];
  }

  -- one whose value is the first that is large enough
  alone : (n : ℕ) → first ≤ f n → IsLeast f first n None → Least f first (suc n) (f n)
  alone n le h = record {
    from = le;
    at = n;
    below = omega arith;
    is = refl;
    least = λ k below big. elim (cases_eq k n) as (λ _. f n ≤ f k) [
      | inl e ↦ subst (λ (j : ℕ). f n ≤ f j) (sym e) (omega arith)
      | inr ne ↦ absurd (let small = h k (omega (arith, below, ne)) in omega (arith, small, big))
    ];
  }

  -- one whose value is less than the least so far
  less : (n v : ℕ) → first ≤ f n → f n < v → Least f first n v → Least f first (suc n) (f n)
  less n v le lt h = record {
    from = le;
    at = n;
    below = omega arith;
    is = refl;
    least = λ k below big. elim (cases_eq k n) as (λ _. f n ≤ f k) [
      | inl e ↦ subst (λ (j : ℕ). f n ≤ f j) (sym e) (omega arith)
      | inr ne ↦ (let more = h.least k (omega (arith, below, ne)) big in omega (arith, more, lt))
    ];
  }

  -- one whose value isn't
  more : (n v : ℕ) → v ≤ f n → Least f first n v → Least f first (suc n) v
  more n v le h = record {
    from = h.from;
    at = h.at;
    below = omega (arith, h.below);
    is = h.is;
    least = λ k below big. elim (cases_eq k n) as (λ _. v ≤ f k) [
      | inl e ↦ subst (λ (j : ℕ). v ≤ f j) (sym e) le
      | inr ne ↦ h.least k (omega (arith, below, ne)) big
    ];
  }

  with-one : (n : ℕ) (o : Option ℕ) → first ≤ f n → IsLeast f first n o → IsLeast f first (suc n) (lesser o (f n))
  with-one n None le h = alone n le h
  with-one n (Some v) le h = elim (cases_lt (f n) v) as (λ _. Least f first (suc n) (cond (nat_lt (f n) v) (f n) v)) [
    | inl lt ↦ subst (Least f first (suc n)) (sym (cond-true (nat_lt (f n) v) (f n) v (lt-ltb (f n) v lt))) (less n v le lt h)
    | inr ge ↦ subst (Least f first (suc n)) (sym (cond-false (nat_lt (f n) v) (f n) v (le-ltb (f n) v ge))) (more n v ge h)
  ]

module _ (key : Key) (attrs : List Attr) where
  abbrev value : ℕ → ℕ
  value k = value_of key (attr_at attrs k)

  is-least : (first n : ℕ) → IsLeast value first n (least_from key first attrs n)
  is-least first zero = λ k below. absurd (omega (arith, below))
  is-least first (suc n) = elim (cases_lt (value n) first) as (λ _. IsLeast value first (suc n) (least_from key first attrs (suc n))) [
    | inl lt ↦ subst (IsLeast value first (suc n)) (sym (cond-false (nat_le first (value n)) (lesser (least_from key first attrs n) (value n)) (least_from key first attrs n) (lt-leb first (value n) lt)))
        (low value first n (least_from key first attrs n) lt (is-least first n))
    | inr le ↦ subst (IsLeast value first (suc n)) (sym (cond-true (nat_le first (value n)) (lesser (least_from key first attrs n) (value n)) (least_from key first attrs n) (le-leb first (value n) le)))
        (with-one value first n (least_from key first attrs n) le (is-least first n))
  ]

-- ---- how many values are left

module _ (f : ℕ → ℕ) (first : ℕ) where
  count-yes : (n : ℕ) → first ≤ f n → count f first (suc n) ≡ suc (count f first n)
  count-yes n le = cond-true (nat_le first (f n)) (suc (count f first n)) (count f first n) (le-leb first (f n) le)

  count-no : (n : ℕ) → f n < first → count f first (suc n) ≡ count f first n
  count-no n lt = cond-false (nat_le first (f n)) (suc (count f first n)) (count f first n) (lt-leb first (f n) lt)

count-most : (f : ℕ → ℕ) (first n : ℕ) → count f first n ≤ n
count-most f first zero = omega arith
count-most f first (suc n) = elim (cases_lt (f n) first) as (λ _. count f first (suc n) ≤ suc n) [
  | inl lt ↦ (let e = count-no f first n lt in let ih = count-most f first n in omega (arith, e, ih))
  | inr le ↦ (let e = count-yes f first n le in let ih = count-most f first n in omega (arith, e, ih))
]

-- no more of them are large enough for the next
count-up : (f : ℕ → ℕ) (first v n : ℕ) → first ≤ v → count f (v + 1) n ≤ count f first n
count-up f first v zero le = omega arith
count-up f first v (suc n) le = elim (cases_lt (f n) (v + 1)) as (λ _. count f (v + 1) (suc n) ≤ count f first (suc n)) [
  | inl lt ↦ (let d = count-no f (v + 1) n lt in let ih = count-up f first v n le in elim (cases_lt (f n) first) as (λ _. count f (v + 1) (suc n) ≤ count f first (suc n)) [
    | inl low ↦ (let e = count-no f first n low in omega (arith, d, e, ih))
    | inr high ↦ (let e = count-yes f first n high in omega (arith, d, e, ih))
  ])
  | inr ge ↦ (let d = count-yes f (v + 1) n ge in let high : first ≤ f n = omega (arith, le, ge) in let e = count-yes f first n high in let ih = count-up f first v n le in omega (arith, d, e, ih))
]

-- and fewer where one of them has this value
count-less : (f : ℕ → ℕ) (first v n at : ℕ) → first ≤ v → at < n → f at ≡ v → count f (v + 1) n < count f first n
count-less f first v zero at le lt is = absurd (omega (arith, lt))
count-less f first v (suc n) at le lt is = elim (cases_eq at n) as (λ _. count f (v + 1) (suc n) < count f first (suc n)) [
  | inl same ↦ (
      let own : f n ≡ v = ap f (sym same) ∙ is in
      let small : f n < v + 1 = omega (arith, own) in
      let high : first ≤ f n = omega (arith, own, le) in
      let d = count-no f (v + 1) n small in let e = count-yes f first n high in let up = count-up f first v n le in omega (arith, d, e, up))
  | inr ne ↦ (
      let ih : count f (v + 1) n < count f first n = count-less f first v n at le (omega (arith, lt, ne)) is in
      elim (cases_lt (f n) (v + 1)) as (λ _. count f (v + 1) (suc n) < count f first (suc n)) [
        | inl small ↦ (let d = count-no f (v + 1) n small in elim (cases_lt (f n) first) as (λ _. count f (v + 1) (suc n) < count f first (suc n)) [
          | inl low ↦ (let e = count-no f first n low in omega (arith, d, e, ih))
          | inr high ↦ (let e = count-yes f first n high in omega (arith, d, e, ih))
        ])
        | inr ge ↦ (let d = count-yes f (v + 1) n ge in let high : first ≤ f n = omega (arith, le, ge) in let e = count-yes f first n high in omega (arith, d, e, ih))
      ])
]

-- ---- the list

module _ (key : Key) (attrs : List Attr) where
  abbrev own : ℕ → ℕ
  own k = value_of key (attr_at attrs k)

  abbrev listed : ℕ → Option ℕ → List ℕ
  listed m o = of_value o (λ v. values_from key attrs m (v + 1))

  too-small : (m first x : ℕ) → x < first → Absent x (values_from key attrs m first)
  too-small zero first x lt = tt
  too-small (suc m) first x lt = by (λ v le. too-small m (v + 1) x (omega (arith, lt, le))) (least_from key first attrs (length attrs)) (is-least key attrs first (length attrs)) where
    by : ((v : ℕ) → first ≤ v → Absent x (values_from key attrs m (v + 1))) → (o : Option ℕ) → IsLeast own first (length attrs) o → Absent x (listed m o)
    by ih None h = tt
    by ih (Some v) h = (λ e. (let le = h.from in omega (arith, e, lt, le)), ih v h.from)

  listed-once : (m first : ℕ) → count own first (length attrs) ≤ m → (k : ℕ) → k < length attrs → first ≤ own k → Once (own k) (values_from key attrs m first)
  listed-once zero first few k lt le = absurd (let some = count-less own first (own k) (length attrs) k le lt refl in omega (arith, some, few))
  listed-once (suc m) first few k lt le =
      by (λ v fewer up. listed-once m (v + 1) fewer k lt up) (least_from key first attrs (length attrs)) (is-least key attrs first (length attrs)) where
        by : ((v : ℕ) → count own (v + 1) (length attrs) ≤ m → v + 1 ≤ own k → Once (own k) (values_from key attrs m (v + 1)))
            → (o : Option ℕ) → IsLeast own first (length attrs) o → Once (own k) (listed m o)
        by ih None h = absurd (let small = h k lt in omega (arith, small, le))
        by ih (Some v) h = elim (cases_eq (own k) v) as (λ _. Once (own k) (listed m (Some v))) [
          | inl e ↦ inl (e, too-small m (v + 1) (own k) (omega (arith, e)))
          | inr ne ↦ (
              let fewer = count-less own first v (length attrs) h.at h.from h.below h.is in
              let large = h.least k lt le in
              inr (ne, ih v (omega (arith, fewer, few)) (omega (arith, large, ne))))
        ]

pub tallies-add-up : TalliesAddUp
tallies-add-up key until attrs served = each-counted key until attrs served (values_of key attrs) (length attrs)
    (λ k lt. listed-once key attrs (length attrs) 0 (count-most (own key attrs) 0 (length attrs)) k lt (omega arith))
