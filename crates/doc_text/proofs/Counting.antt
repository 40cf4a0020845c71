-- What a loop over digits has read, and the one spelling of a number.
use Rattle.std.proofs.Common.{◌≡◌, ℕ, suc, ◌+◌, ◌-◌, ◌*◌, ◌^◌, ◌<◌, ◌≤◌, List, [], ◌∷◌, length, get_or, drop, drop-cons, Bool, true, false, cond, not, ◌&&◌, Some, None, leb, eqb, inl, inr, refl, sym, ap, ◌∙◌, arith, lit<}
use Rattle.std.specs.Fmt.{decimal}
use Rattle.std.specs.Str.{all_ascii_digits}
use Rattle.std.proofs.lemmas.Bool.{leb-true, eq-eqb, ne_eqb, le-leb}
use Rattle.std.proofs.lemmas.Bool.Decides.{nat_tests, eqb_tells}
use Rattle.std.proofs.lemmas.Str.Parse.{IsNumeralModel, numerals_by_fold, tells_all_ascii_digits}
use Rattle.std.proofs.lemmas.Fmt.{decimal-digits_value, first_decimal, digits_decimal, digits_value-decimal, decimal_digit}
use Rattle.doc_text.specs.Numbers.{value_on, is_padded, is_decimal, number_in}

pub own : IsNumeralModel (λ w. all_ascii_digits w ≡ true) (value_on 0)
own = numerals_by_fold (λ w. all_ascii_digits w ≡ true) tells_all_ascii_digits value_on (record { empty = λ n. refl; more = λ n c cs digit. refl })

-- more digits give no smaller number
pub value-grows : (n : ℕ) (w : List ℕ) → n ≤ value_on n w
value-grows n [] = omega arith
value-grows n (b ∷ bs) = omega (arith, value-grows (n * 10 + (b - 48)) bs)

both-true : (a b : Bool) → (a && b) ≡ true → (a ≡ true) × (b ≡ true)
both-true true b h = (refl, h)
both-true false b h = cc

plain-head : (w : List ℕ) → is_padded w ≡ false → (0 < length w) × (get_or w 0 0 ≡ 48 → length w ≡ 1)
plain-head [] e = cc
plain-head (b ∷ []) e = (omega arith, λ f. refl)
plain-head (b ∷ c ∷ bs) e = (omega arith, λ f. (let t : eqb b 48 ≡ true = eq-eqb b 48 f in cc))

-- a well spelled number is what `decimal` writes of its value
pub decimal-value : (w : List ℕ) → is_decimal w ≡ true → value_on 0 w < 2 ^ 64 → w ≡ decimal (value_on 0 w)
decimal-value w h small =
    let p = both-true (not (is_padded w)) (all_ascii_digits w) h in
    let q = plain-head w (not-true (is_padded w) p.0) in
    sym (decimal-digits_value own w p.1 q.0 q.1 small)
  where
    not-true : (b : Bool) → not b ≡ true → b ≡ false
    not-true true k = cc
    not-true false k = refl

not-padded : (u : List ℕ) → 48 < get_or u 0 0 → is_padded u ≡ false
not-padded [] h = absurd (omega (arith, h))
not-padded (b ∷ []) h = refl
not-padded (b ∷ c ∷ bs) h = ne_eqb b 48 (λ e. omega (arith, h, e))

-- what `decimal` writes is well spelled, and has that value
pub is_decimal-decimal : (n : ℕ) → n < 2 ^ 64 → (is_decimal (decimal n) ≡ true) × (value_on 0 (decimal n) ≡ n)
is_decimal-decimal n small =
    let digits : all_ascii_digits (decimal n) ≡ true = digits_decimal own n small in
    let value : value_on 0 (decimal n) ≡ n = digits_value-decimal own n small in
    let padded : is_padded (decimal n) ≡ false = elim (eqb_tells n 0) [
      | inl e ↦ rw (e.1, decimal_digit 0 (lit< tt)) refl
      | inr e ↦ (let some : 0 < n = omega (arith, e.1) in not-padded (decimal n) (first_decimal n some small))
    ] in
    (rw (padded, digits) refl, value)

-- the number that is read is spelled so
pub number_in-some : (most : ℕ) (w : List ℕ) (v : ℕ) → most < 2 ^ 64 → number_in most w ≡ Some v → (w ≡ decimal v) × (v ≤ most)
number_in-some most w v small h = by_tests (is_decimal w) (leb (value_on 0 w) most) refl refl h
  where
    by_tests : (d f : Bool) → is_decimal w ≡ d → leb (value_on 0 w) most ≡ f → cond (d && f) (Some (value_on 0 w)) None ≡ Some v → (w ≡ decimal v) × (v ≤ most)
    by_tests true true p q k =
        let e : value_on 0 w ≡ v = cc in
        let le : value_on 0 w ≤ most = leb-true _ _ q in
        (decimal-value w p (omega (arith, le, small)) ∙ ap decimal e, omega (arith, e, le))
    by_tests true false p q k = cc
    by_tests false true p q k = cc
    by_tests false false p q k = cc

-- the number that is spelled so is read
pub number_in-decimal : (most n : ℕ) → most < 2 ^ 64 → n ≤ most → number_in most (decimal n) ≡ Some n
number_in-decimal most n small le =
    let d = is_decimal-decimal n (omega (arith, small, le)) in
    rw (d.0, d.1, le-leb n most le) refl

-- a value that is too large is none
pub number_in-over : (most : ℕ) (w : List ℕ) → most < value_on 0 w → number_in most w ≡ None
number_in-over most w h = let over : leb (value_on 0 w) most ≡ false = gt-leb h in by_test (is_decimal w) over
  where
    gt-leb : most < value_on 0 w → leb (value_on 0 w) most ≡ false
    gt-leb k = grind (arith, nat_tests)

    by_test : (d : Bool) → leb (value_on 0 w) most ≡ false → cond (d && leb (value_on 0 w) most) (Some (value_on 0 w)) None ≡ None
    by_test true o = rw o refl
    by_test false o = refl

-- the digit at i makes the value too large
pub over-at : (most n i : ℕ) (w : List ℕ) → i < length w → value_on n (drop i w) ≡ value_on 0 w → (n * 10 + (get_or w i 0 - 48) ≤ most → ⊥) → number_in most w ≡ None
over-at most n i w lt rest big =
    let e : value_on n (drop i w) ≡ value_on (n * 10 + (get_or w i 0 - 48)) (drop (suc i) w) = ap (value_on n) (drop-cons w i 0 lt) in
    number_in-over most w (omega (arith, value-grows (n * 10 + (get_or w i 0 - 48)) (drop (suc i) w), e, rest, big))
