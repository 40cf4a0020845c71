-- Declarations in order of their names are those of the text: the lowest repeat among neighbours is its first repeat, and their marks are its marks.
use Rattle.std.proofs.Common.{◌≡◌, ◌≢◌, ℕ, zero, suc, ◌+◌, ◌-◌, ◌<◌, ◌≤◌, ◌⊎◌, inl, inr, List, length, get_or, Bool, true, false, not, ◌&&◌, nat_lt, Option, Some, None, refl, sym, ap, ◌∙◌, subst, arith, add-one, ◌==◌}
use Rattle.std.specs.Prelude.{Contains, All}
use Rattle.std.specs.List.Sorted.{IsPermutation}
use Rattle.std.proofs.lemmas.Bool.{cases_lt}
use Rattle.std.proofs.lemmas.Bool.Decides.{nat_tests}
use Rattle.std.proofs.lemmas.List.{get_or_default}
use Rattle.std.proofs.lemmas.List.Sorted.{Contains-permutation, IsPermutation-sym, All-permutation}
use Rattle.std.proofs.lemmas.Slice.Eq.{bytes_eq-Decides}
use Rattle.bpf_asm.specs.declared.names.Declared.{Declared}
use Rattle.bpf_asm.specs.declared.names.Mark.{Mark}
use Rattle.bpf_asm.specs.Names.{key_of, mark_at, mark_in, first_repeat, is_before, repeats, lower, AreDeclared, AreInOrder, AreMarks, IsLowestRepeat, IsLowest}
use Rattle.bpf_asm.proofs.Declarations.{least, nowhere, none_again, first_of_again, is_again_behind, behind_again, Elsewhere, all_keyed}
use Rattle.bpf_asm.proofs.NameOrder.{lines_rise, name_between, own_not_before, first_is}
use Rattle.doc_text.specs.Words.{same}

-- ---- repeats

same_self : (a b : List ℕ) → a ≡ b → same a b ≡ true
same_self a b e = (bytes_eq-Decides a b).1 e

pub is_repeat : (a b : Declared) → a.key ≡ b.key → a.name.now ≡ b.name.now → a.line < b.line → repeats a b ≡ true
is_repeat a b k e lt =
    let s : same a.name.now b.name.now ≡ true = same_self a.name.now b.name.now e in
    let q : (a.key == b.key) ≡ true = grind (arith, nat_tests) in
    let l : nat_lt a.line b.line ≡ true = grind (arith, nat_tests) in
    rw (q, l, s) refl

repeat_name : (p q s : Bool) → (p && q && s) ≡ true → s ≡ true
repeat_name true true s e = e
repeat_name true false s e = absurd (cc e)
repeat_name false q s e = absurd (cc e)

repeat_line : (p q s : Bool) → (p && q && s) ≡ true → q ≡ true
repeat_line true true s e = refl
repeat_line true false s e = absurd (cc e)
repeat_line false q s e = absurd (cc e)

pub same_repeated : (a b : Declared) → repeats a b ≡ true → a.name.now ≡ b.name.now
same_repeated a b e = (bytes_eq-Decides a.name.now b.name.now).0 (repeat_name (a.key == b.key) (nat_lt a.line b.line) _ e)

pub later_repeated : (a b : Declared) → repeats a b ≡ true → a.line < b.line
later_repeated a b e = let l : nat_lt a.line b.line ≡ true = repeat_line (a.key == b.key) (nat_lt a.line b.line) _ e in grind (arith, nat_tests)

-- ---- a declaration behind another one of its name

-- neighbours of which the second is a repeat on this line or an earlier one
pub record RepeatUpTo (ds : List Declared) (line : ℕ) (d : Declared) : Type 0 where
  pub at : ℕ
  pub inside : at + 1 < length ds
  pub repeat : repeats (get_or ds at d) (get_or ds (at + 1) d) ≡ true
  pub low : (get_or ds (at + 1) d).line ≤ line

module _ (ds : List Declared) (o : AreInOrder ds) (d : Declared) where
  lower_in : (i j : ℕ) → i < length ds → (get_or ds i d).name.now ≡ (get_or ds j d).name.now → (get_or ds i d).line < (get_or ds j d).line → i < j
  lower_in i j lt e line = by (cases_lt i j)
    where
      by : (i < j) ⊎ (j ≤ i) → i < j
      by (inl h) = h
      by (inr h) = let back = lines_rise ds o j i d h lt (sym e) in absurd (omega (arith, back, line))

  widened : (low high : ℕ) → low ≤ high → RepeatUpTo ds low d → RepeatUpTo ds high d
  widened low high le r = record { at = r.at; inside = r.inside; repeat = r.repeat; low = omega (arith, r.low) }

  -- between the two stand neighbours of which the second is a repeat
  reach : (j i : ℕ) → j < length ds → i < length ds → (get_or ds i d).name.now ≡ (get_or ds j d).name.now → (get_or ds i d).line < (get_or ds j d).line → RepeatUpTo ds (get_or ds j d).line d
  reach zero i in_j in_i e line = let h = lower_in i zero in_i e line in absurd (omega (arith, h))
  reach (suc j) i in_j in_i e line = by (λ behind. reach j i (omega (arith, in_j)) in_i (e ∙ sym between) behind) (cases_lt (get_or ds j d).line (get_or ds (suc j) d).line)
    where
      low : i ≤ j
      low = let h = lower_in i (suc j) in_i e line in omega (arith, h)

      between : (get_or ds j d).name.now ≡ (get_or ds (suc j) d).name.now
      between = name_between ds o i j (suc j) d low (omega arith) in_j e

      rises : (get_or ds j d).line ≤ (get_or ds (suc j) d).line
      rises = lines_rise ds o j (suc j) d (omega arith) in_j between

      by : ((get_or ds i d).line < (get_or ds j d).line → RepeatUpTo ds (get_or ds j d).line d) → ((get_or ds j d).line < (get_or ds (suc j) d).line) ⊎ ((get_or ds (suc j) d).line ≤ (get_or ds j d).line)
          → RepeatUpTo ds (get_or ds (suc j) d).line d
      by before (inl h) =
          let keys : (get_or ds j d).key ≡ (get_or ds (suc j) d).key = o.keyed j d (omega (arith, in_j)) ∙ ap key_of between ∙ sym (o.keyed (suc j) d in_j) in
          record {
            at = j;
            inside = omega (arith, in_j);
            repeat = rw add-one (is_repeat (get_or ds j d) (get_or ds (suc j) d) keys between h);
            low = rw add-one (omega arith);
          }
      by before (inr h) = widened (get_or ds j d).line (get_or ds (suc j) d).line rises (before (omega (arith, line, h)))

pub repeat_from : (ds : List Declared) → AreInOrder ds → (x y : Declared) → Contains ds x → Contains ds y → x.name.now ≡ y.name.now → x.line < y.line → RepeatUpTo ds y.line y
repeat_from ds o x y (i, in_i, at_i) (j, in_j, at_j) e lt =
    let here : get_or ds i y ≡ x = get_or_default ds i y x in_i ∙ at_i in
    let r : RepeatUpTo ds (get_or ds j y).line y = reach ds o y j i in_j in_i
    (ap (λ (z : Declared). z.name.now) here ∙ e ∙ sym (ap (λ (z : Declared). z.name.now) at_j))
    (rw (here, at_j) lt) in
    subst (λ (z : Declared). RepeatUpTo ds z.line y) at_j r

-- ---- the declarations of the text, and the same in order

module _ (high : ℕ) (ds es : List Declared) (a : AreDeclared 1 ds high) (p : IsPermutation ds es) (o : AreInOrder es) where
  to : (x : Declared) → Contains ds x → Contains es x
  to x c = Contains-permutation ds es x p c

  from : (x : Declared) → Contains es x → Contains ds x
  from x c = Contains-permutation es ds x (IsPermutation-sym ds es p) c

  repeat_of : (y : Declared) → Contains ds y → Elsewhere (mark_in ds) y → RepeatUpTo es y.line y
  repeat_of y c again = let b = behind_again 1 high ds a y c again in repeat_from es o b.0 y (to b.0 b.1) (to y c) b.2 b.3

  by_found : (found : Option ℕ) → IsLowest es (length es) found → found ≡ first_repeat (mark_in ds) ds
  by_found None none = sym (none_again (mark_in ds) ds (λ y c again.
      let r : RepeatUpTo es y.line y = repeat_of y c again in
      let isnt : repeats (get_or es r.at y) (get_or es (r.at + 1) y) ≡ false = none r.at y r.inside in
      cc (sym r.repeat ∙ isnt)))
  by_found (Some line) h =
      let same_name = same_repeated h.before h.again h.repeat in
      let later = later_repeated h.before h.again h.repeat in
      let again : Elsewhere (mark_in ds) h.again = is_again_behind 1 high ds a h.before h.again (from h.before h.inside.0) same_name later in
      let first : first_repeat (mark_in ds) ds ≡ Some h.again.line = first_of_again (mark_in ds) 1 high ds h.again a (from h.again h.inside.1) again (λ y c other.
      let r : RepeatUpTo es y.line y = repeat_of y c other in
      let least_line = h.lowest r.at y r.inside r.repeat in
      omega (arith, h.at, least_line, r.low)) in
      sym (first ∙ ap Some h.at)

  pub repeat_is_first : (found : Option ℕ) → IsLowest es (length es) found → found ≡ first_repeat (mark_in ds) ds
  repeat_is_first = by_found

  pub are_marks : AreMarks es (mark_in ds)
  are_marks = record {
    first = λ x c h. least 1 high ds x a (from x c) (λ y d e. h y (to y d) e);
    absent = λ name h. nowhere ds name (λ y d. h y (to y d));
  }

pub keyed_in_order : (high : ℕ) (ds es : List Declared) → AreDeclared 1 ds high → IsPermutation ds es → All (λ (d : Declared). d.key ≡ key_of d.name.now) es
keyed_in_order high ds es a p = All-permutation (λ (d : Declared). d.key ≡ key_of d.name.now) ds es p (all_keyed 1 high ds a)

-- ---- one neighbour more

pub no_repeat_more : (ds : List Declared) (n : ℕ) (x y : Declared) (found : Option ℕ) → n + 1 < length ds → x ≡ get_or ds n x → y ≡ get_or ds (n + 1) y → repeats x y ≡ false
    → IsLowest ds (n + 1) found → IsLowest ds (n + 1 + 1) found
no_repeat_more ds n x y found inside at_x at_y isnt h = by_found found h
  where
    here : (d : Declared) → repeats (get_or ds n d) (get_or ds (n + 1) d) ≡ false
    here d =
        let p : get_or ds n d ≡ x = get_or_default ds n d x (omega (arith, inside)) ∙ sym at_x in
        let q : get_or ds (n + 1) d ≡ y = get_or_default ds (n + 1) d y inside ∙ sym at_y in
        rw (p, q) isnt

    by_found : (found : Option ℕ) → IsLowest ds (n + 1) found → IsLowest ds (n + 1 + 1) found
    by_found None none = λ k d lt. by k d (cases_lt (k + 1) (n + 1)) lt
      where
        by : (k : ℕ) (d : Declared) → (k + 1 < n + 1) ⊎ (n + 1 ≤ k + 1) → k + 1 < n + 1 + 1 → repeats (get_or ds k d) (get_or ds (k + 1) d) ≡ false
        by k d (inl low) lt = none k d low
        by k d (inr top) lt = let e : k ≡ n = omega (arith, top, lt) in rw e (here d)
    by_found (Some line) f = record {
      before = f.before;
      again = f.again;
      inside = f.inside;
      repeat = f.repeat;
      at = f.at;
      lowest = λ k d lt. by k d (cases_lt (k + 1) (n + 1)) lt;
    }
      where
        by : (k : ℕ) (d : Declared) → (k + 1 < n + 1) ⊎ (n + 1 ≤ k + 1) → k + 1 < n + 1 + 1 → repeats (get_or ds k d) (get_or ds (k + 1) d) ≡ true → line ≤ (get_or ds (k + 1) d).line
        by k d (inl low) lt is = f.lowest k d low is
        by k d (inr top) lt is = let e : k ≡ n = omega (arith, top, lt) in let is' = rw e at is in absurd (cc (sym (here d) ∙ is'))

pub repeat_more : (ds : List Declared) (n : ℕ) (x y : Declared) (found : Option ℕ) → n + 1 < length ds → x ≡ get_or ds n x → y ≡ get_or ds (n + 1) y → repeats x y ≡ true
    → IsLowest ds (n + 1) found → IsLowest ds (n + 1 + 1) (lower found y.line)
repeat_more ds n x y found inside at_x at_y is h = by_found found h
  where
    line_here : (d : Declared) → (get_or ds (n + 1) d).line ≡ y.line
    line_here d = ap (λ (z : Declared). z.line) (get_or_default ds (n + 1) d y inside ∙ sym at_y)

    own : (least : ℕ) → least ≤ y.line → ((k : ℕ) (d : Declared) → k + 1 < n + 1 → repeats (get_or ds k d) (get_or ds (k + 1) d) ≡ true → least ≤ (get_or ds (k + 1) d).line)
        → (k : ℕ) (d : Declared) → (k + 1 < n + 1) ⊎ (n + 1 ≤ k + 1) → k + 1 < n + 1 + 1 → repeats (get_or ds k d) (get_or ds (k + 1) d) ≡ true → least ≤ (get_or ds (k + 1) d).line
    own least le f k d (inl low) lt r = f k d low r
    own least le f k d (inr top) lt r = let e : k ≡ n = omega (arith, top, lt) in rw (e, line_here d) le

    made : ((k : ℕ) (d : Declared) → k + 1 < n + 1 → repeats (get_or ds k d) (get_or ds (k + 1) d) ≡ true → y.line ≤ (get_or ds (k + 1) d).line) → IsLowestRepeat ds (n + 1 + 1) y.line
    made f = record {
      before = x;
      again = y;
      inside = ((n, omega (arith, inside), sym at_x), (n + 1, inside, sym at_y));
      repeat = is;
      at = refl;
      lowest = λ k d lt. own y.line (omega arith) f k d (cases_lt (k + 1) (n + 1)) lt;
    }

    by_found : (found : Option ℕ) → IsLowest ds (n + 1) found → IsLowest ds (n + 1 + 1) (lower found y.line)
    by_found None none = made (λ k d lt r. absurd (cc (sym (none k d lt) ∙ r)))
    by_found (Some line) f = by (cases_lt y.line line)
      where
        by : (y.line < line) ⊎ (line ≤ y.line) → IsLowest ds (n + 1 + 1) (lower (Some line) y.line)
        by (inl less) =
            let other : lower (Some line) y.line ≡ Some y.line = grind (arith, nat_tests) in
            subst (λ (o : Option ℕ). IsLowest ds (n + 1 + 1) o) (sym other) (made (λ k d lt r. let low = f.lowest k d lt r in omega (arith, less, low)))
        by (inr more) =
            let other : lower (Some line) y.line ≡ Some line = grind (arith, nat_tests) in
            subst (λ (o : Option ℕ). IsLowest ds (n + 1 + 1) o) (sym other) (record {
              before = f.before;
              again = f.again;
              inside = f.inside;
              repeat = f.repeat;
              at = f.at;
              lowest = λ k d lt. own line more f.lowest k d (cases_lt (k + 1) (n + 1)) lt;
            })

-- the same at the place of the second one
module _ (ds : List Declared) (place : ℕ) (e : Declared) (found : Option ℕ) (low : 1 ≤ place) (inside : place < length ds) where
  before_here : place - 1 + 1 ≡ place
  before_here = omega arith

  pub no_repeat_at : repeats (get_or ds (place - 1) e) (get_or ds place e) ≡ false → IsLowest ds place found → IsLowest ds (place + 1) found
  no_repeat_at isnt h =
      let at : (n : ℕ) → n + 1 ≡ place → IsLowest ds (n + 1) found → IsLowest ds (n + 1 + 1) found = λ n same h. (let n_is : n ≡ place - 1 = omega (arith, same) in
      no_repeat_more ds n (get_or ds n e) (get_or ds (n + 1) e) found (omega (arith, same)) (get_or_default ds n e (get_or ds n e) (omega (arith, same))) (get_or_default ds (n + 1) e (get_or ds (n + 1) e) (omega (arith, same))) (rw (same, n_is) isnt) h) in
      subst (λ (k : ℕ). IsLowest ds (k + 1) found) before_here (at (place - 1) before_here (subst (λ (k : ℕ). IsLowest ds k found) (sym before_here) h))

  pub repeat_at : repeats (get_or ds (place - 1) e) (get_or ds place e) ≡ true → IsLowest ds place found → IsLowest ds (place + 1) (lower found (get_or ds place e).line)
  repeat_at is h =
      let at : (n : ℕ) → n + 1 ≡ place → IsLowest ds (n + 1) found → IsLowest ds (n + 1 + 1) (lower found (get_or ds (n + 1) e).line) = λ n same h. (let n_is : n ≡ place - 1 = omega (arith, same) in
      repeat_more ds n (get_or ds n e) (get_or ds (n + 1) e) found (omega (arith, same)) (get_or_default ds n e (get_or ds n e) (omega (arith, same))) (get_or_default ds (n + 1) e (get_or ds (n + 1) e) (omega (arith, same))) (rw (same, n_is) is) h) in
      subst (λ (k : ℕ). IsLowest ds (k + 1) (lower found (get_or ds k e).line)) before_here (at (place - 1) before_here (subst (λ (k : ℕ). IsLowest ds k found) (sym before_here) h))

-- ---- what a search found

-- how the name in the middle was found
pub is_before_at : (ds : List Declared) (i : ℕ) (d e : Declared) (key : ℕ) (name : List ℕ) (r b : Bool) → i < length ds → key ≡ key_of name → r ≡ is_before (get_or ds i e) key name → r ≡ b
    → is_before (get_or ds i d) (key_of name) name ≡ b
is_before_at ds i d e key name r b lt k says is =
    ap (λ (x : Declared). is_before x (key_of name) name) (get_or_default ds i d e lt) ∙ ap (λ (n : ℕ). is_before (get_or ds i e) n name) (sym k) ∙ sym says ∙ is

pub differ : (r : Bool) (a b : List ℕ) → r ≡ not (same a b) → r ≡ true → a ≢ b
differ r a b says is e =
    let s : same a b ≡ true = same_self a b e in
    let isnt : not (same a b) ≡ false = rw s refl in
    absurd (cc (sym is ∙ says ∙ isnt))

pub alike : (r : Bool) (a b : List ℕ) → r ≡ not (same a b) → r ≡ false → a ≡ b
alike r a b says is = by (same a b) refl
  where
    by : (t : Bool) → same a b ≡ t → a ≡ b
    by true m = (bytes_eq-Decides a b).0 m
    by false m = let differs : not (same a b) ≡ true = rw m refl in absurd (cc (sym is ∙ says ∙ differs))

module _ (ds : List Declared) (o : AreInOrder ds) (marked : List ℕ → Option Mark) (m : AreMarks ds marked) (name : List ℕ) (low : ℕ)
    (before : (k : ℕ) (d : Declared) → k < low → is_before (get_or ds k d) (key_of name) name ≡ true) where
  -- the declarations of the name stand from here on
  own_from : (y : Declared) → Contains ds y → y.name.now ≡ name → (k : ℕ) × (k < length ds) × (get_or ds k y ≡ y) × (low ≤ k)
  own_from y (k, lt, at) e = (k, lt, at, by (cases_lt k low))
    where
      by : (k < low) ⊎ (low ≤ k) → low ≤ k
      by (inl h) =
          let isnt = own_not_before ds o name k y lt (ap (λ (z : Declared). z.name.now) at ∙ e) in
          absurd (cc (sym (before k y h) ∙ isnt))
      by (inr h) = h

  found_at : (x : Declared) → low < length ds → x ≡ get_or ds low x → x.name.now ≡ name → marked name ≡ Some (mark_at x)
  found_at x lt at e =
      let own : marked x.name.now ≡ Some (mark_at x) = m.first x (low, lt, sym at) (λ y c same.
      let f = own_from y c (same ∙ e) in
      let here : get_or ds low y ≡ x = get_or_default ds low y x lt ∙ sym at in
      let rises = lines_rise ds o low f.0 y f.3 f.1 (ap (λ (z : Declared). z.name.now) here ∙ sym same ∙ sym (ap (λ (z : Declared). z.name.now) f.2)) in
      let first : (get_or ds low y).line ≡ x.line = ap (λ (z : Declared). z.line) here in
      let second : (get_or ds f.0 y).line ≡ y.line = ap (λ (z : Declared). z.line) f.2 in
      omega (arith, rises, first, second)) in
      ap marked (sym e) ∙ own

  pub search_found : (e : Declared) → low < length ds → (get_or ds low e).name.now ≡ name → marked name ≡ Some (mark_at (get_or ds low e))
  search_found e lt same = found_at (get_or ds low e) lt (get_or_default ds low e (get_or ds low e) lt) same

  pub search_past : low ≡ length ds → marked name ≡ None
  search_past e = m.absent name (λ y c same. let f = own_from y c same in absurd (omega (arith, e, f.1, f.3)))

  other_at : (x : Declared) → low < length ds → x ≡ get_or ds low x → is_before x (key_of name) name ≡ false → x.name.now ≢ name → marked name ≡ None
  other_at x lt at isnt other = m.absent name (λ y c same.
      let f = own_from y c same in
      let here : get_or ds low y ≡ x = get_or_default ds low y x lt ∙ sym at in
      let first = first_is ds o name low f.0 y f.1 f.3 (ap (λ (z : Declared). is_before z (key_of name) name) here ∙ isnt) (ap (λ (z : Declared). z.name.now) f.2 ∙ same) in
      other (sym (ap (λ (z : Declared). z.name.now) here) ∙ first))

  pub search_other : (e : Declared) → low < length ds → is_before (get_or ds low e) (key_of name) name ≡ false → (get_or ds low e).name.now ≢ name → marked name ≡ None
  search_other e lt isnt other = other_at (get_or ds low e) lt (get_or_default ds low e (get_or ds low e) lt) isnt other
