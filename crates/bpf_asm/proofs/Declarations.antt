-- Declarations as they stand in the text: where a name is declared first, and which lines declare a name again.
use Rattle.std.proofs.Common.{◌≡◌, ◌≢◌, ℕ, zero, suc, ◌+◌, ◌<◌, ◌≤◌, List, [], ◌∷◌, ◌++◌, Bool, true, false, not, Option, Some, None, refl, sym, ap, ◌∙◌, subst, arith, ◌==◌}
use Rattle.std.specs.Prelude.{Contains, All}
use Rattle.std.proofs.lemmas.Bool.{ne_eqb}
use Rattle.std.proofs.lemmas.List.Elements.{All-cons, All-nil}
use Rattle.std.proofs.lemmas.Slice.Eq.{bytes_eq-Decides}
use Rattle.bpf_asm.specs.declared.names.Declared.{Declared}
use Rattle.bpf_asm.specs.declared.names.Mark.{Mark}
use Rattle.bpf_asm.specs.Names.{key_of, mark_at, mark_in, is_elsewhere, first_repeat, AreDeclared}
use Rattle.doc_text.specs.Words.{same}

pub in_head : (d : Declared) (ds : List Declared) → Contains (d ∷ ds) d
in_head d ds = (zero, omega arith, refl)

pub in_tail : (d x : Declared) (ds : List Declared) → Contains ds x → Contains (d ∷ ds) x
in_tail d x ds (k, lt, e) = (suc k, omega (arith, lt), e)

-- lines are at least the first one
above : (low high : ℕ) (ds : List Declared) (x : Declared) → AreDeclared low ds high → Contains ds x → low ≤ x.line
above low high [] x a (k, lt, e) = absurd (omega (arith, lt))
above low high (d ∷ ds) x a (zero, lt, e) = let at : d.line ≡ x.line = ap (λ (y : Declared). y.line) e in omega (arith, a.1, at)
above low high (d ∷ ds) x a (suc k, lt, e) = let later = above (d.line + 1) high ds x a.2 (k, omega (arith, lt), e) in omega (arith, a.1, later)

own_mark : (d : Declared) (ds : List Declared) → mark_in (d ∷ ds) d.name.now ≡ Some (mark_at d)
own_mark d ds = let own : same d.name.now d.name.now ≡ true = (bytes_eq-Decides d.name.now d.name.now).1 refl in rw own refl

-- a declaration on the lowest line of its name has the name's mark
pub least : (low high : ℕ) (ds : List Declared) (x : Declared) → AreDeclared low ds high → Contains ds x
    → ((y : Declared) → Contains ds y → y.name.now ≡ x.name.now → x.line ≤ y.line) → mark_in ds x.name.now ≡ Some (mark_at x)
least low high [] x a (k, lt, e) h = absurd (omega (arith, lt))
least low high (d ∷ ds) x a (zero, lt, e) h = subst (λ (y : Declared). mark_in (d ∷ ds) y.name.now ≡ Some (mark_at y)) e (own_mark d ds)
least low high (d ∷ ds) x a (suc k, lt, e) h = by (same d.name.now x.name.now) refl (least (d.line + 1) high ds x a.2 inside (λ y c n. h y (in_tail d y ds c) n))
  where
    inside : Contains ds x
    inside = (k, omega (arith, lt), e)

    by : (t : Bool) → same d.name.now x.name.now ≡ t → mark_in ds x.name.now ≡ Some (mark_at x) → mark_in (d ∷ ds) x.name.now ≡ Some (mark_at x)
    by true m behind =
        let first = h d (in_head d ds) ((bytes_eq-Decides d.name.now x.name.now).0 m) in
        let later = above (d.line + 1) high ds x a.2 inside in
        absurd (omega (arith, first, later))
    by false m behind = rw m behind

pub nowhere : (ds : List Declared) (name : List ℕ) → ((y : Declared) → Contains ds y → y.name.now ≢ name) → mark_in ds name ≡ None
nowhere [] name h = refl
nowhere (d ∷ ds) name h = by (same d.name.now name) refl (nowhere ds name (λ y c. h y (in_tail d y ds c)))
  where
    by : (t : Bool) → same d.name.now name ≡ t → mark_in ds name ≡ None → mark_in (d ∷ ds) name ≡ None
    by true m behind = absurd (h d (in_head d ds) ((bytes_eq-Decides d.name.now name).0 m))
    by false m behind = rw m behind

-- a name with its mark
pub record Found (ds : List Declared) (name : List ℕ) (line : ℕ) : Type 0 where
  pub at : Declared
  pub inside : Contains ds at
  pub name_is : at.name.now ≡ name
  pub mark : mark_in ds name ≡ Some (mark_at at)
  pub low : at.line ≤ line

-- a declared name has a mark, on no later line
pub found_low : (low high : ℕ) (ds : List Declared) (x : Declared) → AreDeclared low ds high → Contains ds x → Found ds x.name.now x.line
found_low low high [] x a (k, lt, e) = absurd (omega (arith, lt))
found_low low high (d ∷ ds) x a (zero, lt, e) = subst (λ (y : Declared). Found (d ∷ ds) y.name.now y.line) e (record { at = d; inside = in_head d ds; name_is = refl; mark = own_mark d ds; low = omega arith })
found_low low high (d ∷ ds) x a (suc k, lt, e) = by (same d.name.now x.name.now) refl (found_low (d.line + 1) high ds x a.2 inside)
  where
    inside : Contains ds x
    inside = (k, omega (arith, lt), e)

    by : (t : Bool) → same d.name.now x.name.now ≡ t → Found ds x.name.now x.line → Found (d ∷ ds) x.name.now x.line
    by true m f = record {
      at = d;
      inside = in_head d ds;
      name_is = (bytes_eq-Decides d.name.now x.name.now).0 m;
      mark = rw m refl;
      low = let later = above (d.line + 1) high ds x a.2 inside in omega (arith, later);
    }
    by false m f = record {
      at = f.at;
      inside = in_tail d f.at ds f.inside;
      name_is = f.name_is;
      mark = rw m f.mark;
      low = f.low;
    }

-- ---- lines that declare a name again

abbrev pub Elsewhere : (List ℕ → Option Mark) → Declared → Type 0
Elsewhere marked x = is_elsewhere x.line (marked x.name.now) ≡ true

pub none_again : (marked : List ℕ → Option Mark) (ds : List Declared) → ((y : Declared) → Contains ds y → ¬ (Elsewhere marked y)) → first_repeat marked ds ≡ None
none_again marked [] h = refl
none_again marked (d ∷ ds) h = by (is_elsewhere d.line (marked d.name.now)) refl (none_again marked ds (λ y c. h y (in_tail d y ds c)))
  where
    by : (t : Bool) → is_elsewhere d.line (marked d.name.now) ≡ t → first_repeat marked ds ≡ None → first_repeat marked (d ∷ ds) ≡ None
    by true m behind = absurd (h d (in_head d ds) m)
    by false m behind = rw m behind

pub first_of_again : (marked : List ℕ → Option Mark) (low high : ℕ) (ds : List Declared) (x : Declared) → AreDeclared low ds high → Contains ds x → Elsewhere marked x
    → ((y : Declared) → Contains ds y → Elsewhere marked y → x.line ≤ y.line) → first_repeat marked ds ≡ Some x.line
first_of_again marked low high [] x a (k, lt, e) again h = absurd (omega (arith, lt))
first_of_again marked low high (d ∷ ds) x a (zero, lt, e) again h = let here : Elsewhere marked d = subst (Elsewhere marked) (sym e) again in rw here (ap (λ (y : Declared). Some y.line) e)
first_of_again marked low high (d ∷ ds) x a (suc k, lt, e) again h =
    by (is_elsewhere d.line (marked d.name.now)) refl (first_of_again marked (d.line + 1) high ds x a.2 inside again (λ y c n. h y (in_tail d y ds c) n))
  where
    inside : Contains ds x
    inside = (k, omega (arith, lt), e)

    by : (t : Bool) → is_elsewhere d.line (marked d.name.now) ≡ t → first_repeat marked ds ≡ Some x.line → first_repeat marked (d ∷ ds) ≡ Some x.line
    by true m behind =
        let first = h d (in_head d ds) m in
        let later = above (d.line + 1) high ds x a.2 inside in
        absurd (omega (arith, first, later))
    by false m behind = rw m behind

module _ (low high : ℕ) (ds : List Declared) (a : AreDeclared low ds high) where
  -- a declaration behind another one of its name is such a line
  pub is_again_behind : (x y : Declared) → Contains ds x → x.name.now ≡ y.name.now → x.line < y.line → Elsewhere (mark_in ds) y
  is_again_behind x y c e lt =
      let f : Found ds x.name.now x.line = found_low low high ds x a c in
      let mark : mark_in ds y.name.now ≡ Some (mark_at f.at) = ap (mark_in ds) (sym e) ∙ f.mark in
      let other : (f.at.line == y.line) ≡ false = ne_eqb f.at.line y.line (λ same. omega (arith, f.low, lt, same)) in
      rw (mark, other) refl

  -- such a line is behind another one of its name
  pub behind_again : (y : Declared) → Contains ds y → Elsewhere (mark_in ds) y → (x : Declared) × Contains ds x × (x.name.now ≡ y.name.now) × (x.line < y.line)
  behind_again y c again =
      let f : Found ds y.name.now y.line = found_low low high ds y a c in
      let other : not (f.at.line == y.line) ≡ true = ap (is_elsewhere y.line) (sym f.mark) ∙ again in
      (f.at, f.inside, f.name_is, grind (arith))

pub all_keyed : (low high : ℕ) (ds : List Declared) → AreDeclared low ds high → All (λ d. d.key ≡ key_of d.name.now) ds
all_keyed low high [] a = All-nil (λ (d : Declared). d.key ≡ key_of d.name.now)
all_keyed low high (d ∷ ds) a = All-cons (λ (d : Declared). d.key ≡ key_of d.name.now) d ds a.0 (all_keyed (d.line + 1) high ds a.2)

-- ---- one line more

pub declared_push : (low : ℕ) (ds : List Declared) (x : Declared) → AreDeclared low ds x.line → x.key ≡ key_of x.name.now → AreDeclared low (ds ++ x ∷ []) (x.line + 1)
declared_push low [] x a k = (k, a, omega arith)
declared_push low (d ∷ ds) x a k = (a.0, a.1, declared_push (d.line + 1) ds x a.2 k)

pub declared_on : (low : ℕ) (ds : List Declared) (high : ℕ) → AreDeclared low ds high → AreDeclared low ds (high + 1)
declared_on low [] high a = omega (arith, a)
declared_on low (d ∷ ds) high a = (a.0, a.1, declared_on (d.line + 1) ds high a.2)
