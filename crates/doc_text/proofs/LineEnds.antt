-- The first piece of some bytes, and what it says, as a loop finds them.
use Rattle.std.proofs.Common.{◌≡◌, ◌≢◌, ℕ, zero, suc, ◌<◌, List, [], ◌∷◌, ◌++◌, length, get_or, take, drop, Bool, true, false, Option, Some, None, refl, ap, subst, arith, eq-eqb, eqb, cond}
use Rattle.std.proofs.lemmas.Bool.{ne_eqb, false≢true}
use Rattle.doc_text.specs.Text.{onto, pieces, is_plain, at_end, text_in, ended, IsPlain, BeginsOddly}

pub same_cond : {A : Type 0} (b : Bool) (x : A) → cond b x x ≡ x
same_cond true x = refl
same_cond false x = refl

pub plain-ne : (b : ℕ) → is_plain b ≡ true → eqb b 10 ≡ false
plain-ne b h = ne_eqb b 10 (λ e. let P : ℕ → Type 0 = λ n. is_plain n ≡ true in false≢true (subst P e h))

-- the first line feed ends the first piece
pub pieces_at : (bytes : List ℕ) (i : ℕ) → i < length bytes → ((k : ℕ) → k < i → get_or bytes k 0 ≡ 10 → ⊥) → get_or bytes i 0 ≡ 10 → pieces bytes ≡ take (suc i) bytes ∷ pieces (drop (suc i) bytes)
pieces_at [] i lt before here = absurd (omega (arith, lt))
pieces_at (b ∷ bs) zero lt before here = rw (eq-eqb b 10 here) refl
pieces_at (b ∷ bs) (suc i) lt before here =
    let first : eqb b 10 ≡ false = ne_eqb b 10 (before 0 (omega arith)) in
    let others : pieces bs ≡ take (suc i) bs ∷ pieces (drop (suc i) bs) = pieces_at bs i (omega arith) (λ k h e. before (suc k) (omega arith) e) here in
    rw (first, others) refl

-- with no line feed all is one piece
pub pieces_none : (b : ℕ) (bs : List ℕ) → ((k : ℕ) → k < length (b ∷ bs) → get_or (b ∷ bs) k 0 ≡ 10 → ⊥) → pieces (b ∷ bs) ≡ (b ∷ bs) ∷ []
pieces_none b [] before = rw (ne_eqb b 10 (before 0 (omega arith))) refl
pieces_none b (c ∷ bs) before =
    let first : eqb b 10 ≡ false = ne_eqb b 10 (before 0 (omega arith)) in
    rw (first, pieces_none c bs (λ k h e. before (suc k) (omega arith) e)) refl

at_end_more : (xs : List ℕ) (l : ℕ) → at_end (xs ++ l ∷ []) ≡ None
at_end_more [] l = refl
at_end_more (x ∷ xs) l = refl

pub text_unended : (front : List ℕ) (last : ℕ) → last ≢ 10 → text_in (front ++ last ∷ []) ≡ None
text_unended [] last ne = rw (ne_eqb last 10 ne) (same_cond {A = Option (List ℕ)} (is_plain last) None)
text_unended (b ∷ bs) last ne = rw (at_end_more bs last, text_unended bs last ne, same_cond {A = Option (List ℕ)} (is_plain b) None, same_cond {A = Option (List ℕ)} (eqb b 10) None) refl

pub text_plain : (front : List ℕ) → ((k : ℕ) → k < length front → is_plain (get_or front k 0) ≡ true) → text_in (front ++ 10 ∷ []) ≡ Some front
text_plain [] each = refl
text_plain (b ∷ bs) each =
    let here : is_plain b ≡ true = each 0 (omega arith) in
    rw (plain-ne b here, here, text_plain bs (λ k h. each (suc k) (omega arith))) refl

pub text_odd : (front : List ℕ) (i : ℕ) → i < length front → is_plain (get_or front i 0) ≡ false → text_in (front ++ 10 ∷ []) ≡ None
text_odd [] i lt odd = absurd (omega (arith, lt))
text_odd (b ∷ bs) zero lt odd = rw (odd, at_end_more bs 10, same_cond {A = Option (List ℕ)} (eqb b 10) None) refl
text_odd (b ∷ bs) (suc i) lt odd = rw (at_end_more bs 10, text_odd bs i (omega arith) odd, same_cond {A = Option (List ℕ)} (is_plain b) None, same_cond {A = Option (List ℕ)} (eqb b 10) None) refl

pub pieces_all : (bytes : List ℕ) → bytes ≢ [] → ((k : ℕ) → k < length bytes → get_or bytes k 0 ≡ 10 → ⊥) → pieces bytes ≡ bytes ∷ []
pieces_all [] some before = absurd (some refl)
pieces_all (b ∷ bs) some before = pieces_none b bs before

onto-some : (b : ℕ) (ps : List (List ℕ)) → onto b ps ≢ []
onto-some b [] = λ e. cc
onto-some b (p ∷ ps) = λ e. cc

pub pieces-some : (bytes : List ℕ) → 0 < length bytes → pieces bytes ≢ []
pieces-some [] some = absurd (omega (arith, some))
pieces-some (b ∷ bs) some = elim (eqb b 10) as (λ v. cond v ((b ∷ []) ∷ pieces bs) (onto b (pieces bs)) ≢ []) [ true ↦ λ e. cc | false ↦ onto-some b (pieces bs) ]

pub pieces-none : (bytes : List ℕ) → length bytes ≡ 0 → pieces bytes ≡ []
pieces-none [] none = refl
pieces-none (b ∷ bs) none = absurd (omega (arith, none))

-- a byte that may not stand in a line, before any line feed
onto-odd : (b : ℕ) (ps : List (List ℕ)) → eqb b 10 ≡ false → is_plain b ≡ false → BeginsOddly (onto b ps)
onto-odd b [] n odd = rw (n, odd) refl
onto-odd b (p ∷ ps) n odd = rw (n, odd) refl

onto-none : (b : ℕ) → eqb b 10 ≡ false → BeginsOddly (onto b [])
onto-none b n = rw n (same_cond {A = Option (List ℕ)} (is_plain b) None)

onto-more : (b : ℕ) (ps : List (List ℕ)) → eqb b 10 ≡ false → BeginsOddly ps → BeginsOddly (onto b ps)
onto-more b [] n odd = absurd odd
onto-more b (p ∷ ps) n odd = rw (n, odd) (same_cond {A = Option (List ℕ)} (is_plain b) None)

pub odd_front : (bytes : List ℕ) (i : ℕ) → i < length bytes → ((k : ℕ) → k < i → is_plain (get_or bytes k 0) ≡ true) → is_plain (get_or bytes i 0) ≡ false → get_or bytes i 0 ≢ 10 → BeginsOddly (pieces bytes)
odd_front [] i lt before odd ne = absurd (omega (arith, lt))
odd_front (b ∷ bs) zero lt before odd ne = rw (ne_eqb b 10 ne) (onto-odd b (pieces bs) (ne_eqb b 10 ne) odd)
odd_front (b ∷ bs) (suc i) lt before odd ne =
    let n : eqb b 10 ≡ false = plain-ne b (before 0 (omega arith)) in
    rw n (onto-more b (pieces bs) n (odd_front bs i (omega arith) (λ k h. before (suc k) (omega arith)) odd ne))

-- with no line feed no line is ended
pub unended_front : (bytes : List ℕ) → bytes ≢ [] → ((k : ℕ) → k < length bytes → is_plain (get_or bytes k 0) ≡ true) → BeginsOddly (pieces bytes)
unended_front [] some each = absurd (some refl)
unended_front (b ∷ []) some each =
    let n : eqb b 10 ≡ false = plain-ne b (each 0 (omega arith)) in
    rw n (onto-none b n)
unended_front (b ∷ c ∷ bs) some each =
    let n : eqb b 10 ≡ false = plain-ne b (each 0 (omega arith)) in
    rw n (onto-more b (pieces (c ∷ bs)) n (unended_front (c ∷ bs) (λ e. cc) (λ k h. each (suc k) (omega arith))))

-- plain bytes up to the first line feed are a line
pub text_front : (bytes : List ℕ) (i : ℕ) → i < length bytes → ((k : ℕ) → k < i → is_plain (get_or bytes k 0) ≡ true) → get_or bytes i 0 ≡ 10 → IsPlain (take i bytes) × (pieces bytes ≡ ended (take i bytes) ∷ pieces (drop (suc i) bytes))
text_front [] i lt before here = absurd (omega (arith, lt))
text_front (b ∷ bs) zero lt before here = (refl, rw (eq-eqb b 10 here) (ap (λ n. (n ∷ []) ∷ pieces bs) here))
text_front (b ∷ bs) (suc i) lt before here =
    let plain : is_plain b ≡ true = before 0 (omega arith) in
    let others = text_front bs i (omega arith) (λ k h. before (suc k) (omega arith)) here in
    (rw plain others.0, rw (plain-ne b plain, others.1) refl)
