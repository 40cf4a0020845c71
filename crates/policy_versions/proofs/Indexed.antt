-- What an index into a list reads.
use Rattle.std.proofs.Common.{◌≡◌, ◌⊎◌, ℕ, zero, suc, ◌+◌, ◌<◌, List, [], ◌∷◌, ◌++◌, map, inl, inr, ⊎_elim, subst, length-append, length, get_or, sym, refl, ap, ◌∙◌, arith, slice_get, Some, None, Option, IsSomeAnd, All}
use native.Mathlib.Decide.{dec_lt}
use Rattle.policy_versions.specs.Rule.{IsAmong, IsPublished, version_of, which_of, word_of}
use Rattle.policy_versions.specs.Places.{RegistryId}
use Rattle.policy_versions.specs.Models.{AreRows, IsRow, words_of, PassModel, fresh, AreFresh, IsClosed}

module _ {A : Type 0} where
  pub some_same : (a b : A) → Some a ≡ Some b → a ≡ b
  some_same a b e = let f : Option A → A = λ o. elim o [ Some x ↦ x | None ↦ a ] in ap f e

  pub at_place : (xs : List A) (i : ℕ) (p r : A) → slice_get xs i ≡ Some p → r ≡ get_or xs i r → r ≡ p
  at_place [] i p r e h = absurd (cc)
  at_place (x ∷ xs) zero p r e h = h ∙ some_same x p e
  at_place (x ∷ xs) (suc i) p r e h = at_place xs i p r e h

  pub get_is : (xs : List A) (i : ℕ) (r : A) → i < length xs → r ≡ get_or xs i r → slice_get xs i ≡ Some r
  get_is [] i r b h = absurd (omega arith)
  get_is (x ∷ xs) zero r b h = ap Some (sym h)
  get_is (x ∷ xs) (suc i) r b h = get_is xs i r (omega arith) h

pub has_longer : (k : ℕ) (more old : List ℕ) → IsAmong k old → IsAmong k (more ++ old)
has_longer k [] old h = h
has_longer k (x ∷ xs) old h = inr (has_longer k xs old h)

pub word_is : (n : ℕ) → n ≡ word_of (version_of n) (which_of n)
word_is n = omega arith

either_row : (xs : List (ℕ × ℕ)) (x : ℕ × ℕ) (i : ℕ) (y : ℕ × ℕ) → slice_get (xs ++ x ∷ []) i ≡ Some y → (slice_get xs i ≡ Some y) ⊎ ((i ≡ length xs) × (x ≡ y))
either_row [] x zero y e = inr (refl, some_same x y e)
either_row [] x (suc i) y e = absurd (cc)
either_row (z ∷ zs) x zero y e = inl e
either_row (z ∷ zs) x (suc i) y e = ⊎_elim inl (λ p. inr (ap suc p.0, p.1)) (either_row zs x i y e)

map-more : (rows : List (ℕ × ℕ)) (r : ℕ × ℕ) → map (λ (x : ℕ × ℕ). word_of x.0 x.1) (rows ++ r ∷ []) ≡ map (λ (x : ℕ × ℕ). word_of x.0 x.1) rows ++ word_of r.0 r.1 ∷ []
map-more [] r = refl
map-more (x ∷ xs) r = ap (λ l. word_of x.0 x.1 ∷ l) (map-more xs r)

map-long : (rows : List (ℕ × ℕ)) → length (map (λ (x : ℕ × ℕ). word_of x.0 x.1) rows) ≡ length rows
map-long [] = refl
map-long (x ∷ xs) = ap suc (map-long xs)

-- one row more
pub rows_more : (rows : List (ℕ × ℕ)) (r : ℕ × ℕ) → AreRows rows → r.0 ≡ length rows + 1 → AreRows (rows ++ r ∷ [])
rows_more rows r ok is i x e = ⊎_elim (ok i x) (λ p. ap (λ (y : ℕ × ℕ). y.0) (sym p.1) ∙ (is ∙ ap (λ m. m + 1) (sym p.0))) (either_row rows r i x e)

pub words_more : (rows : List (ℕ × ℕ)) (r : ℕ × ℕ) → words_of (rows ++ r ∷ []) ≡ words_of rows ++ word_of r.0 r.1 ∷ []
words_more rows r = ap (λ l. 0 ∷ l) (map-more rows r)

pub words_long : (rows : List (ℕ × ℕ)) → length (words_of rows) ≡ length rows + 1
words_long rows = let e = map-long rows in omega arith

row_at : (rows : List (ℕ × ℕ)) (i word : ℕ) → slice_get (map (λ (x : ℕ × ℕ). word_of x.0 x.1) rows) i ≡ Some word → (r : ℕ × ℕ) × (slice_get rows i ≡ Some r) × (word_of r.0 r.1 ≡ word)
row_at [] i word e = absurd (cc)
row_at (x ∷ xs) zero word e = (x, refl, some_same _ word e)
row_at (x ∷ xs) (suc i) word e = row_at xs i word e

row_of_word : (rows : List (ℕ × ℕ)) (word version : ℕ) → AreRows rows → version ≡ version_of word → slice_get (words_of rows) version ≡ Some word → IsRow rows version (which_of word)
row_of_word rows word zero are is e = let same : 0 ≡ word = some_same 0 word e in ap Some (λ j. (zero, (let none : 0 ≡ which_of word = omega (arith, same) in none) j))
row_of_word rows word (suc i) are is e = let r = row_at rows i word e in let first : r.0.0 ≡ suc i = (let e = are i r.0 r.1 in omega (arith, e)) in
    let second : r.0.1 ≡ which_of word = (let w = r.2 in omega (arith, w, first, is)) in r.1 ∙ ap Some (λ j. (first j, second j))

-- a word that was published tells a row
pub published_row : (rows : List (ℕ × ℕ)) (word : ℕ) → AreRows rows → IsPublished (words_of rows) word → IsRow rows (version_of word) (which_of word)
published_row rows word are e = row_of_word rows word (version_of word) are refl e

pub get_within : {A : Type 0} (xs : List A) (i : ℕ) (x : A) → slice_get xs i ≡ Some x → i < length xs
get_within [] i x e = absurd (cc)
get_within (y ∷ ys) zero x e = omega arith
get_within (y ∷ ys) (suc i) x e = let h = get_within ys i x e in omega arith

pub some_and : {A : Type 0} (P Q : A → Type 0) (o : Option A) → ((x : A) → P x → Q x) → IsSomeAnd o P → IsSomeAnd o Q
some_and P Q (Some x) f h = f x h
some_and P Q None f h = h

module _ {A : Type 0} where
  there : (ys zs : List A) (p : A) → slice_get (ys ++ p ∷ zs) (length ys) ≡ Some p
  there [] zs p = refl
  there (y ∷ ys) zs p = there ys zs p

  pub get_mid : (xs ys zs : List A) (p : A) → xs ≡ ys ++ p ∷ zs → slice_get xs (length ys) ≡ Some p
  get_mid xs ys zs p e = ap (λ l. slice_get l (length ys)) e ∙ there ys zs p

  pub snoc_either : (xs : List A) (x : A) (i : ℕ) (y : A) → slice_get (xs ++ x ∷ []) i ≡ Some y → (slice_get xs i ≡ Some y) ⊎ ((i ≡ length xs) × (x ≡ y))
  snoc_either [] x zero y e = inr (refl, some_same x y e)
  snoc_either [] x (suc i) y e = absurd (cc)
  snoc_either (z ∷ zs) x zero y e = inl e
  snoc_either (z ∷ zs) x (suc i) y e = ⊎_elim inl (λ p. inr (ap suc p.0, p.1)) (snoc_either zs x i y e)

  get_before : (xs : List A) (x : A) (i : ℕ) → i < length xs → slice_get (xs ++ x ∷ []) i ≡ slice_get xs i
  get_before [] x i h = absurd (omega arith)
  get_before (z ∷ zs) x zero h = refl
  get_before (z ∷ zs) x (suc i) h = get_before zs x i (omega arith)

  get_last : (xs : List A) (x : A) → slice_get (xs ++ x ∷ []) (length xs) ≡ Some x
  get_last [] x = refl
  get_last (z ∷ zs) x = get_last zs x

  -- one more element where each has its place's fact
  pub each_snoc : (P : ℕ → A → Type 0) (xs ys : List A) (x : A) → ys ≡ xs ++ x ∷ [] → P (length xs) x → ((i : ℕ) → i < length xs → (p : A) × (slice_get xs i ≡ Some p) × P i p) → (i : ℕ) → i < length ys → (p : A) × (slice_get ys i ≡ Some p) × P i p
  each_snoc P xs ys x is here below i h = let long : length ys ≡ length xs + 1 = ap length is ∙ length-append xs (x ∷ []) in
      elim (dec_lt i (length xs)) as (λ _. (p : A) × (slice_get ys i ≡ Some p) × P i p) [
        | yes lt ↦ let b = below i lt in (b.0, ap (λ l. slice_get l i) is ∙ (get_before xs x i lt ∙ b.1), b.2)
        | no ge ↦ let e : length xs ≡ i = omega arith in (x, ap (λ l. slice_get l i) is ∙ subst (λ k. slice_get (xs ++ x ∷ []) k ≡ Some x) e (get_last xs x), subst (λ k. P k x) e here)
      ]

pub has_front : (k : ℕ) (xs ys : List ℕ) → IsAmong k xs → IsAmong k (xs ++ ys)
has_front k [] ys h = absurd h
has_front k (x ∷ xs) ys h = ⊎_elim (λ e. inl e) (λ t. inr (has_front k xs ys t)) h

pub none_left : {A : Type 0} (xs : List A) → length xs ≡ 0 → xs ≡ []
none_left [] h = refl
none_left (x ∷ xs) h = absurd (omega arith)

get_at : {A : Type 0} (xs : List A) (i : ℕ) (d x : A) → slice_get xs i ≡ Some x → get_or xs i d ≡ x
get_at [] i d x e = absurd (cc)
get_at (y ∷ ys) zero d x e = some_same y x e
get_at (y ∷ ys) (suc i) d x e = get_at ys i d x e

-- new passes have no use open
pub fresh_closed : (registry : RegistryId) (users : ℕ) (passes : List PassModel) → AreFresh registry users passes → length passes ≡ users → All (IsClosed registry) passes
fresh_closed registry users passes are long k d lt = subst (IsClosed registry) (sym (get_at passes k d (fresh registry k) (are k (omega arith)))) (refl, refl)

-- the last of passes that have no use open
pub closed_last : (registry : RegistryId) (xs ys : List PassModel) (p : PassModel) → All (IsClosed registry) xs → xs ≡ ys ++ p ∷ [] → IsClosed registry p
closed_last registry xs ys p all is =
    let lt : length ys < length xs = omega (arith, ap length is ∙ length-append ys (p ∷ [])) in
    subst (IsClosed registry) (get_at xs (length ys) p p (get_mid xs ys [] p is)) (all (length ys) p lt)
