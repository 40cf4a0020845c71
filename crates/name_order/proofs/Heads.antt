-- Eight bytes of names as numbers, behind what the names begin with: where these differ, they tell the names' order.
use Rattle.std.proofs.Common.{◌≡◌, ℕ, zero, suc, ◌+◌, ◌*◌, ◌<◌, ◌≤◌, ◌⊎◌, inl, inr, List, [], ◌∷◌, length, drop, get_or, false, true≢false, refl, sym, ap, ◌∙◌, arith, mul-le-mul_right}
use Rattle.std.specs.Int.{from_be_bytes, w64}
use Rattle.std.specs.Ordering.{nat_cmp, is_lt, ordering_then, ordering_reverse}
use Rattle.std.specs.Cmp.Lexicographic.{slice_cmp}
use Rattle.std.specs.declared.cmp.Ordering.{Ordering}
use Rattle.std.specs.declared.cmp.Ordering.TheVariants.{Less, Equal, Greater}
use Rattle.std.proofs.lemmas.Cmp.{nat_list_cmp_total}
use Rattle.std.proofs.lemmas.Bool.{cases_lt, cases_eq}
use Rattle.std.proofs.lemmas.Bool.Decides.{nat_tests}
use Rattle.name_order.specs.declared.ordered.Placed.{Placed}
use Rattle.name_order.specs.Places.{IsHead, IsHeaded, rank}
use Rattle.name_order.proofs.Fronts.{nat_same, cmp_behind}

-- what one more byte in front is worth
abbrev scale : ℕ → ℕ
scale zero = 1
scale (suc n) = 256 * scale n

-- the first n bytes as one number
abbrev worth : ℕ → List ℕ → ℕ
worth zero xs = 0
worth (suc n) [] = 0
worth (suc n) (x ∷ xs) = x * scale n + worth n xs

abbrev AreBytes : ℕ → List ℕ → Type 0
AreBytes n xs = (i : ℕ) → i < n → get_or xs i 0 < 256

some-scale : (n : ℕ) → 0 < scale n
some-scale zero = omega arith
some-scale (suc n) = omega (arith, some-scale n)

below-scale : (n : ℕ) (xs : List ℕ) → AreBytes n xs → worth n xs < scale n
below-scale zero xs bytes = omega arith
below-scale (suc n) [] bytes = some-scale (suc n)
below-scale (suc n) (x ∷ xs) bytes =
    let front : (x + 1) * scale n ≤ 256 * scale n = mul-le-mul_right (scale n) (omega (arith, bytes 0 (omega arith))) in
    omega (arith, front, below-scale n xs (λ i lt. bytes (suc i) (omega (arith, lt))))

-- the first bytes tell, or else those behind them
by-first : (scale x y r s : ℕ) → s < scale → x * scale + r < y * scale + s → (x < y) ⊎ ((x ≡ y) × (r < s))
by-first scale x y r s small less = elim (cases_lt x y) [
  | inl low ↦ inl low
  | inr high ↦ elim (cases_eq x y) [
    | inl same ↦ inr (same, omega (arith, ap (λ z. z * scale) same, less))
    | inr other ↦ absurd (let over : (y + 1) * scale ≤ x * scale = mul-le-mul_right scale (omega (arith, high, other)) in omega (arith, over, small, less))
  ]
]

nat-less : (x y : ℕ) → x < y → nat_cmp x y ≡ Less
nat-less x y lt = grind (arith, nat_tests, lt)

worth_tells : (n : ℕ) (xs ys : List ℕ) → AreBytes n xs → AreBytes n ys → worth n xs < worth n ys → slice_cmp nat_cmp xs ys ≡ Less
worth_tells zero xs ys a b less = absurd (omega (arith, less))
worth_tells (suc n) xs [] a b less = absurd (omega (arith, less))
worth_tells (suc n) [] (y ∷ ys) a b less = refl
worth_tells (suc n) (x ∷ xs) (y ∷ ys) a b less =
    elim (by-first (scale n) x y (worth n xs) (worth n ys) (below-scale n ys (λ i lt. b (suc i) (omega (arith, lt)))) less) [
      | inl low ↦ ap (λ o. ordering_then o (slice_cmp nat_cmp xs ys)) (nat-less x y low)
      | inr (same, rest) ↦ ap (λ o. ordering_then o (slice_cmp nat_cmp xs ys)) (nat_same x y same)
          ∙ worth_tells n xs ys (λ i lt. a (suc i) (omega (arith, lt))) (λ i lt. b (suc i) (omega (arith, lt))) rest
    ]

head_is : (xs : List ℕ) → from_be_bytes w64 xs ≡ worth 8 xs
head_is [] = omega arith
head_is (a ∷ []) = omega arith
head_is (a ∷ b ∷ []) = omega arith
head_is (a ∷ b ∷ c ∷ []) = omega arith
head_is (a ∷ b ∷ c ∷ d ∷ []) = omega arith
head_is (a ∷ b ∷ c ∷ d ∷ e ∷ []) = omega arith
head_is (a ∷ b ∷ c ∷ d ∷ e ∷ f ∷ []) = omega arith
head_is (a ∷ b ∷ c ∷ d ∷ e ∷ f ∷ g ∷ []) = omega arith
head_is (a ∷ b ∷ c ∷ d ∷ e ∷ f ∷ g ∷ h ∷ xs) = omega arith

-- a lesser head is of lesser bytes
heads-tell : (head other : ℕ) (xs ys : List ℕ) → IsHead head xs → IsHead other ys → head < other → slice_cmp nat_cmp xs ys ≡ Less
heads-tell head other xs ys a b less = worth_tells 8 xs ys a.small b.small (omega (arith, a.is, b.is, head_is xs, head_is ys, less))

-- and of a lesser name, where the names begin alike
names-tell : (front : List ℕ) (p q : Placed) → IsHeaded front p → IsHeaded front q → p.head < q.head → slice_cmp nat_cmp p.name.items q.name.items ≡ Less
names-tell front p q a b less =
    cmp_behind front p.name.items q.name.items a.begins b.begins
    ∙ heads-tell p.head q.head (drop (length front) p.name.items) (drop (length front) q.name.items) a.head b.head less

-- ---- where the heads decide first

then-not : (o p : Ordering) → is_lt (ordering_then o p) ≡ false → is_lt o ≡ false
then-not Less p h = h
then-not Equal p h = refl
then-not Greater p h = refl

not-back : (xs ys : List ℕ) → slice_cmp nat_cmp xs ys ≡ Less → is_lt (slice_cmp nat_cmp ys xs) ≡ false
not-back xs ys less = ap is_lt (nat_list_cmp_total.antisymm ys xs ∙ ap ordering_reverse less)

-- a name that isn't less by its head, and by all its bytes where the heads are the same, isn't less
pub names_behind : (front : List ℕ) (p q : Placed) → IsHeaded front p → IsHeaded front q → is_lt (rank p q) ≡ false → is_lt (slice_cmp nat_cmp p.name.items q.name.items) ≡ false
names_behind front p q a b behind = elim (cases_lt q.head p.head) [
  | inl less ↦ not-back q.name.items p.name.items (names-tell front q p b a less)
  | inr most ↦ elim (cases_eq p.head q.head) [
    | inl same ↦ then-not by-name (nat_cmp p.place q.place) (decided (nat_same p.head q.head same))
    | inr apart ↦ absurd (true≢false (decided (nat-less p.head q.head (omega (arith, most, apart)))))
  ]
]
  where
    by-name : Ordering
    by-name = slice_cmp nat_cmp p.name.items q.name.items

    decided : {o : Ordering} → nat_cmp p.head q.head ≡ o → is_lt (ordering_then o (ordering_then by-name (nat_cmp p.place q.place))) ≡ false
    decided e = ap (λ o. is_lt (ordering_then o (ordering_then by-name (nat_cmp p.place q.place)))) (sym e) ∙ behind
