-- What names begin with: a shorter front, and the order of names that begin alike.
use Rattle.std.proofs.Common.{◌≡◌, ℕ, ◌≤◌, true, List, [], ◌∷◌, length, take, drop, get_or, eqb, refl, sym, ap, ◌∙◌, arith, length-take-le}
use Rattle.std.specs.Io.{StartsWith}
use Rattle.std.specs.List.{starts_with}
use Rattle.std.specs.Ordering.{nat_cmp, ordering_then}
use Rattle.std.specs.Cmp.Lexicographic.{slice_cmp}
use Rattle.std.specs.declared.cmp.Ordering.TheVariants.{Equal}
use Rattle.std.proofs.Transfers.{starts_with_of_append, starts_with_trans}
use Rattle.std.proofs.lemmas.Bool.Decides.{nat_tests, Decides-eqb}
use Rattle.std.proofs.lemmas.List.{take-append-drop}
use Rattle.std.proofs.lemmas.Slice.Eq.{starts_is}

-- a test that found the front
pub found_starts : (name front : List ℕ) → starts_with eqb name front ≡ true → StartsWith name front
found_starts name front found = starts_with_of_append name front (drop (length front) name) ((starts_is Decides-eqb name front true (sym found)).0 refl)

-- what is as far as this name is the same
pub same_starts : (name front : List ℕ) (n : ℕ) → n ≤ length front → take n name ≡ take n front → StartsWith name (take n front)
same_starts name front n within same = ap (λ k. take k name) (length-take-le n front within) ∙ same

-- whoever begins with a front begins with a shorter one
pub shorter_starts : (name front : List ℕ) (n : ℕ) → StartsWith name front → StartsWith name (take n front)
shorter_starts name front n starts =
    starts_with_trans name front (take n front) starts (starts_with_of_append front (take n front) (drop n front) (sym (take-append-drop n front)))

pub nat_same : (x y : ℕ) → x ≡ y → nat_cmp x y ≡ Equal
nat_same x y same = grind (arith, nat_tests, same)

-- names that begin alike are in the order of what is behind
pub cmp_behind : (front xs ys : List ℕ) → StartsWith xs front → StartsWith ys front
    → slice_cmp nat_cmp xs ys ≡ slice_cmp nat_cmp (drop (length front) xs) (drop (length front) ys)
cmp_behind [] xs ys a b = refl
cmp_behind (f ∷ front) [] ys a b = cc
cmp_behind (f ∷ front) (x ∷ xs) [] a b = cc
cmp_behind (f ∷ front) (x ∷ xs) (y ∷ ys) a b =
    ap (λ o. ordering_then o (slice_cmp nat_cmp xs ys)) (nat_same x y (first a ∙ sym (first b)))
    ∙ cmp_behind front xs ys (ap (drop 1) a) (ap (drop 1) b)
  where
    first : {z : ℕ} {zs : List ℕ} → z ∷ zs ≡ f ∷ front → z ≡ f
    first e = ap (λ l. get_or l 0 0) e
