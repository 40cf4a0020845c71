-- Elements of joined lists by their places.
use Rattle.std.proofs.Common.{◌≡◌, ℕ, zero, suc, ◌+◌, ◌<◌, ◌≤◌, List, [], ◌∷◌, ◌++◌, take, drop, length, get_or, Some, None, refl, ap, ◌∙◌, arith}
use Rattle.std.specs.List.{All, slice_get}
use Rattle.std.proofs.lemmas.List.{length-append}
use Rattle.std.proofs.lemmas.List.Folds.{length-flat_map-take}
use Rattle.dir_table.proofs.Joined.{joins, before}

module _ {X : Type 0} where
  read_first : (xs ys : List X) (j : ℕ) → j < length xs → slice_get (xs ++ ys) j ≡ slice_get xs j
  read_first [] ys j in_range = absurd (omega arith)
  read_first (x ∷ xs) ys zero in_range = refl
  read_first (x ∷ xs) ys (suc j) in_range = read_first xs ys j (omega arith)

  read_second : (xs ys : List X) (n j : ℕ) → n ≡ length xs + j → slice_get (xs ++ ys) n ≡ slice_get ys j
  read_second [] ys n j is = ap (slice_get ys) {x = n} {y = j} (omega arith)
  read_second (x ∷ xs) ys zero j is = absurd (omega arith)
  read_second (x ∷ xs) ys (suc n) j is = read_second xs ys n j (omega arith)

  pub read_none : (xs : List X) (n : ℕ) → length xs ≤ n → slice_get xs n ≡ None
  read_none [] n past = refl
  read_none (x ∷ xs) zero past = absurd (omega arith)
  read_none (x ∷ xs) (suc n) past = read_none xs n (omega arith)

  pub read_some : (xs : List X) (n : ℕ) (d : X) → n < length xs → slice_get xs n ≡ Some (get_or xs n d)
  read_some [] n d in_range = absurd (omega arith)
  read_some (x ∷ xs) zero d in_range = refl
  read_some (x ∷ xs) (suc n) d in_range = read_some xs n d (omega arith)

  read_later : (xs : List X) (xss : List (List X)) (k j : ℕ) → slice_get (joins (xs ∷ xss)) (before (xs ∷ xss) (suc k) j) ≡ slice_get (joins xss) (before xss k j)
  read_later xs xss k j = read_second xs (joins xss) (before (xs ∷ xss) (suc k) j) (before xss k j) (omega (arith, length-append xs (joins (take k xss))))

  -- within a list
  pub read_here : (xss : List (List X)) (k j : ℕ) (d : List X) → k < length xss → j < length (get_or xss k d) → slice_get (joins xss) (before xss k j) ≡ slice_get (get_or xss k d) j
  read_here [] k j d known within = absurd (omega arith)
  read_here (xs ∷ xss) zero j d known within = ap (slice_get (xs ++ joins xss)) {x = before (xs ∷ xss) zero j} {y = j} (omega arith) ∙ read_first xs (joins xss) j within
  read_here (xs ∷ xss) (suc k) j d known within = read_later xs xss k j ∙ read_here xss k j d (omega arith) within

  -- at the end of a list the first of the next one, which has some
  pub read_next : (xss : List (List X)) (k j : ℕ) (d : List X) → suc k < length xss → j ≡ length (get_or xss k d) → 0 < length (get_or xss (suc k) d)
      → slice_get (joins xss) (before xss k j) ≡ slice_get (get_or xss (suc k) d) 0
  read_next [] k j d known end some = absurd (omega arith)
  read_next (xs ∷ []) k j d known end some = absurd (omega arith)
  read_next (xs ∷ ys ∷ xss) zero j d known end some =
      read_second xs (ys ++ joins xss) (before (xs ∷ ys ∷ xss) zero j) 0 (omega arith) ∙ read_first ys (joins xss) 0 some
  read_next (xs ∷ ys ∷ xss) (suc k) j d known end some = read_later xs (ys ∷ xss) k j ∙ read_next (ys ∷ xss) k j d (omega arith) end some

  -- at the end of the last list none
  pub read_end : (xss : List (List X)) (k j : ℕ) (d : List X) → suc k ≡ length xss → j ≡ length (get_or xss k d) → slice_get (joins xss) (before xss k j) ≡ None
  read_end [] k j d last end = absurd (omega arith)
  read_end (xs ∷ []) zero j d last end = read_second xs [] (before (xs ∷ []) zero j) 0 (omega arith)
  read_end (xs ∷ ys ∷ xss) zero j d last end = absurd (omega arith)
  read_end (xs ∷ xss) (suc k) j d last end = read_later xs xss k j ∙ read_end xss k j d (omega arith) end

  -- a place in a list is one in all
  pub before_within : (xss : List (List X)) (k j : ℕ) (d : List X) → k < length xss → j ≤ length (get_or xss k d) → before xss k j ≤ length (joins xss)
  before_within xss k j d known within = omega (arith, length-flat_map-take (λ xs. xs) xss k d known)

  -- a place in a list is no later than the lists behind it
  pub before_earlier : (xss : List (List X)) (k m j : ℕ) (d : List X) → k < m → k < length xss → j ≤ length (get_or xss k d) → before xss k j ≤ length (joins (take m xss))
  before_earlier [] k m j d earlier known within = absurd (omega arith)
  before_earlier (xs ∷ xss) k zero j d earlier known within = absurd (omega arith)
  before_earlier (xs ∷ xss) zero (suc m) j d earlier known within = omega (arith, length-append xs (joins (take m xss)))
  before_earlier (xs ∷ xss) (suc k) (suc m) j d earlier known within =
      omega (arith, length-append xs (joins (take k xss)), length-append xs (joins (take m xss)), before_earlier xss k m j d (omega arith) (omega arith) within)

  pub before_in_range : (xss : List (List X)) (k j : ℕ) (d : List X) → k < length xss → j < length (get_or xss k d) → before xss k j < length (joins xss)
  before_in_range xss k j d known within = omega (arith, length-flat_map-take (λ xs. xs) xss k d known)

  -- the lists behind the first one have elements
  pub later_filled : (xss : List (List X)) (k : ℕ) → All (λ xs. 0 < length xs) (drop 1 xss) → suc k < length xss → 0 < length (get_or xss (suc k) [])
  later_filled [] k filled known = absurd (omega arith)
  later_filled (xs ∷ xss) k filled known = filled k [] (omega arith)
