-- The rows of all blocks after an edit of one block.
use Rattle.std.proofs.Common.{◌≡◌, ℕ, zero, suc, ◌+◌, ◌-◌, ◌<◌, ◌≤◌, List, [], ◌∷◌, ◌++◌, set, take, drop, length, get_or, sym, refl, ap, ◌∙◌, arith}
use Rattle.std.specs.List.{insert, remove, flat_map}
use Rattle.std.proofs.lemmas.List.{length-append, append_assoc, take-append-drop, set-append_left, set-append_right}
use Rattle.std.proofs.lemmas.List.Edits.{insert-append_left, insert-append_right, remove-append_left, remove-append_right}

module _ {X : Type 0} where
  abbrev pub joins : List (List X) → List X
  joins = flat_map (λ xs. xs)

  -- how many elements stand before the place j of the list k
  abbrev pub before : List (List X) → ℕ → ℕ → ℕ
  before xss k j = length (joins (take k xss)) + j

  before_next : (xs : List X) (xss : List (List X)) (k j : ℕ) → before (xs ∷ xss) (suc k) j - length xs ≡ before xss k j
  before_next xs xss k j = omega (arith, length-append xs (joins (take k xss)))

  past_first : (xs : List X) (xss : List (List X)) (k j : ℕ) → length xs ≤ before (xs ∷ xss) (suc k) j
  past_first xs xss k j = omega (arith, length-append xs (joins (take k xss)))

  pub joins-insert : (xss : List (List X)) (k j : ℕ) (x : X) (d : List X) → k < length xss → j ≤ length (get_or xss k d)
      → joins (set xss k (insert (get_or xss k d) j x)) ≡ insert (joins xss) (before xss k j) x
  joins-insert [] k j x d known within = absurd (omega arith)
  joins-insert (xs ∷ xss) zero j x d known within =
      sym (insert-append_left xs (joins xss) j x within) ∙ ap (λ n. insert (xs ++ joins xss) n x) (omega arith)
  joins-insert (xs ∷ xss) (suc k) j x d known within =
      ap (λ l. xs ++ l) (joins-insert xss k j x d (omega arith) within
      ∙ ap (λ n. insert (joins xss) n x) (sym (before_next xs xss k j)))
      ∙ sym (insert-append_right xs (joins xss) (length xs) (before (xs ∷ xss) (suc k) j) x refl (past_first xs xss k j))

  pub joins-remove : (xss : List (List X)) (k j : ℕ) (d : List X) → k < length xss → j < length (get_or xss k d)
      → joins (set xss k (remove (get_or xss k d) j)) ≡ remove (joins xss) (before xss k j)
  joins-remove [] k j d known within = absurd (omega arith)
  joins-remove (xs ∷ xss) zero j d known within =
      sym (remove-append_left xs (joins xss) j within) ∙ ap (remove (xs ++ joins xss)) (omega arith)
  joins-remove (xs ∷ xss) (suc k) j d known within =
      ap (λ l. xs ++ l) (joins-remove xss k j d (omega arith) within
      ∙ ap (remove (joins xss)) (sym (before_next xs xss k j)))
      ∙ sym (remove-append_right xs (joins xss) (length xs) (before (xs ∷ xss) (suc k) j) refl (past_first xs xss k j))

  pub joins-replaced : (xss : List (List X)) (k j : ℕ) (x : X) (d : List X) → k < length xss → j < length (get_or xss k d)
      → joins (set xss k (set (get_or xss k d) j x)) ≡ set (joins xss) (before xss k j) x
  joins-replaced [] k j x d known within = absurd (omega arith)
  joins-replaced (xs ∷ xss) zero j x d known within =
      sym (set-append_left xs (joins xss) j x within) ∙ ap (λ n. set (xs ++ joins xss) n x) (omega arith)
  joins-replaced (xs ∷ xss) (suc k) j x d known within =
      ap (λ l. xs ++ l) (joins-replaced xss k j x d (omega arith) within
      ∙ ap (λ n. set (joins xss) n x) (sym (before_next xs xss k j)))
      ∙ sym (set-append_right xs (joins xss) (length xs) (before (xs ∷ xss) (suc k) j) x refl (past_first xs xss k j))

  -- a list in two parts one after the other
  pub joins-halved : (xss : List (List X)) (k n : ℕ) (d : List X) → k < length xss
      → joins (insert (set xss k (take n (get_or xss k d))) (suc k) (drop n (get_or xss k d))) ≡ joins xss
  joins-halved [] k n d known = absurd (omega arith)
  joins-halved (xs ∷ xss) zero n d known = sym (append_assoc (take n xs) (drop n xs) (joins xss)) ∙ ap (λ l. l ++ joins xss) (take-append-drop n xs)
  joins-halved (xs ∷ xss) (suc k) n d known = ap (λ l. xs ++ l) (joins-halved xss k n d (omega arith))

  -- without a list that has no element
  pub joins-emptied : (xss : List (List X)) (k : ℕ) (d : List X) → k < length xss → get_or xss k d ≡ [] → joins (remove xss k) ≡ joins xss
  joins-emptied [] k d known empty = absurd (omega arith)
  joins-emptied (xs ∷ xss) zero d known empty = ap (λ l. l ++ joins xss) (sym empty)
  joins-emptied (xs ∷ xss) (suc k) d known empty = ap (λ l. xs ++ l) (joins-emptied xss k d (omega arith) empty)

  -- with one list more
  pub length-joins_more : (xss : List (List X)) (k : ℕ) (d : List X) → k < length xss → length (joins (take (k + 1) xss)) ≡ before xss k (length (get_or xss k d))
  length-joins_more xss k d known = ap (λ n. length (joins (take n xss))) {x = k + 1} {y = suc k} (omega arith) ∙ one_more xss k d known
    where
      one_more : (xss : List (List X)) (k : ℕ) (d : List X) → k < length xss → length (joins (take (suc k) xss)) ≡ before xss k (length (get_or xss k d))
      one_more [] k d known = absurd (omega arith)
      one_more (xs ∷ xss) zero d known = omega (arith, length-append xs [])
      one_more (xs ∷ xss) (suc k) d known =
          omega (arith, length-append xs (joins (take (suc k) xss)), length-append xs (joins (take k xss)), one_more xss k d (omega arith))

  -- the lists up to one, and those from there on
  pub length-joins_parts : (xss : List (List X)) (k : ℕ) → length (joins (take k xss)) + length (joins (drop k xss)) ≡ length (joins xss)
  length-joins_parts [] zero = omega arith
  length-joins_parts [] (suc k) = omega arith
  length-joins_parts (xs ∷ xss) zero = omega arith
  length-joins_parts (xs ∷ xss) (suc k) = omega (arith, length-append xs (joins (take k xss)), length-append xs (joins xss), length-joins_parts xss k)
