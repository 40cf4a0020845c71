-- Where a number may make one entry more, the list has fewer entries than all numbers may make.
use Rattle.std.proofs.Common.{◌≡◌, ℕ, zero, suc, ◌+◌, ◌-◌, ◌<◌, ◌≤◌, ◌≢◌, ◌==◌, Bool, cond, List, [], ◌∷◌, ◌++◌, length, slice_index, get_or, set, get_or-set_same, get_or-set_other, sum, sym, refl, ap, ◌∙◌, subst, arith, eq-eqb, ne_eqb, length-append, append-nil}
use Rattle.std.proofs.lemmas.List.Sums.{sum_by-set, get_or-le-sum_by}
use Rattle.std.proofs.lemmas.List.Elements.{filter-append}
use mathlib.Core.Logic.{dite}
use native.Mathlib.Decide.{ℕ_discrete}
use Rattle.shared_journal.specs.Entries.{entries_by}

within : (l : List ℕ) (i : ℕ) → 0 < get_or l i 0 → i < length l
within [] i h = absurd (omega arith)
within (x ∷ xs) zero h = omega arith
within (x ∷ xs) (suc i) h = let r = within xs i h in omega arith

some-le-sum : (l : List ℕ) (i : ℕ) → 0 < get_or l i 0 → get_or l i 0 ≤ sum l
some-le-sum l i h = get_or-le-sum_by (λ x. x) l i 0 (within l i h)

module _ {E : Type 0} (worker : E → ℕ) where
  -- one entry more, of the number or of another
  pub entries_by-own : (k : ℕ) (l : List E) (e : E) → worker e ≡ k → entries_by worker k (l ++ e ∷ []) ≡ entries_by worker k l ++ e ∷ []
  entries_by-own k l e is = filter-append (λ x. worker x == k) l (e ∷ []) ∙ ap (λ (b : Bool). entries_by worker k l ++ cond b (e ∷ []) []) (eq-eqb (worker e) k is)

  pub entries_by-other : (k : ℕ) (l : List E) (e : E) → worker e ≢ k → entries_by worker k (l ++ e ∷ []) ≡ entries_by worker k l
  entries_by-other k l e ne = filter-append (λ x. worker x == k) l (e ∷ []) ∙ (ap (λ (b : Bool). entries_by worker k l ++ cond b (e ∷ []) []) (ne_eqb (worker e) k ne) ∙ append-nil (entries_by worker k l))

  count-own : (e : E) (later : List E) → length (entries_by worker (worker e) (e ∷ later)) ≡ suc (length (entries_by worker (worker e) later))
  count-own e later = ap (λ (b : Bool). length (cond b (e ∷ entries_by worker (worker e) later) (entries_by worker (worker e) later))) (eq-eqb (worker e) (worker e) refl)

  count-other : (k : ℕ) (e : E) (later : List E) → worker e ≢ k → length (entries_by worker k (e ∷ later)) ≡ length (entries_by worker k later)
  count-other k e later other = ap (λ (b : Bool). length (cond b (e ∷ entries_by worker k later) (entries_by worker k later))) (ne_eqb (worker e) k other)

  pub has_room : (total : List E) (allowed : List ℕ) (k : ℕ) → ((j : ℕ) → length (entries_by worker j total) ≤ slice_index allowed j) → length (entries_by worker k total) < slice_index allowed k → length total < sum allowed
  has_room [] allowed k fits more = let s = some-le-sum allowed k (omega arith) in omega arith
  has_room (a ∷ later) allowed k fits more = let w : ℕ = worker a in let c : ℕ = get_or allowed w 0 in
      let here = count-own a later in let mine = fits w in
      let some_left : 0 < c = omega arith in
      let fewer : List ℕ = set allowed w (c - 1) in
      let sums : sum fewer + c ≡ sum allowed + (c - 1) = sum_by-set (λ x. x) allowed w (c - 1) 0 (within allowed w some_left) in
      let fits' : (j : ℕ) → length (entries_by worker j later) ≤ slice_index fewer j = λ j. dite (ℕ_discrete j w)
      (λ is. subst (λ (i : ℕ). length (entries_by worker i later) ≤ get_or fewer i 0) (sym is) (let g = get_or-set_same allowed w (c - 1) 0 (within allowed w some_left) in omega arith))
      (λ ne. let g = get_or-set_other allowed w j (c - 1) 0 ne in let t = count-other j a later (λ h. ne (sym h)) in let f = fits j in omega arith) in
      let more' : length (entries_by worker k later) < get_or fewer k 0 = dite (ℕ_discrete k w)
      (λ is. subst (λ (i : ℕ). length (entries_by worker i later) < get_or fewer i 0) (sym is) (let g = get_or-set_same allowed w (c - 1) 0 (within allowed w some_left) in let m = subst (λ (i : ℕ). length (entries_by worker i (a ∷ later)) < get_or allowed i 0) is more in omega arith))
      (λ ne. let g = get_or-set_other allowed w k (c - 1) 0 ne in let t = count-other k a later (λ h. ne (sym h)) in omega arith) in
      let r = has_room later fewer k fits' more' in omega arith

  -- one entry more of a number that may make it
  pub one_more_fits : (total : List E) (allowed : List ℕ) (e : E) → ((j : ℕ) → length (entries_by worker j total) ≤ slice_index allowed j) → length (entries_by worker (worker e) total) < slice_index allowed (worker e)
      → (j : ℕ) → length (entries_by worker j (total ++ e ∷ [])) ≤ slice_index allowed j
  one_more_fits total allowed e fits more j = dite (ℕ_discrete (worker e) j)
      (λ is. subst (λ (i : ℕ). length (entries_by worker i (total ++ e ∷ [])) ≤ slice_index allowed i) is
      (let s = ap length (entries_by-own (worker e) total e refl) in let l = length-append (entries_by worker (worker e) total) (e ∷ []) in omega arith))
      (λ ne. let s = ap length (entries_by-other j total e ne) in let f = fits j in omega arith)
