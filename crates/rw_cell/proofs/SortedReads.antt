-- The passes are taken one after another, and each one's list goes to the place of its number.
use Rattle.std.proofs.Common.{◌≡◌, ◌≢◌, ℕ, zero, suc, ◌+◌, ◌<◌, ◌≤◌, List, [], ◌∷◌, ◌++◌, map, set, length, get_or, slice_get, slice_index_or, Some, Contains, Vec, Global, sym, refl, ap, ◌∙◌, subst, inl, inr, arith, append_assoc, append-nil}
use Rattle.std.specs.List.{All}
use Rattle.std.proofs.lemmas.List.Elements.{All-nil, All-cons, All-head, All-tail}
use Rattle.std.proofs.lemmas.List.{map-append}
use mathlib.Core.Logic.{dite}
use native.Mathlib.Decide.{ℕ_discrete}
use Rattle.hist_log.specs.declared.entry.Entry.{Entry}
use Rattle.shfl_table.specs.declared.kept.Action.{Action}
use Rattle.shfl_table.specs.declared.view.Given.{Given}
use Rattle.shfl_table.specs.Histories.{HasSeen}
use Rattle.shfl_table.specs.Views.{IsAmong}
use Rattle.shfl_table.specs.Books.{action}
use Rattle.rw_cell.specs.KeptReads.{KeepsReads, answers_as}
use Rattle.rw_cell.specs.RwCells.{RwPassModel, number, given}

module _ {A : Type 0} where
  snoc-at : (xs : List A) (x : A) → slice_get (xs ++ x ∷ []) (length xs) ≡ Some x
  snoc-at [] x = refl
  snoc-at (y ∷ ys) x = snoc-at ys x

  snoc-below : (xs : List A) (x : A) (i : ℕ) → i < length xs → slice_get (xs ++ x ∷ []) i ≡ slice_get xs i
  snoc-below [] x i h = absurd (omega arith)
  snoc-below (y ∷ ys) x zero h = refl
  snoc-below (y ∷ ys) x (suc i) h = snoc-below ys x i (omega arith)

  snoc-long : (xs : List A) (x : A) → length (xs ++ x ∷ []) ≡ length xs + 1
  snoc-long [] x = refl
  snoc-long (y ∷ ys) x = let r = snoc-long ys x in omega arith

  set-here : (l : List A) (k : ℕ) (v : A) → k < length l → slice_get (set l k v) k ≡ Some v
  set-here [] k v h = absurd (omega arith)
  set-here (x ∷ xs) zero v h = refl
  set-here (x ∷ xs) (suc k) v h = set-here xs k v (omega arith)

  set-there : (l : List A) (k j : ℕ) (v : A) → j ≢ k → slice_get (set l k v) j ≡ slice_get l j
  set-there [] k j v ne = refl
  set-there (x ∷ xs) zero zero v ne = absurd (ne refl)
  set-there (x ∷ xs) zero (suc j) v ne = refl
  set-there (x ∷ xs) (suc k) zero v ne = refl
  set-there (x ∷ xs) (suc k) (suc j) v ne = set-there xs k j v (λ e. ne (ap suc e))

  same-some : (x y : A) → Some x ≡ Some y → x ≡ y
  same-some x y e = cc

  none-past : (l : List A) (i : ℕ) (p : A) → length l ≤ i → slice_get l i ≡ Some p → ⊥
  none-past [] i p h e = absurd (cc)
  none-past (x ∷ xs) zero p h e = absurd (omega arith)
  none-past (x ∷ xs) (suc i) p h e = none-past xs i p (omega arith) e

pub mapped-at : {A B : Type 0} (f : A → B) (xs : List A) (k : ℕ) (d : B) (x : A) → slice_get xs k ≡ Some x → get_or (map f xs) k d ≡ f x
mapped-at f [] k d x e = absurd (cc)
mapped-at f (y ∷ ys) zero d x e = let same : y ≡ x = cc in ap f same
mapped-at f (y ∷ ys) (suc k) d x e = mapped-at f ys k d x e

module _ {A L : Type 0} (place : A → ℕ) (R : A → L → Type 0) (orig : List A) where
  -- those that are taken have their list at their place
  abbrev pub Sorted : List A → List L → Type 0
  Sorted now lists = ((i : ℕ) → i < length now → slice_get orig i ≡ slice_get now i)
      × ((i : ℕ) (p : A) → length now ≤ i → slice_get orig i ≡ Some p → (v : L) × (slice_get lists (place p) ≡ Some v) × R p v)

  pub sorted-start : (lists : List L) → Sorted orig lists
  sorted-start lists = ((λ i h. refl), λ i p h e. absurd (none-past orig i p h e))

  sorted-more : (old new : List A) (x : A) (lists : List L) (v : L) → ((i j : ℕ) (p q : A) → slice_get orig i ≡ Some p → slice_get orig j ≡ Some q → place p ≡ place q → i ≡ j)
      → old ≡ new ++ x ∷ [] → place x < length lists → R x v → Sorted old lists → Sorted new (set lists (place x) v)
  sorted-more old new x lists v once is small fits s = let long = ap length is ∙ snoc-long new x in
      let here : slice_get orig (length new) ≡ Some x = s.0 (length new) (omega arith) ∙ (ap (λ l. slice_get l (length new)) is ∙ snoc-at new x) in (
        (λ i h. s.0 i (omega arith) ∙ (ap (λ l. slice_get l i) is ∙ snoc-below new x i h)),
        λ i p h e. dite (ℕ_discrete i (length new))
            (λ same. let q : x ≡ p = same-some x p (sym here ∙ (ap (slice_get orig) (sym same) ∙ e)) in
            subst (λ (z : A). (w : L) × (slice_get (set lists (place x) v) (place z) ≡ Some w) × R z w) q (v, set-here lists (place x) v small, fits))
            (λ ne. let old_one = s.1 i p (omega arith) e in (old_one.0, set-there lists (place x) (place p) v (λ eq. ne (once i (length new) p x e here eq)) ∙ old_one.1, old_one.2)),
      )

  pub sorted-at : (old new : List A) (x : A) (lists : List L) (v : L) (n : ℕ) → n ≡ place x → ((i j : ℕ) (p q : A) → slice_get orig i ≡ Some p → slice_get orig j ≡ Some q → place p ≡ place q → i ≡ j)
      → old ≡ new ++ x ∷ [] → place x < length lists → R x v → Sorted old lists → Sorted new (set lists n v)
  sorted-at old new x lists v n same once is small fits s = subst (λ (m : ℕ). Sorted new (set lists m v)) (sym same) (sorted-more old new x lists v once is small fits s)

module _ {A B : Type 0} (f : A → B) where
  pub given-more : (old new : List A) (x : A) (b : B) (more : List B) → old ≡ new ++ x ∷ [] → f x ≡ b → map f old ++ more ≡ map f new ++ (b ∷ more)
  given-more old new x b more is same =
      ap (λ l. map f l ++ more) is ∙ (ap (λ l. l ++ more) (map-append f new (x ∷ [])) ∙ (append_assoc (map f new) (f x ∷ []) more ∙ ap (λ c. map f new ++ (c ∷ more)) same))

  pub none-left : (xs : List A) (ys : List B) → length xs ≡ 0 → map f xs ++ ys ≡ ys
  none-left [] ys h = refl
  none-left (x ∷ xs) ys h = absurd (omega arith)

module _ {E : Type 0} where
  -- a pass of this number
  pub pass-at : (passes : List (RwPassModel E)) (k i d : ℕ) → i < length (map number passes) → slice_index_or (map number passes) i d ≡ k → (j : ℕ) × (p : RwPassModel E) × (slice_get passes j ≡ Some p) × (number p ≡ k)
  pass-at [] k i d h is = absurd (omega arith)
  pass-at (p ∷ ps) k zero d h is = (0, p, refl, is)
  pass-at (p ∷ ps) k (suc i) d h is = let r = pass-at ps k i d (omega arith) is in (suc r.0, r.1, r.2, r.3)

  pub pass-of : (passes : List (RwPassModel E)) (k : ℕ) → Contains (map number passes) k → (j : ℕ) × (p : RwPassModel E) × (slice_get passes j ≡ Some p) × (number p ≡ k)
  pass-of passes k has = pass-at passes k has.0 k has.1 has.2

  among : (passes : List (RwPassModel E)) (i : ℕ) (p : RwPassModel E) → slice_get passes i ≡ Some p → IsAmong (given p) (map given passes)
  among [] i p e = absurd (cc)
  among (q ∷ qs) zero p e = let same : q ≡ p = cc in inl (ap given (sym same))
  among (q ∷ qs) (suc i) p e = inr (among qs i p e)

  pub given-of : (passes : List (RwPassModel E)) (k : ℕ) → Contains (map number passes) k → (g : Given) × IsAmong g (map given passes) × (g.number ≡ k)
  given-of passes k has = let r = pass-of passes k has in (given r.1, among passes r.0 r.1 r.2, r.3)

  pub seen-at : (total : List Action) (passes : List (RwPassModel E)) (i : ℕ) (p : RwPassModel E) → ((g : Given) → IsAmong g (map given passes) → HasSeen total g.number g.history) → slice_get passes i ≡ Some p → HasSeen total (number p) p.seen
  seen-at total passes i p each e = each (given p) (among passes i p e)

  pub seen-of : (total : List Action) (passes : List (RwPassModel E)) → ((g : Given) → IsAmong g (map given passes) → HasSeen total g.number g.history) → All (λ p. HasSeen total (number p) p.seen) passes
  seen-of total [] each = All-nil (λ p. HasSeen total (number p) p.seen)
  seen-of total (p ∷ ps) each = All-cons (λ p. HasSeen total (number p) p.seen) p ps (each (given p) (inl refl)) (seen-of total ps (λ g h. each g (inr h)))

  pub none-given : (passes : List (RwPassModel E)) (k : ℕ) → length passes ≡ 0 → Contains (map number passes) k → ⊥
  none-given passes k none has = let r = pass-of passes k has in none-past passes r.0 r.1 (omega arith) r.2

-- the list has the reads of the pass
abbrev pub IsListOf : {O C R : Type 0} → (C → List ℕ) → (R → List ℕ) → (List ℕ → Type 0) → (List ℕ → List ℕ → List ℕ) → (List ℕ → List ℕ → List ℕ) → RwPassModel (Entry O C R) → Vec (Entry O C R) Global → Type 0
IsListOf call reply is_read reply_at state_after p v =
    (v.items ≡ p.reads) × KeepsReads (action call reply) (λ e. e.receipt) (answers_as call reply is_read reply_at state_after) p.opening (number p) p.seen p.reads

module _ {A : Type 0} where
  pub all-at : (P : A → Type 0) (xs : List A) (i : ℕ) (x : A) → All P xs → slice_get xs i ≡ Some x → P x
  all-at P [] i x all e = absurd (cc)
  all-at P (y ∷ ys) zero x all e = let same : y ≡ x = cc in subst P same (All-head P y ys all)
  all-at P (y ∷ ys) (suc i) x all e = all-at P ys i x (All-tail P y ys all) e

  pub some-at : (xs : List A) (i : ℕ) (d : A) → i < length xs → slice_get xs i ≡ Some (get_or xs i d)
  some-at [] i d h = absurd (omega arith)
  some-at (x ∷ xs) zero d h = refl
  some-at (x ∷ xs) (suc i) d h = some-at xs i d (omega arith)

  pub got-inside : (xs : List A) (i : ℕ) (x : A) → slice_get xs i ≡ Some x → i < length xs
  got-inside [] i x e = absurd (cc)
  got-inside (y ∷ ys) zero x e = omega arith
  got-inside (y ∷ ys) (suc i) x e = let r = got-inside ys i x e in omega arith
