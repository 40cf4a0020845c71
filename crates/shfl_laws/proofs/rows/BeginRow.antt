-- Where a round may begin: who is numbered, who has the flag, and the prefix of the batch with the pass's own number.
use Rattle.std.proofs.Common.{◌≡◌, ◌≢◌, ℕ, zero, suc, ◌<◌, ◌≤◌, ◌⊎◌, Bool, true, false, cond, List, [], ◌∷◌, refl, sym, ap, ◌∙◌, inl, inr, subst, arith}
use Rattle.std.specs.Prelude.{Option, Some, None}
use Rattle.std.proofs.lemmas.Bool.Decides.{nat_tests}
use Rattle.shfl_line.specs.declared.events.Role.{Role}
use Rattle.shfl_line.specs.declared.events.Role.TheVariants.{Nobody, Rest, Walk}
use Rattle.shfl_line.specs.Line.{Line, mark_of, active_shuffler, idle_shuffler}
use Rattle.shfl_line.specs.Words.{link_word}
use Rattle.shfl_line.specs.Passes.{times, first, Chain, EachPair, MarkedFirst, StopsAt, IsLastMarked, follower_after}
use Rattle.shfl_line.proofs.Chain
use Rattle.shfl_line.proofs.Marks
use Rattle.shfl_core.specs.declared.phase.Phase.TheVariants.{Begin}
use Rattle.shfl_core.specs.Phases.{is_round, is_queued, knows}
use Rattle.shfl_core.specs.View.{View}
use Rattle.shfl_core.specs.Order.{Order as Ordered}
use Rattle.shfl_core.specs.Grouping.{Grouping}

abbrev nothing : Bool → ℕ
nothing b = cond b 0 0

pub no-hand : (h : Option ℕ) → link_word h ≡ 0 → h ≡ None
no-hand None e = refl
no-hand (Some x) e = absurd (omega arith)

-- nobody stands directly behind itself
no-self : (x : ℕ) (xs : List ℕ) (a : ℕ) → ((q : ℕ) → times q (x ∷ xs) ≤ 1) → follower_after a x xs ≡ suc a → ⊥
no-self x [] a once e = absurd (omega arith)
no-self x (y ∷ ys) a once e = Chain.by_eq x a
    (λ i. (let t = once a in let f : suc y ≡ suc a = sym (subst (λ z. follower_after z x (y ∷ ys) ≡ suc y) i (Chain.follower-here x y ys)) ∙ e in let s : y ≡ a = omega arith in grind (arith, nat_tests, t, i, s)))
    (λ n. no-self y ys a (λ q. (let t = once q in omega arith)) (sym (Chain.follower-there a x y ys (λ j. n (sym j))) ∙ e))

-- a round may begin in two ways: the pass has the flag, or it is the line's first and no batch stands
pub data Start (w : View) (s : Line) (p : ℕ) : Type 0 where
  Flagged : idle_shuffler s.role ≡ suc p → 0 < mark_of s p → Start w s p
  Fresh : first s.line ≡ suc p → mark_of s p ≡ 0 → s.role ≡ Nobody → Start w s p

-- who is the line's first without a number: nobody has one, so nobody shuffles
module _ (limit : ℕ) (w : View) (s : Line) (g p : ℕ) (o : Ordered w s g) (k : Grouping limit w s) where
  pub none-marked : first s.line ≡ suc p → mark_of s p ≡ 0 → (q : ℕ) → 0 < times q s.line → mark_of s q ≡ 0
  none-marked e z q m = by s.line refl e m
    where
      by : (l : List ℕ) → s.line ≡ l → first l ≡ suc p → 0 < times q l → mark_of s q ≡ 0
      by [] i e m = absurd (omega arith)
      by (x ∷ xs) i e m = let same : x ≡ p = omega arith in let prefix : Chain (MarkedFirst (mark_of s)) x xs = subst (λ l. EachPair (MarkedFirst (mark_of s)) l) i k.prefix in
          none (mark_of s q) refl x xs prefix m same
        where
          none : (n : ℕ) → mark_of s q ≡ n → (x : ℕ) (xs : List ℕ) → Chain (MarkedFirst (mark_of s)) x xs → 0 < times q (x ∷ xs) → x ≡ p → mark_of s q ≡ 0
          none zero h x xs c m same = h
          none (suc n) h x xs c m same = absurd (let a = Marks.first-marked (mark_of s) x q xs c m (omega arith) in let b : mark_of s x ≡ 0 = subst (λ y. mark_of s y ≡ 0) (sym same) z in omega arith)

  queued-stands : (q : ℕ) → is_queued (w.pass q) ≡ true → 0 < mark_of s q → 0 < times q s.line
  queued-stands q a m = let x = o.stands q in let h = k.hand q in grind (arith, nat_tests, x, a, h, m)

  nobody : first s.line ≡ suc p → mark_of s p ≡ 0 → s.role ≡ Nobody
  nobody e z = by s.role refl
    where
      by : (r : Role) → s.role ≡ r → s.role ≡ Nobody
      by Nobody i = i
      by (Rest x) i = absurd (let a = k.rests x (ap idle_shuffler i) in let b = none-marked e z x a.inside in let c = a.marked in omega arith)
      by (Walk x) i = absurd (let a = k.walker x (ap active_shuffler i) in let q : is_queued (w.pass x) ≡ true = (let r = a.0 in grind (arith, r)) in let b = none-marked e z x (queued-stands x q a.1) in let c = a.1 in omega arith)

  pub start : (w.pass p).phase ≡ Begin → Start w s p
  start f = by (w.pass p).reg.flag refl
    where
      by : (b : Bool) → (w.pass p).reg.flag ≡ b → Start w s p
      by true e = let n = k.known p (ap knows f) in let i = k.flagged p (grind (arith, f)) (sym n.1 ∙ e) in Flagged i (k.rests p i).marked
      by false e = let b = k.begins p f e in let n = k.known p (ap knows f) in let z : mark_of s p ≡ 0 = k.mark p ∙ ((λ j. cond (is_queued (w.pass p)) ((sym n.0 ∙ b.1) j) 0) ∙ same (is_queued (w.pass p))) in
          let e1 = (o.fronted.only p (grind (arith, f)) (let h = b.0 in grind (arith, f, h))).0 in Fresh e1 z (nobody e1 z)
        where
          same : (b : Bool) → nothing b ≡ 0
          same true = refl
          same false = refl

  pub no-walker : Start w s p → active_shuffler s.role ≡ 0
  no-walker (Flagged i m) = by s.role refl i
    where
      by : (r : Role) → s.role ≡ r → idle_shuffler s.role ≡ suc p → active_shuffler s.role ≡ 0
      by Nobody e i = ap active_shuffler e
      by (Rest x) e i = ap active_shuffler e
      by (Walk x) e i = absurd (let z : idle_shuffler s.role ≡ 0 = ap idle_shuffler e in omega arith)
  no-walker (Fresh e z r) = ap active_shuffler r

  pub not-round : Start w s p → (q : ℕ) → is_round (w.pass q).phase ≡ true → ⊥
  not-round b q e = let x = k.walks q e in let y = no-walker b in absurd (omega arith)

  -- nobody else has the flag
  pub no-flag : Start w s p → (q : ℕ) → q ≢ p → is_queued (w.pass q) ≡ true → (w.node q).shuffler ≡ true → ⊥
  no-flag (Flagged i m) q n a b = let x = k.flagged q a b in n (let y : q ≡ p = omega arith in y)
  no-flag (Fresh e z r) q n a b = let x = k.flagged q a b in let y : idle_shuffler s.role ≡ 0 = ap idle_shuffler r in absurd (omega arith)

  pub in-line : Start w s p → is_queued (w.pass p) ≡ true → 0 < times p s.line
  in-line b a = let x = o.stands p in let y = still b in grind (arith, nat_tests, x, a, y)
    where
      still : Start w s p → link_word s.hand ≡ 0
      still b = ap link_word (o.still (no-walker b))

  pub hand-empty : Start w s p → link_word s.hand ≡ 0
  hand-empty b = ap link_word (o.still (no-walker b))

  pub begins-from : Start w s p → (idle_shuffler s.role ≡ suc p) ⊎ ((first s.line ≡ suc p) × (mark_of s p ≡ 0) × (s.role ≡ Nobody))
  begins-from (Flagged i m) = inl i
  begins-from (Fresh e z r) = inr (e, z, r)

  -- the marks afterwards
  module _ (b : Start w s p) (inside : 0 < times p s.line) (m : ℕ → ℕ) (else : (q : ℕ) → q ≢ p → m q ≡ mark_of s q) (own : 0 < m p) where
    -- nobody behind the pass is marked by its number alone
    pub begun-prefix : EachPair (MarkedFirst m) s.line
    begun-prefix = by s.line refl inside
      where
        by : (l : List ℕ) → s.line ≡ l → 0 < times p l → EachPair (MarkedFirst m) l
        by [] i h = tt
        by (x ∷ xs) i h = Chain.chain-map (MarkedFirst (mark_of s)) (MarkedFirst m) x xs
            (λ a c k1 k2 r l. Chain.by_eq a p
            (λ e. subst (λ z. 0 < m z) (sym e) own)
            (λ n. subst (λ z. 0 < z) (sym (else a n)) (Chain.by_eq c p
            (λ e. from b i a c k2 e r)
            (λ d. r (subst (λ z. 0 < z) (else c d) l)))))
            (subst (λ l. EachPair (MarkedFirst (mark_of s)) l) i k.prefix)
          where
            from : Start w s p → s.line ≡ x ∷ xs → (a c : ℕ) → 0 < times c xs → c ≡ p → MarkedFirst (mark_of s) a c → 0 < mark_of s a
            from (Flagged i m) j a c h e r = r (subst (λ z. 0 < mark_of s z) (sym e) m)
            from (Fresh e1 z q) j a c h e r = absurd (let once = o.stands p in let l : times p s.line ≡ times p (x ∷ xs) = ap (times p) j in let f : first s.line ≡ suc x = ap first j in
                let same : x ≡ p = omega arith in let t : 0 < times p xs = subst (λ z. 0 < times z xs) e h in let u : times p (x ∷ xs) ≤ 1 = grind (arith, nat_tests, once, l) in grind (arith, nat_tests, t, u, same))

    pub begun-last : IsLastMarked m s.line p
    begun-last = record { inside = inside; marked = own; stops = by s.line refl }
      where
        by : (l : List ℕ) → s.line ≡ l → EachPair (StopsAt m p) l
        by [] i = tt
        by (x ∷ xs) i = Chain.chain-along (StopsAt (mark_of s) p) (StopsAt m p) x xs once
            (λ a c f r e. let n : c ≢ p = (λ d. behind-self a c f e d) in else c n ∙ r e)
            (stops b i)
          where
            once : (q : ℕ) → times q (x ∷ xs) ≤ 1
            once q = let u = o.stands q in let l : times q s.line ≡ times q (x ∷ xs) = ap (times q) i in grind (arith, nat_tests, u, l)

            behind-self : (a c : ℕ) → follower_after a x xs ≡ suc c → a ≡ p → c ≡ p → ⊥
            behind-self a c f e d = let same : a ≡ c = e ∙ sym d in no-self x xs a once (f ∙ ap suc (sym same))

            stops : Start w s p → s.line ≡ x ∷ xs → Chain (StopsAt (mark_of s) p) x xs
            stops (Flagged j m) i = subst (λ l. EachPair (StopsAt (mark_of s) p) l) i (k.rests p j).stops
            stops (Fresh e z r) i = Chain.chain-map (λ a c. Unit {0}) (StopsAt (mark_of s) p) x xs (λ a c k1 k2 _ _. none-marked e z c (subst (λ l. 0 < times c l) (sym i) (let y : 0 < times c (x ∷ xs) = omega arith in y))) (units x xs)
              where
                units : (x : ℕ) (xs : List ℕ) → Chain (λ a c. Unit {0}) x xs
                units x [] = tt
                units x (y ∷ ys) = (tt, units y ys)
