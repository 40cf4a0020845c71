-- Lemmas on walks over any relation.
use Rattle.std.proofs.Common.{◌≡◌, ◌≢◌, ℕ, suc, ◌+◌, ◌<◌, ◌≤◌, ◌⊎◌, List, [], ◌∷◌, ◌++◌, cond, ◌==◌, refl, sym, ◌∙◌, ap, inl, inr, ⊎_elim, subst, arith}
use Rattle.std.proofs.lemmas.Bool.Decides.{nat_tests, eqb_tells}
use Rattle.shfl_line.specs.Passes.{updated, times, Chain, end, without, put_after, follower_after}

pub times-push : (q p : ℕ) (xs : List ℕ) → times q (xs ++ p ∷ []) ≡ times q xs + cond (p == q) 1 0
times-push q p [] = omega arith
times-push q p (x ∷ xs) = omega (arith, times-push q p xs)

pub end-push : (x p : ℕ) (xs : List ℕ) → end x (xs ++ p ∷ []) ≡ p
end-push x p [] = refl
end-push x p (y ∷ ys) = end-push y p ys

pub end-in : (x : ℕ) (xs : List ℕ) → 0 < times (end x xs) (x ∷ xs)
end-in x [] = grind (arith, nat_tests)
end-in x (y ∷ ys) = grind (arith, nat_tests, end-in y ys)

pub here : (x : ℕ) (xs : List ℕ) → 0 < times x (x ∷ xs)
here x xs = grind (arith, nat_tests)

pub chain-map : (R S : ℕ → ℕ → Type 0) (x : ℕ) (xs : List ℕ) → ((a b : ℕ) → 0 < times a (x ∷ xs) → 0 < times b xs → R a b → S a b) → Chain R x xs → Chain S x xs
chain-map R S x [] f c = tt
chain-map R S x (y ∷ ys) f c = (f x y (here x (y ∷ ys)) (here y ys) c.0, chain-map R S y ys (λ a b m n r. f a b (grind (arith, m)) (grind (arith, n)) r) c.1)

pub chain-push : (R : ℕ → ℕ → Type 0) (x p : ℕ) (xs : List ℕ) → Chain R x xs → R (end x xs) p → Chain R x (xs ++ p ∷ [])
chain-push R x p [] c r = (r, tt)
chain-push R x p (y ∷ ys) c r = (c.0, chain-push R y p ys c.1 r)

pub chain-both : (R S : ℕ → ℕ → Type 0) (x : ℕ) (xs : List ℕ) → Chain R x xs → Chain S x xs → Chain (λ a b. R a b × S a b) x xs
chain-both R S x [] c d = tt
chain-both R S x (y ∷ ys) c d = ((c.0, d.0), chain-both R S y ys c.1 d.1)

-- by cases on one test of two numbers
pub by_eq : {P : Type 0} (x a : ℕ) → (x ≡ a → P) → (x ≢ a → P) → P
by_eq x a f g = ⊎_elim (λ e. f e.1) (λ n. g n.1) (eqb_tells x a)

pub updated-same : {A : Type 0} (f : ℕ → A) (i : ℕ) (v : A) → updated f i v i ≡ v
updated-same f i v = grind (arith, nat_tests)

pub updated-else : {A : Type 0} (f : ℕ → A) (i q : ℕ) (v : A) → q ≢ i → updated f i v q ≡ f q
updated-else f i q v n = grind (arith, nat_tests)

-- what holds of each place holds after a change at i, where it holds of the new value
pub updated-all : {A : Type 0} (P : ℕ → A → Type 0) (f : ℕ → A) (i : ℕ) (v : A) → P i v → ((q : ℕ) → q ≢ i → P q (f q)) → (q : ℕ) → P q (updated f i v q)
updated-all P f i v h k q = by_eq q i
    (λ e. subst (λ z. P z (updated f i v z)) (sym e) (subst (λ z. P i z) (sym (updated-same f i v)) h))
    (λ n. subst (λ z. P q z) (sym (updated-else f i q v n)) (k q n))

-- what stands behind a pass of the walk
pub chain-next : (R : ℕ → ℕ → Type 0) (x : ℕ) (xs : List ℕ) (a : ℕ) → Chain R x xs → 0 < times a (x ∷ xs) → (a ≡ end x xs) ⊎ ((b : ℕ) × R a b × (0 < times b xs))
chain-next R x [] a c m = inl (grind (arith, nat_tests))
chain-next R x (y ∷ ys) a c m = by_eq x a
    (λ e. inr (y, subst (λ z. R z y) e c.0, here y ys))
    (λ n. ⊎_elim (λ e. inl e) (λ t. inr (t.0, t.1, grind (arith, t.2))) (chain-next R y ys a c.1 (grind (arith, nat_tests, m, n))))

-- what stands before a pass of the walk but its first
pub chain-prev : (R : ℕ → ℕ → Type 0) (x : ℕ) (xs : List ℕ) (b : ℕ) → Chain R x xs → 0 < times b xs → (a : ℕ) × R a b × (0 < times a (x ∷ xs))
chain-prev R x [] b c m = absurd (omega arith)
chain-prev R x (y ∷ ys) b c m = by_eq y b
    (λ e. (x, subst (λ z. R x z) e c.0, here x (y ∷ ys)))
    (λ n. let t = chain-prev R y ys b c.1 (grind (arith, nat_tests, m, n)) in (t.0, t.1, grind (arith, t.2)))

pub times-without : (q c : ℕ) (xs : List ℕ) → 0 < times c xs → times q (without c xs) + cond (c == q) 1 0 ≡ times q xs
times-without q c [] m = absurd (omega arith)
times-without q c (x ∷ xs) m = by_eq x c
    (λ e. grind (arith, nat_tests, e))
    (λ n. let ih : 0 < times c xs → times q (without c xs) + cond (c == q) 1 0 ≡ times q xs = times-without q c xs in grind (arith, nat_tests, n, ih))

pub without-hit : (y c : ℕ) (ys : List ℕ) → y ≡ c → without c (y ∷ ys) ≡ ys
without-hit y c ys e = grind (arith, nat_tests)

pub without-miss : (y c : ℕ) (ys : List ℕ) → y ≢ c → without c (y ∷ ys) ≡ y ∷ without c ys
without-miss y c ys e = grind (arith, nat_tests)

end-alike : (x y c : ℕ) (ys : List ℕ) → y ≡ c → end y ys ≢ c → end x ys ≡ end y ys
end-alike x y c [] e n = absurd (n e)
end-alike x y c (z ∷ zs) e n = refl

pub end-without : (x c : ℕ) (xs : List ℕ) → end x xs ≢ c → x ≢ c → end x (without c xs) ≡ end x xs
end-without x c [] m n = refl
end-without x c (y ∷ ys) m n = by_eq y c
    (λ e. rw (without-hit y c ys e) (end-alike x y c ys e m))
    (λ k. rw (without-miss y c ys k) (end-without y c ys m k))

times-none : (c q : ℕ) (xs : List ℕ) → times c xs ≡ 0 → 0 < times q xs → q ≢ c
times-none c q xs z m e = grind arith

-- out of the middle: every old pair but those of c stays, and what stood round c is now a pair
chain-without-hit : (R S : ℕ → ℕ → Type 0) (x c y : ℕ) (ys : List ℕ)
    → ((a b : ℕ) → 0 < times a (x ∷ y ∷ ys) → 0 < times b (y ∷ ys) → a ≢ c → b ≢ c → R a b → S a b)
    → ((a b : ℕ) → 0 < times a (x ∷ y ∷ ys) → R a c → R c b → 0 < times b (y ∷ ys) → S a b)
    → x ≢ c → y ≡ c → times c (y ∷ ys) ≤ 1 → Chain R x (y ∷ ys) → Chain S x ys
chain-without-hit R S x c y [] f g n e t h = tt
chain-without-hit R S x c y (z ∷ zs) f g n e t h =
    let zero_in : times c (z ∷ zs) ≡ 0 = grind (arith, nat_tests, t, e) in (
      g x z (here x (y ∷ z ∷ zs)) (subst (λ k. R x k) e h.0) (subst (λ k. R k z) e h.1.0) (grind (arith, here z zs)),
      chain-map R S z zs (λ a b m k r. f a b (grind (arith, m)) (grind (arith, k)) (times-none c a (z ∷ zs) zero_in m) (λ q. grind (arith, k, zero_in, q)) r) h.1.1,
    )

pub chain-without : (R S : ℕ → ℕ → Type 0) (x c : ℕ) (xs : List ℕ)
    → ((a b : ℕ) → 0 < times a (x ∷ xs) → 0 < times b xs → a ≢ c → b ≢ c → R a b → S a b)
    → ((a b : ℕ) → 0 < times a (x ∷ xs) → R a c → R c b → 0 < times b xs → S a b)
    → x ≢ c → times c xs ≤ 1 → Chain R x xs → Chain S x (without c xs)
chain-without R S x c [] f g n t h = tt
chain-without R S x c (y ∷ ys) f g n t h = by_eq y c
    (λ e. rw (without-hit y c ys e) (chain-without-hit R S x c y ys f g n e t h))
    (λ k. rw (without-miss y c ys k) (
      f x y (here x (y ∷ ys)) (here y ys) n k h.0,
      chain-without R S y c ys (λ a b p q. f a b (grind (arith, p)) (grind (arith, q))) (λ a b l p q m. g a b (grind (arith, l)) p q (grind (arith, m))) k (grind (arith, nat_tests, t, k)) h.1,
    ))

after-hit : (x l c : ℕ) (xs : List ℕ) → x ≡ l → put_after l c x xs ≡ c ∷ xs
after-hit x l c [] e = grind (arith, nat_tests)
after-hit x l c (y ∷ ys) e = grind (arith, nat_tests)

after-miss : (x l c y : ℕ) (ys : List ℕ) → x ≢ l → put_after l c x (y ∷ ys) ≡ y ∷ put_after l c y ys
after-miss x l c y ys e = grind (arith, nat_tests)

-- into the middle: every old pair but that from l stays, and c stands between
pub chain-put : (R S : ℕ → ℕ → Type 0) (x l c : ℕ) (xs : List ℕ)
    → ((a b : ℕ) → 0 < times a (x ∷ xs) → 0 < times b xs → a ≢ l → R a b → S a b)
    → S l c → ((b : ℕ) → 0 < times b xs → R l b → S c b)
    → times l (x ∷ xs) ≡ 1 → Chain R x xs → Chain S x (put_after l c x xs)
chain-put R S x l c [] f g k t h = rw (after-hit x l c [] (grind (arith, nat_tests, t))) (subst (λ z. S z c) (grind (arith, nat_tests, t)) g, tt)
chain-put R S x l c (y ∷ ys) f g k t h = by_eq x l
    (λ e. let none : times l (y ∷ ys) ≡ 0 = grind (arith, nat_tests, t, e) in
    rw (after-hit x l c (y ∷ ys) e) (
      subst (λ z. S z c) (sym e) g,
      (
        k y (here y ys) (subst (λ z. R z y) e h.0),
        chain-map R S y ys (λ a b m n r. f a b (grind (arith, m)) (grind (arith, n)) (times-none l a (y ∷ ys) none m) r) h.1,
      ),
    ))
    (λ n. rw (after-miss x l c y ys n) (
      f x y (here x (y ∷ ys)) (here y ys) n h.0,
      chain-put R S y l c ys (λ a b p q. f a b (grind (arith, p)) (grind (arith, q))) g (λ b p r. k b (grind (arith, p)) r) (grind (arith, nat_tests, t, n)) h.1,
    ))

-- where the end isn't l, it stays
pub end-put : (x l c : ℕ) (xs : List ℕ) → end x xs ≢ l → end x (put_after l c x xs) ≡ end x xs
end-put x l c [] n = grind (arith, nat_tests)
end-put x l c (y ∷ ys) n = by_eq x l
    (λ e. rw (after-hit x l c (y ∷ ys) e) refl)
    (λ k. rw (after-miss x l c y ys k) (end-put y l c ys n))

pub times-put : (q x l c : ℕ) (xs : List ℕ) → 0 < times l (x ∷ xs) → times q (put_after l c x xs) ≡ times q xs + cond (c == q) 1 0
times-put q x l c [] m = grind (arith, nat_tests, m)
times-put q x l c (y ∷ ys) m = by_eq x l
    (λ e. rw (after-hit x l c (y ∷ ys) e) (omega arith))
    (λ n. let ih : times q (put_after l c y ys) ≡ times q ys + cond (c == q) 1 0 = times-put q y l c ys (grind (arith, nat_tests, m, n)) in rw (after-miss x l c y ys n) (omega (arith, ih)))

pub follower-here : (x y : ℕ) (ys : List ℕ) → follower_after x x (y ∷ ys) ≡ suc y
follower-here x y ys = grind (arith, nat_tests)

pub follower-there : (a x y : ℕ) (ys : List ℕ) → a ≢ x → follower_after a x (y ∷ ys) ≡ follower_after a y ys
follower-there a x y ys n = grind (arith, nat_tests)

pub follower-in : (a x b : ℕ) (xs : List ℕ) → follower_after a x xs ≡ suc b → (0 < times a (x ∷ xs)) × (0 < times b xs)
follower-in a x b [] e = absurd (omega arith)
follower-in a x b (y ∷ ys) e = by_eq a x
    (λ i. let f : follower_after a x (y ∷ ys) ≡ suc y = subst (λ z. follower_after z x (y ∷ ys) ≡ suc y) (sym i) (follower-here x y ys) in (grind (arith, nat_tests, i), grind (arith, nat_tests)))
    (λ n. let t = follower-in a y b ys (sym (follower-there a x y ys n) ∙ e) in (let h = t.0 in omega arith, let h = t.1 in omega arith))

-- a relation along the walk, where no pass stands twice, so that each has one follower
pub chain-along : (R S : ℕ → ℕ → Type 0) (x : ℕ) (xs : List ℕ) → ((q : ℕ) → times q (x ∷ xs) ≤ 1) → ((a b : ℕ) → follower_after a x xs ≡ suc b → R a b → S a b) → Chain R x xs → Chain S x xs
chain-along R S x [] o f c = tt
chain-along R S x (y ∷ ys) o f c = (
  f x y (follower-here x y ys) c.0,
  chain-along R S y ys (λ q. let t = o q in omega arith)
      (λ a b e r. f a b (follower-there a x y ys (λ i. (let m = (follower-in a y b ys e).0 in let t = o a in grind (arith, nat_tests))) ∙ e) r) c.1,
)

pub chain-before : (R : ℕ → ℕ → Type 0) (x : ℕ) (xs : List ℕ) (b : ℕ) → ((q : ℕ) → times q (x ∷ xs) ≤ 1) → Chain R x xs → 0 < times b xs → (a : ℕ) × R a b × (follower_after a x xs ≡ suc b)
chain-before R x [] b o c m = absurd (omega arith)
chain-before R x (y ∷ ys) b o c m = by_eq y b
    (λ e. (x, subst (λ z. R x z) e c.0, follower-here x y ys ∙ ap suc e))
    (λ n. let t = chain-before R y ys b (λ q. let t = o q in omega arith) c.1 (grind (arith, nat_tests, m, n)) in
    (t.0, t.1, follower-there t.0 x y ys (λ i. (let m = (follower-in t.0 y b ys t.2).0 in let u = o t.0 in grind (arith, nat_tests))) ∙ t.2))

pub follower-end : (x : ℕ) (xs : List ℕ) → ((q : ℕ) → times q (x ∷ xs) ≤ 1) → follower_after (end x xs) x xs ≡ 0
follower-end x [] o = refl
follower-end x (y ∷ ys) o = follower-there (end y ys) x y ys (λ e. (let m = end-in y ys in let t = o (end y ys) in grind (arith, nat_tests))) ∙ follower-end y ys (λ q. let t = o q in omega arith)
