-- The passes ahead of one, and sums over lists of passes.
use Rattle.std.proofs.Common.{◌≡◌, ◌≢◌, ℕ, ◌+◌, ◌*◌, ◌<◌, ◌≤◌, List, [], ◌∷◌, ◌++◌, refl, sym, ap, ◌∙◌, subst, length, arith}
use Rattle.std.proofs.lemmas.Bool.Decides.{nat_tests}
use Rattle.shfl_line.specs.Passes.{times, EachPair, MarkedFirst, without, put_behind}
use Rattle.shfl_line.proofs.Chain
use Rattle.shfl_line.proofs.Marks.{chain-tail, first-marked}
use Rattle.shfl_line.proofs.Behind.{put-hit, put-miss}
use Rattle.shfl_bound.specs.Departures.{ahead}

-- the sum of f over the list
abbrev pub weigh : (ℕ → ℕ) → List ℕ → ℕ
weigh f [] = 0
weigh f (z ∷ zs) = f z + weigh f zs

pub ahead-hit : (x z : ℕ) (zs : List ℕ) → z ≡ x → ahead x (z ∷ zs) ≡ []
ahead-hit x z zs e = grind (arith, nat_tests)

pub ahead-miss : (x z : ℕ) (zs : List ℕ) → z ≢ x → ahead x (z ∷ zs) ≡ z ∷ ahead x zs
ahead-miss x z zs n = grind (arith, nat_tests)

pub weigh-cong : (f g : ℕ → ℕ) (l : List ℕ) → ((z : ℕ) → 0 < times z l → f z ≡ g z) → weigh f l ≡ weigh g l
weigh-cong f g [] h = refl
weigh-cong f g (z ∷ zs) h = let a = h z (Chain.here z zs) in let b = weigh-cong f g zs (λ y m. h y (omega arith)) in omega arith

pub weigh-mono : (f g : ℕ → ℕ) (l : List ℕ) → ((z : ℕ) → 0 < times z l → f z ≤ g z) → weigh f l ≤ weigh g l
weigh-mono f g [] h = omega arith
weigh-mono f g (z ∷ zs) h = let a = h z (Chain.here z zs) in let b = weigh-mono f g zs (λ y m. h y (omega arith)) in omega arith

pub weigh-push : (f : ℕ → ℕ) (y : ℕ) (l : List ℕ) → weigh f (l ++ y ∷ []) ≡ weigh f l + f y
weigh-push f y [] = omega arith
weigh-push f y (z ∷ zs) = let b = weigh-push f y zs in omega arith

pub weigh-without : (f : ℕ → ℕ) (y : ℕ) (l : List ℕ) → weigh f (without y l) ≤ weigh f l
weigh-without f y [] = omega arith
weigh-without f y (z ∷ zs) = let b = weigh-without f y zs in Chain.by_eq z y
    (λ e. rw (Chain.without-hit z y zs e) (omega arith))
    (λ n. rw (Chain.without-miss z y zs n) (omega arith))

-- who weighs nothing
pub weigh-less : (f : ℕ → ℕ) (y : ℕ) (l : List ℕ) → f y ≡ 0 → weigh f (without y l) ≡ weigh f l
weigh-less f y [] h = refl
weigh-less f y (z ∷ zs) h = let b = weigh-less f y zs h in Chain.by_eq z y
    (λ e. rw (Chain.without-hit z y zs e) (let a : f z ≡ 0 = subst (λ k. f k ≡ 0) (sym e) h in omega arith))
    (λ n. rw (Chain.without-miss z y zs n) (omega arith))

pub weigh-put : (f : ℕ → ℕ) (e y : ℕ) (l : List ℕ) → f y ≡ 0 → weigh f (put_behind e y l) ≡ weigh f l
weigh-put f e y [] h = refl
weigh-put f e y (z ∷ zs) h = let b = weigh-put f e y zs h in Chain.by_eq z e
    (λ i. ap (weigh f) (put-hit e y z zs i) ∙ (let c : f z + (f y + weigh f zs) ≡ f z + weigh f zs = omega arith in c))
    (λ n. ap (weigh f) (put-miss e y z zs n) ∙ ap (λ v. f z + v) b)

pub weigh-all : (k : ℕ) (l : List ℕ) → weigh (λ _. k) l ≡ k * length l
weigh-all k [] = omega arith
weigh-all k (z ∷ zs) = let b = weigh-all k zs in omega arith

pub weigh-add : (f g : ℕ → ℕ) (l : List ℕ) → weigh f l + weigh g l ≡ weigh (λ z. f z + g z) l
weigh-add f g [] = refl
weigh-add f g (z ∷ zs) = let b = weigh-add f g zs in omega arith

pub ahead-in : (x q : ℕ) (l : List ℕ) → 0 < times q (ahead x l) → 0 < times q l
ahead-in x q [] m = m
ahead-in x q (z ∷ zs) m = Chain.by_eq z x
    (λ e. absurd (let k : 0 < times q [] = subst (λ l. 0 < times q l) (ahead-hit x z zs e) m in omega arith))
    (λ n. let k : 0 < times q (z ∷ ahead x zs) = subst (λ l. 0 < times q l) (ahead-miss x z zs n) m in
    Chain.by_eq z q (λ e. grind (arith, nat_tests)) (λ d. let b = ahead-in x q zs (grind (arith, nat_tests)) in omega arith))

pub ahead-self : (x : ℕ) (l : List ℕ) → times x (ahead x l) ≡ 0
ahead-self x [] = refl
ahead-self x (z ∷ zs) = let b = ahead-self x zs in Chain.by_eq z x
    (λ e. rw (ahead-hit x z zs e) refl)
    (λ n. rw (ahead-miss x z zs n) (grind (arith, nat_tests)))

pub ahead-push : (x y : ℕ) (l : List ℕ) → 0 < times x l → ahead x (l ++ y ∷ []) ≡ ahead x l
ahead-push x y [] m = absurd (omega arith)
ahead-push x y (z ∷ zs) m = Chain.by_eq z x
    (λ e. ahead-hit x z (zs ++ y ∷ []) e ∙ sym (ahead-hit x z zs e))
    (λ n. ahead-miss x z (zs ++ y ∷ []) n ∙ (ap (λ l. z ∷ l) (ahead-push x y zs (grind (arith, nat_tests))) ∙ sym (ahead-miss x z zs n)))

-- behind the whole line everybody is ahead
pub ahead-all : (x : ℕ) (l : List ℕ) → times x l ≡ 0 → ahead x l ≡ l
ahead-all x [] m = refl
ahead-all x (z ∷ zs) m = let n : z ≢ x = (λ e. grind (arith, nat_tests)) in
    ahead-miss x z zs n ∙ ap (λ l. z ∷ l) (ahead-all x zs (grind (arith, nat_tests)))

pub ahead-end : (x : ℕ) (l : List ℕ) → times x l ≡ 0 → ahead x (l ++ x ∷ []) ≡ l
ahead-end x [] m = ahead-hit x x [] refl
ahead-end x (z ∷ zs) m = let n : z ≢ x = (λ e. grind (arith, nat_tests)) in
    ahead-miss x z (zs ++ x ∷ []) n ∙ ap (λ l. z ∷ l) (ahead-end x zs (grind (arith, nat_tests)))

pub ahead-without : (x y : ℕ) (l : List ℕ) → x ≢ y → ahead x (without y l) ≡ without y (ahead x l)
ahead-without x y [] d = refl
ahead-without x y (z ∷ zs) d = Chain.by_eq z y
    (λ e. let n : z ≢ x = (λ i. d (sym i ∙ e)) in
    ap (ahead x) (Chain.without-hit z y zs e) ∙ sym (ap (without y) (ahead-miss x z zs n) ∙ Chain.without-hit z y (ahead x zs) e))
    (λ n. ap (ahead x) (Chain.without-miss z y zs n) ∙ Chain.by_eq z x
    (λ e. ahead-hit x z (without y zs) e ∙ sym (ap (without y) (ahead-hit x z zs e)))
    (λ k. ahead-miss x z (without y zs) k ∙ (ap (λ l. z ∷ l) (ahead-without x y zs d) ∙ sym (ap (without y) (ahead-miss x z zs k) ∙ Chain.without-miss z y (ahead x zs) n))))

pub weigh-ahead : (f : ℕ → ℕ) (x : ℕ) (l : List ℕ) → weigh f (ahead x l) ≤ weigh f l
weigh-ahead f x [] = omega arith
weigh-ahead f x (z ∷ zs) = let b = weigh-ahead f x zs in Chain.by_eq z x
    (λ e. rw (ahead-hit x z zs e) (omega arith))
    (λ n. rw (ahead-miss x z zs n) (omega arith))

pub weigh-ahead-put : (f : ℕ → ℕ) (e y x : ℕ) (l : List ℕ) → f y ≡ 0 → x ≢ y → weigh f (ahead x (put_behind e y l)) ≡ weigh f (ahead x l)
weigh-ahead-put f e y x [] h d = refl
weigh-ahead-put f e y x (z ∷ zs) h d = Chain.by_eq z x
    (λ i. Chain.by_eq z e
    (λ j. ap (λ l. weigh f (ahead x l)) (put-hit e y z zs j) ∙ (ap (weigh f) (ahead-hit x z (y ∷ zs) i) ∙ sym (ap (weigh f) (ahead-hit x z zs i))))
    (λ n. ap (λ l. weigh f (ahead x l)) (put-miss e y z zs n) ∙ (ap (weigh f) (ahead-hit x z (put_behind e y zs) i) ∙ sym (ap (weigh f) (ahead-hit x z zs i)))))
    (λ k. Chain.by_eq z e
    (λ j. ap (λ l. weigh f (ahead x l)) (put-hit e y z zs j) ∙ (ap (weigh f) (ahead-miss x z (y ∷ zs) k)
    ∙ (ap (λ l. weigh f (z ∷ l)) (ahead-miss x y zs (λ i. d (sym i))) ∙ ((let q = h in omega arith) ∙ sym (ap (weigh f) (ahead-miss x z zs k))))))
    (λ n. ap (λ l. weigh f (ahead x l)) (put-miss e y z zs n) ∙ (ap (weigh f) (ahead-miss x z (put_behind e y zs) k)
    ∙ (ap (λ v. f z + v) (weigh-ahead-put f e y x zs h d) ∙ sym (ap (weigh f) (ahead-miss x z zs k))))))

-- those ahead of a pass with a batch number have one
pub ahead-marked : (m : ℕ → ℕ) (x q : ℕ) (l : List ℕ) → EachPair (MarkedFirst m) l → 0 < times x l → 0 < m x → 0 < times q (ahead x l) → 0 < m q
ahead-marked m x q [] c i k h = absurd (omega arith)
ahead-marked m x q (z ∷ zs) c i k h = Chain.by_eq z x
    (λ e. absurd (let n : 0 < times q [] = subst (λ l. 0 < times q l) (ahead-hit x z zs e) h in omega arith))
    (λ n. let a : 0 < times q (z ∷ ahead x zs) = subst (λ l. 0 < times q l) (ahead-miss x z zs n) h in
    Chain.by_eq z q
    (λ e. subst (λ v. 0 < m v) e (first-marked m z x zs c i k))
    (λ d. ahead-marked m x q zs (chain-tail (MarkedFirst m) z zs c) (grind (arith, nat_tests)) k (grind (arith, nat_tests))))
