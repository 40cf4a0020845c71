-- The passes of threads at a lock, where one thread changes.
use Rattle.std.proofs.Common.{◌≡◌, ◌≢◌, ℕ, zero, suc, ◌+◌, ◌==◌, ◌⊎◌, Bool, true, false, cond, List, [], ◌∷◌, get_or, set, refl, sym, ap, ◌∙◌, inl, inr, ⊎_elim, arith}
use Rattle.std.specs.Prelude.{Option, Some, None, ◌&&◌, ◌||◌, not}
use Rattle.std.proofs.lemmas.Bool.Decides.{nat_tests}
use mathlib.Core.Option.{some, some-injective, some-ne-none}
use lib.ListN.{get_elem?}
use Rattle.shfl_line.specs.declared.events.Mode.{Mode}
use Rattle.shfl_line.proofs.Chain
use Rattle.shfl_core.specs.declared.phase.Phase.TheVariants.{Idle, Held, Swap}
use Rattle.shfl_core.specs.declared.phase.PassState.{PassState}
use Rattle.shfl_core.specs.Phases.{rank, queued_rank}
use Rattle.shfl_arena.specs.Nodes.{is_swap, uses_node}
use Rattle.shfl_laws.proofs.laws.MoveLaws.{resting-is}
use Rattle.shfl_core.specs.declared.phase.Phase.{Phase}
use Rattle.shfl_core.specs.Worlds.{known}
use Rattle.shfl_core.specs.Plan.{moving, is_idle, is_held, is_resting}
use Rattle.shfl_core.specs.Waiting.{idle}
use Rattle.shfl_arena.specs.declared.view.ThreadView.{ThreadView}
use Rattle.shfl_arena.specs.Threads.{new_thread, thread_at, is_at, MayStepAt, node_in_use, uses_own_node, mode_held, without_lock, pass_at_rest, pass_at, passes_from, holds_after, thread_after}

pub passes-set : (l i : ℕ) (vs : List ThreadView) (k : ℕ) (w : ThreadView) → passes_from l i (set vs k w) ≡ set (passes_from l i vs) k (pass_at l (i + k) w)
passes-set l i [] k w = refl
passes-set l i (x ∷ xs) zero w = ap (λ n. pass_at l n w ∷ passes_from l (suc i) xs) (let e : i ≡ i + 0 = omega arith in e)
passes-set l i (x ∷ xs) (suc k) w = ap (λ z. pass_at l i x ∷ z) (passes-set l (suc i) xs k w ∙ ap (λ n. set (passes_from l (suc i) xs) k (pass_at l n w)) (let e : suc i + k ≡ i + suc k = omega arith in e))

pub passes-at : (l i : ℕ) (vs : List ThreadView) (k : ℕ) (v : ThreadView) → get_elem? vs k ≡ some v → get_elem? (passes_from l i vs) k ≡ some (pass_at l (i + k) v)
passes-at l i [] k v e = absurd (some-ne-none v (sym e))
passes-at l i (x ∷ xs) zero v e = ap (λ (u : ThreadView). some (pass_at l i u)) (some-injective x v e) ∙ ap (λ n. some (pass_at l n v)) (let e : i ≡ i + 0 = omega arith in e)
passes-at l i (x ∷ xs) (suc k) v e = passes-at l (suc i) xs k v e ∙ ap (λ n. some (pass_at l n v)) (let e : suc i + k ≡ i + suc k = omega arith in e)

-- the tests of a thread's lock
abbrev pub is_here : ℕ → ThreadView → Bool
is_here l v = is_at l v.at

pub at-lock : (l : ℕ) (o : Option ℕ) → o ≡ Some l → is_at l o ≡ true
at-lock l o e = ap (is_at l) e ∙ (let x : (l == l) ≡ true = grind (arith, nat_tests) in x)

pub same-lock : (m l : ℕ) (o : Option ℕ) → o ≡ Some m → o ≡ Some l → m ≡ l
same-lock m l o i j = let x : (m == l) ≡ true = sym (ap (is_at l) i) ∙ at-lock l o j in grind (arith, nat_tests)

pub none-at : (m : ℕ) (o : Option ℕ) → o ≡ None → o ≡ Some m → ⊥
none-at m o i j = let x : is_at m o ≡ false = ap (is_at m) i in let y = at-lock m o j in cc

pub at-here : (l : ℕ) (v : ThreadView) → v.at ≡ Some l → is_here l v ≡ true
at-here l v e = at-lock l v.at e

pub at-none : (l : ℕ) (v : ThreadView) → v.at ≡ None → is_here l v ≡ false
at-none l v e = ap (is_at l) e

pub at-other : (m l : ℕ) (v : ThreadView) → v.at ≡ Some l → m ≢ l → is_here m v ≡ false
at-other m l v e n = ap (is_at m) e ∙ (let x : (l == m) ≡ false = grind (arith, nat_tests) in x)

pub at-tells : (l : ℕ) (v : ThreadView) → is_here l v ≡ true → v.at ≡ Some l
at-tells l v e = by v.at e
  where
    by : (o : Option ℕ) → is_at l o ≡ true → o ≡ Some l
    by None h = absurd (cc)
    by (Some m) h = ap Some (let x : m ≡ l = grind (arith, nat_tests) in x)

-- who stands where; a thread that isn't there has an idle pass
passes-or : (l i : ℕ) (vs : List ThreadView) (r : ℕ) → get_or (passes_from l i vs) r (idle (i + r)) ≡ pass_at l (i + r) (thread_at vs r)
passes-or l i [] r = sym (ap (λ b. cond b (idle 0) (idle (i + r))) (at-none l new_thread refl))
passes-or l i (x ∷ xs) zero = ap (λ n. pass_at l n x) (let e : i ≡ i + 0 = omega arith in e)
passes-or l i (x ∷ xs) (suc r) = ap (λ n. get_or (passes_from l (suc i) xs) r (idle n)) (let e : i + suc r ≡ suc i + r = omega arith in e) ∙ (passes-or l (suc i) xs r ∙ ap (λ n. pass_at l n (thread_at xs r)) (let e : suc i + r ≡ i + suc r = omega arith in e))

pub passes-known : (l : ℕ) (vs : List ThreadView) (r : ℕ) → known (passes_from l 0 vs) r ≡ pass_at l r (thread_at vs r)
passes-known l vs r = let e : r ≡ 0 + r = omega arith in ap (λ n. get_or (passes_from l 0 vs) r (idle n)) e ∙ (passes-or l 0 vs r ∙ ap (λ n. pass_at l n (thread_at vs r)) (sym e))

-- who isn't at the lock uses no node there
pub off-unused : (k : ℕ) (h : Option Mode) → uses_node (pass_at_rest k h) ≡ false
off-unused k None = refl
off-unused k (Some m) = refl

pub off-at : (l k : ℕ) (v : ThreadView) → is_here l v ≡ false → pass_at l k v ≡ pass_at_rest k (mode_held l v.holds)
off-at l k v e = ap (λ b. cond b v.pass (pass_at_rest k (mode_held l v.holds))) e

pub on-at : (l k : ℕ) (v : ThreadView) → v.at ≡ Some l → pass_at l k v ≡ v.pass
on-at l k v e = ap (λ b. cond b v.pass (pass_at_rest k (mode_held l v.holds))) (at-here l v e)

pub uses-at : (l k : ℕ) (v : ThreadView) → uses_node (pass_at l k v) ≡ true → v.at ≡ Some l
uses-at l k v h = by (is_here l v) refl
  where
    by : (b : Bool) → is_here l v ≡ b → v.at ≡ Some l
    by true e = at-tells l v e
    by false e = absurd (let x : uses_node (pass_at l k v) ≡ false = ap uses_node (off-at l k v e) ∙ off-unused k (mode_held l v.holds) in cc)

in-use-at : (l : ℕ) (v : ThreadView) → v.at ≡ Some l → uses_own_node v ≡ uses_node v.pass
in-use-at l v e = ap (λ o. node_in_use o v.pass) e

-- whose node isn't in use uses none at the lock
pub unused-at : (l k : ℕ) (v : ThreadView) → uses_own_node v ≡ false → uses_node (pass_at l k v) ≡ false
unused-at l k v h = by (uses_node (pass_at l k v)) refl
  where
    by : (b : Bool) → uses_node (pass_at l k v) ≡ b → uses_node (pass_at l k v) ≡ false
    by true e = absurd (let i = uses-at l k v e in let u : uses_node v.pass ≡ true = sym (ap uses_node (on-at l k v i)) ∙ e in
        let x : uses_own_node v ≡ true = in-use-at l v i ∙ u in cc)
    by false e = e

-- and the other way round, where the thread is at this lock or at none
pub at-unused : (l k : ℕ) (v : ThreadView) → MayStepAt l v → uses_node (pass_at l k v) ≡ false → uses_own_node v ≡ false
at-unused l k v where_it_is h = ⊎_elim (λ e. ap (λ o. node_in_use o v.pass) e)
    (λ e. (let u : uses_node v.pass ≡ false = sym (ap uses_node (on-at l k v e)) ∙ h in in-use-at l v e ∙ u)) where_it_is

-- the locks that are held, where one more is or is no more
pub mode-none : (l : ℕ) (h : List (ℕ × Mode)) → mode_held l (without_lock l h) ≡ None
mode-none l [] = refl
mode-none l (x ∷ xs) = by (x.0 == l) refl (mode-none l xs)
  where
    by : (b : Bool) → (x.0 == l) ≡ b → mode_held l (without_lock l xs) ≡ None → mode_held l (cond b (without_lock l xs) (x ∷ without_lock l xs)) ≡ None
    by true e h = h
    by false e h = ap (λ c. cond c (Some x.1) (mode_held l (without_lock l xs))) e ∙ h

mode-without : (m l : ℕ) (h : List (ℕ × Mode)) → m ≢ l → mode_held m (without_lock l h) ≡ mode_held m h
mode-without m l [] n = refl
mode-without m l (x ∷ xs) n = Chain.by_eq x.0 l
    (λ e. let a : (x.0 == l) ≡ true = grind (arith, nat_tests) in let b : (x.0 == m) ≡ false = grind (arith, nat_tests) in
    ap (λ c. mode_held m (cond c (without_lock l xs) (x ∷ without_lock l xs))) a ∙ (mode-without m l xs n ∙ sym (ap (λ c. cond c (Some x.1) (mode_held m xs)) b)))
    (λ e. let a : (x.0 == l) ≡ false = grind (arith, nat_tests) in
    ap (λ c. mode_held m (cond c (without_lock l xs) (x ∷ without_lock l xs))) a ∙ ap (λ z. cond (x.0 == m) (Some x.1) z) (mode-without m l xs n))

pub mode-holds-after : (m l : ℕ) (q : PassState) (h : List (ℕ × Mode)) → m ≢ l → mode_held m (holds_after l q h) ≡ mode_held m h
mode-holds-after m l q h n = by (is_held q.phase)
  where
    by : (b : Bool) → mode_held m (cond b ((l, q.reg.mode) ∷ without_lock l h) (without_lock l h)) ≡ mode_held m h
    by true = let a : (l == m) ≡ false = grind (arith, nat_tests) in ap (λ c. cond c (Some q.reg.mode) (mode_held m (without_lock l h))) a ∙ mode-without m l h n
    by false = mode-without m l h n

-- at another lock the thread is as it was
pub moved-else : (m l k : ℕ) (q : PassState) (v : ThreadView) → m ≢ l → is_here m v ≡ false → (is_here m (thread_after l q v) ≡ false) × (pass_at m k (thread_after l q v) ≡ pass_at m k v)
moved-else m l k q v n off = by (moving q)
  where
    was : pass_at m k v ≡ pass_at_rest k (mode_held m v.holds)
    was = ap (λ b. cond b v.pass (pass_at_rest k (mode_held m v.holds))) off

    by : (b : Bool) → (is_here m (cond b (record v { at = Some l; pass = q }) (record v { at = None; holds = holds_after l q v.holds })) ≡ false)
        × (pass_at m k (cond b (record v { at = Some l; pass = q }) (record v { at = None; holds = holds_after l q v.holds })) ≡ pass_at m k v)
    by true = let a : is_here m (record v { at = Some l; pass = q }) ≡ false = at-other m l (record v { at = Some l; pass = q }) refl n in
        (a, ap (λ b. cond b q (pass_at_rest k (mode_held m v.holds))) a ∙ sym was)
    by false = let a : is_here m (record v { at = None; holds = holds_after l q v.holds }) ≡ false = at-none m (record v { at = None; holds = holds_after l q v.holds }) refl in
        (a, ap (λ b. cond b v.pass (pass_at_rest k (mode_held m (holds_after l q v.holds)))) a ∙ (ap (pass_at_rest k) (mode-holds-after m l q v.holds n) ∙ sym was))

-- at the lock it is where the operation led
pub moved-moves : (l k : ℕ) (q : PassState) (v : ThreadView) → moving q ≡ true → (is_here l (thread_after l q v) ≡ true) × (pass_at l k (thread_after l q v) ≡ q)
moved-moves l k q v e = let s : thread_after l q v ≡ record v { at = Some l; pass = q } = ap (λ b. cond b (record v { at = Some l; pass = q }) (record v { at = None; holds = holds_after l q v.holds })) e in
    let a : is_here l (record v { at = Some l; pass = q }) ≡ true = at-here l (record v { at = Some l; pass = q }) refl in
    (ap (is_here l) s ∙ a, ap (pass_at l k) s ∙ ap (λ b. cond b q (pass_at_rest k (mode_held l v.holds))) a)

-- and else it does nothing there, or holds it at rest
pub still-is : (q : PassState) → moving q ≡ false → (q.phase ≡ Idle) ⊎ (is_resting q ≡ true)
still-is q e = by (is_idle q.phase) refl (is_resting q) refl
  where
    by : (b : Bool) → is_idle q.phase ≡ b → (c : Bool) → is_resting q ≡ c → (q.phase ≡ Idle) ⊎ (is_resting q ≡ true)
    by true f c g = inl (grind arith)
    by false f true g = inr g
    by false f false g = absurd (let x : moving q ≡ true = (λ j. not (f j) && not (g j)) in cc)

pub or-false : (b c : Bool) → (b || c) ≡ false → (b ≡ false) × (c ≡ false)
or-false true c e = absurd (cc)
or-false false c e = (refl, e)

pub swap-is : (f : Phase) → is_swap f ≡ false → f ≢ Swap
swap-is f e i = let x : is_swap f ≡ true = ap is_swap i in cc

pub still-unused : (q : PassState) → moving q ≡ false → uses_node q ≡ false
still-unused q e = ⊎_elim (λ f. (λ j. queued_rank (rank (f j)) || is_swap (f j))) (λ r. (let f = (resting-is q r).0 in λ j. queued_rank (rank (f j)) || is_swap (f j))) (still-is q e)

pub uses-moves : (q : PassState) → uses_node q ≡ true → moving q ≡ true
uses-moves q u = by (moving q) refl
  where
    by : (b : Bool) → moving q ≡ b → moving q ≡ true
    by true e = e
    by false e = absurd (let x = still-unused q e in cc)

pub still-at : (l k : ℕ) (q : PassState) (v : ThreadView) → moving q ≡ false → (thread_after l q v).at ≡ None
still-at l k q v e = ap (λ b. (cond b (record v { at = Some l; pass = q }) (record v { at = None; holds = holds_after l q v.holds })).at) e

moved-still : (l k : ℕ) (q : PassState) (v : ThreadView) → moving q ≡ false → pass_at l k (thread_after l q v) ≡ pass_at_rest k (mode_held l (holds_after l q v.holds))
moved-still l k q v e = let s : thread_after l q v ≡ record v { at = None; holds = holds_after l q v.holds } = ap (λ b. cond b (record v { at = Some l; pass = q }) (record v { at = None; holds = holds_after l q v.holds })) e in
    ap (pass_at l k) s ∙ ap (λ b. cond b v.pass (pass_at_rest k (mode_held l (holds_after l q v.holds)))) (at-none l (record v { at = None; holds = holds_after l q v.holds }) refl)

pub still-idle : (l k : ℕ) (q : PassState) (v : ThreadView) → moving q ≡ false → q.phase ≡ Idle → pass_at l k (thread_after l q v) ≡ pass_at_rest k None
still-idle l k q v e f = moved-still l k q v e ∙ ap (pass_at_rest k) (ap (λ g. mode_held l (cond (is_held g) ((l, q.reg.mode) ∷ without_lock l v.holds) (without_lock l v.holds))) f ∙ mode-none l v.holds)

pub still-held : (l k : ℕ) (q : PassState) (v : ThreadView) → moving q ≡ false → q.phase ≡ Held → pass_at l k (thread_after l q v) ≡ pass_at_rest k (Some q.reg.mode)
still-held l k q v e f = moved-still l k q v e ∙ ap (pass_at_rest k) (ap (λ g. mode_held l (cond (is_held g) ((l, q.reg.mode) ∷ without_lock l v.holds) (without_lock l v.holds))) f ∙
    ap (λ b. cond b (Some q.reg.mode) (mode_held l (without_lock l v.holds))) (let x : (l == l) ≡ true = grind (arith, nat_tests) in x))

-- the pass that the thread shows at the lock then uses its node as the one that the operation led to
pub moved-uses : (l k : ℕ) (q : PassState) (v : ThreadView) → uses_node (pass_at l k (thread_after l q v)) ≡ uses_node q
moved-uses l k q v = by (moving q) refl
  where
    by : (b : Bool) → moving q ≡ b → uses_node (pass_at l k (thread_after l q v)) ≡ uses_node q
    by true e = ap uses_node (moved-moves l k q v e).1
    by false e = ap uses_node (moved-still l k q v e) ∙ (off-unused k (mode_held l (holds_after l q v.holds)) ∙ sym (still-unused q e))

pub moved-in-use : (l : ℕ) (q : PassState) (v : ThreadView) → uses_own_node (thread_after l q v) ≡ false → uses_node q ≡ false
moved-in-use l q v h = by (moving q) refl
  where
    by : (b : Bool) → moving q ≡ b → uses_node q ≡ false
    by true e = sym (in-use-at l (record v { at = Some l; pass = q }) refl) ∙ (sym (ap (λ b. uses_own_node (cond b (record v { at = Some l; pass = q }) (record v { at = None; holds = holds_after l q v.holds }))) e) ∙ h)
    by false e = still-unused q e
