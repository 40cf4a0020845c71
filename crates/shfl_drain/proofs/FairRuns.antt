-- What a window in which every pass with a step makes one does to what is left.
use Rattle.std.proofs.Common.{◌≡◌, ℕ, ◌<◌, ◌≤◌, ◌⊎◌, List, [], ◌∷◌, Bool, true, false, cond, ◌==◌, get_or-set_other, refl, sym, ap, ◌∙◌, inl, inr, subst, ⊎_elim, arith}
use Rattle.std.specs.Prelude.{◌||◌, ◌&&◌, not}
use Rattle.std.proofs.lemmas.Bool.Decides.{nat_tests}
use Rattle.shfl_line.proofs.Chain
use Rattle.shfl_core.specs.Words.{look, site}
use Rattle.shfl_core.specs.Plan.{plan, moving, is_resting, is_idle}
use Rattle.shfl_core.specs.Take.{take, released}
use Rattle.shfl_core.specs.Waiting.{idle}
use Rattle.shfl_core.specs.Worlds.{World, known, stepped, placed_at, Move, Acquire, Release, Step, after_move, run}
use Rattle.shfl_core.specs.Lawful.{Terms, Lawful, Advances}
use Rattle.shfl_laws.specs.Moves.{move_event}
use Rattle.shfl_drain.specs.GoingOn.{goes_on}
use Rattle.shfl_drain.specs.Drain.{is_acquire}
use Rattle.shfl_drain.specs.Schedules.{NoNewcomer}
use Rattle.shfl_drain.specs.Windows.{has_step, has_release}
use Rattle.shfl_drain.proofs.Bools.{true-or, true-not-false}
use Rattle.shfl_drain.proofs.Number.{number}
use Rattle.shfl_drain.proofs.DrainNumber.{keeps, goes-lowers, release-leaves, step-leaves, moving-below}
use Rattle.shfl_drain.proofs.FewMoves.{counted, moved}
use Rattle.shfl_drain.proofs.Calm.{calm-by, still-goes-on}

or-first : (a b : Bool) → a ≡ true → (a || b) ≡ true
or-first a b e = ap (λ z. z || b) e

or-rest : (a b : Bool) → a ≡ false → (a || b) ≡ true → b ≡ true
or-rest true b e f = absurd (cc)
or-rest false b e f = f

-- less is left after the moves, in a lawful world
pub record Fallen (t : Terms) (w : World) (ok : Lawful t w) (moves : List Move) : Type 0 where
  pub lawful : Lawful t (run t.rules w moves)
  pub falls : number t (run t.rules w moves) lawful < number t w ok

-- no more is left, and the pass stands as it did
pub record Stays (t : Terms) (w : World) (ok : Lawful t w) (moves : List Move) (p : ℕ) : Type 0 where
  pub lawful : Lawful t (run t.rules w moves)
  pub keeps : number t (run t.rules w moves) lawful ≤ number t w ok
  pub same : is_resting (known (run t.rules w moves).passes p) ≡ true

-- a fall at the first move, or behind it
first-falls : (t : Terms) (w : World) (ok : Lawful t w) (m : Move) (rest : List Move) (a : Advances t w ok (move_event t.rules w m) (after_move t.rules w m)) → NoNewcomer rest
    → number t (after_move t.rules w m) a.lawful < number t w ok → Fallen t w ok (m ∷ rest)
first-falls t w ok m rest a none h = let c = counted t rest (after_move t.rules w m) a.lawful none in record { lawful = c.lawful; falls = (let x = c.counts in omega arith) }

rest-falls : (t : Terms) (w : World) (ok : Lawful t w) (m : Move) (rest : List Move) (a : Advances t w ok (move_event t.rules w m) (after_move t.rules w m)) → is_acquire m ≡ false
    → Fallen t (after_move t.rules w m) a.lawful rest → Fallen t w ok (m ∷ rest)
rest-falls t w ok m rest a e f = record { lawful = f.lawful; falls = (let x = f.falls in let y = keeps t w ok m a e in omega arith) }

-- a pass that goes on, goes on until it makes its step, unless less is left before
pub falls-in : (t : Terms) (p : ℕ) (moves : List Move) (w : World) (ok : Lawful t w) → NoNewcomer moves → goes_on w p ≡ true → has_step p moves ≡ true → Fallen t w ok moves
falls-in t p [] w ok none g s = absurd (cc)
falls-in t p (Acquire q mode ∷ rest) w ok none g s = absurd (let e = none.0 in cc)
falls-in t p (Release q ∷ rest) w ok none g s = ⊎_elim
    (λ e. first-falls t w ok (Release q) rest (moved t w ok (Release q) refl) none.1 (release-leaves t w ok q (moved t w ok (Release q) refl) e))
    (λ e. rest-falls t w ok (Release q) rest (moved t w ok (Release q) refl) refl
    (falls-in t p rest (after_move t.rules w (Release q)) (moved t w ok (Release q) refl).lawful none.1
    (subst (λ z. goes_on z p ≡ true) (sym (ap (λ b. cond b (placed_at w q (released (known w.passes q))) w) e)) g) s))
    (true-or (is_resting (known w.passes q)))
falls-in t p (Step q c ∷ rest) w ok none g s = Chain.by_eq q p
    (λ e. first-falls t w ok (Step q c) rest (moved t w ok (Step q c) refl) none.1 (goes-lowers t w ok q c (moved t w ok (Step q c) refl) (subst (λ z. goes_on w z ≡ true) (sym e) g)))
    (λ n. let later : has_step p rest ≡ true = or-rest (q == p) (has_step p rest) (let z : (q == p) ≡ false = grind (arith, nat_tests, n) in z) s in ⊎_elim
    (λ m. ⊎_elim
    (λ l. first-falls t w ok (Step q c) rest (moved t w ok (Step q c) refl) none.1 l)
    (λ l. rest-falls t w ok (Step q c) rest (moved t w ok (Step q c) refl) refl
    (falls-in t p rest (after_move t.rules w (Step q c)) (moved t w ok (Step q c) refl).lawful none.1
    (subst (λ z. goes_on z p ≡ true) (sym (ap (λ b. cond b (stepped t.rules w q (known w.passes q) c) w) m))
    (still-goes-on w (stepped t.rules w q (known w.passes q) c) p
    (get_or-set_other w.passes q p (take t.rules q (known w.passes q) (look w.words (site (plan t.rules q (known w.passes q)))) c) (idle p) (λ i. n (sym i)))
    (calm-by t w ok p q n (moving-below t w ok q m) (known w.passes q).nap refl l.1) g)) later))
    (step-leaves t w ok q c (moved t w ok (Step q c) refl) m))
    (λ m. rest-falls t w ok (Step q c) rest (moved t w ok (Step q c) refl) refl
    (falls-in t p rest (after_move t.rules w (Step q c)) (moved t w ok (Step q c) refl).lawful none.1
    (subst (λ z. goes_on z p ≡ true) (sym (ap (λ b. cond b (stepped t.rules w q (known w.passes q) c) w) m)) g) later))
    (true-or (moving (known w.passes q))))

still-rests : (b c : Bool) → c ≡ true → (not b && not c) ≡ false
still-rests true c e = refl
still-rests false true e = refl
still-rests false false e = absurd (cc)

-- a holder that owes no step stays so until it frees the lock, unless less is left before
pub rests-in : (t : Terms) (p : ℕ) (moves : List Move) (w : World) (ok : Lawful t w) → NoNewcomer moves → is_resting (known w.passes p) ≡ true
    → Fallen t w ok moves ⊎ ((has_release p moves ≡ false) × Stays t w ok moves p)
rests-in t p [] w ok none g = inr (refl, record { lawful = ok; keeps = omega arith; same = g })
rests-in t p (Acquire q mode ∷ rest) w ok none g = absurd (let e = none.0 in cc)
rests-in t p (Release q ∷ rest) w ok none g = ⊎_elim
    (λ e. inl (first-falls t w ok (Release q) rest (moved t w ok (Release q) refl) none.1 (release-leaves t w ok q (moved t w ok (Release q) refl) e)))
    (λ e. let n : (q == p) ≡ false = not-self q e in
    ⊎_elim
    (λ f. inl (rest-falls t w ok (Release q) rest (moved t w ok (Release q) refl) refl f))
    (λ f. inr (ap (λ b. b || has_release p rest) n ∙ f.0, record { lawful = f.1.lawful; keeps = (let x = f.1.keeps in let y = keeps t w ok (Release q) (moved t w ok (Release q) refl) refl in omega arith); same = f.1.same }))
    (rests-in t p rest (after_move t.rules w (Release q)) (moved t w ok (Release q) refl).lawful none.1
    (subst (λ (z : World). is_resting (known z.passes p) ≡ true) (sym (ap (λ b. cond b (placed_at w q (released (known w.passes q))) w) e)) g)))
    (true-or (is_resting (known w.passes q)))
  where
    not-self : (q : ℕ) → is_resting (known w.passes q) ≡ false → (q == p) ≡ false
    not-self q e = Chain.by_eq q p
        (λ i. absurd (true-not-false (is_resting (known w.passes q)) (subst (λ z. is_resting (known w.passes z) ≡ true) (sym i) g) e))
        (λ n. (let z : (q == p) ≡ false = grind (arith, nat_tests, n) in z))
rests-in t p (Step q c ∷ rest) w ok none g = ⊎_elim
    (λ f. inl (rest-falls t w ok (Step q c) rest (moved t w ok (Step q c) refl) refl f))
    (λ f. inr (f.0, record { lawful = f.1.lawful; keeps = (let x = f.1.keeps in let y = keeps t w ok (Step q c) (moved t w ok (Step q c) refl) refl in omega arith); same = f.1.same }))
    (rests-in t p rest (after_move t.rules w (Step q c)) (moved t w ok (Step q c) refl).lawful none.1 stands)
  where
    stands : is_resting (known (after_move t.rules w (Step q c)).passes p) ≡ true
    stands = by (moving (known w.passes q)) refl
      where
        by : (b : Bool) → moving (known w.passes q) ≡ b → is_resting (known (cond b (stepped t.rules w q (known w.passes q) c) w).passes p) ≡ true
        by false e = g
        by true e = ap is_resting (get_or-set_other w.passes q p (take t.rules q (known w.passes q) (look w.words (site (plan t.rules q (known w.passes q)))) c) (idle p)
            (λ i. true-not-false (moving (known w.passes q)) e (still-rests (is_idle (known w.passes q).phase) (is_resting (known w.passes q)) (subst (λ z. is_resting (known w.passes z) ≡ true) i g)))) ∙ g
