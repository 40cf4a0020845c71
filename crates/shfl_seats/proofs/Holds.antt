-- The list of the locks that a seat holds, when one is added or left out.
use Rattle.std.proofs.Common.{◌≡◌, ◌≢◌, ℕ, ◌==◌, Bool, true, false, cond, List, [], ◌∷◌, ◌++◌, refl, sym, ap, ◌∙◌, arith}
use Rattle.std.specs.Prelude.{Option, Some, None, not, filter}
use Rattle.std.proofs.lemmas.Bool.Decides.{nat_tests}
use Rattle.shfl_line.specs.declared.events.Mode.{Mode}
use Rattle.shfl_core.specs.Waiting.{idle}
use Rattle.shfl_arena.specs.Threads.{mode_held, without_lock}
use Rattle.shfl_arena.proofs.Threads.{mode-holds-after}
use Rattle.shfl_seats.specs.Tickets.{Agree}

pub mode-added : (l : ℕ) (m : Mode) (xs : List (ℕ × Mode)) → mode_held l xs ≡ None → mode_held l (xs ++ (l, m) ∷ []) ≡ Some m
mode-added l m [] e = let same : (l == l) ≡ true = grind (arith, nat_tests) in ap (λ b. cond b (Some m) None) same
mode-added l m (x ∷ xs) e = by (x.0 == l) (mode-added l m xs) e
  where
    by : (b : Bool) → (mode_held l xs ≡ None → mode_held l (xs ++ (l, m) ∷ []) ≡ Some m) → cond b (Some x.1) (mode_held l xs) ≡ None
        → cond b (Some x.1) (mode_held l (xs ++ (l, m) ∷ [])) ≡ Some m
    by true h e = absurd (cc)
    by false h e = h e

pub mode-added-else : (k l : ℕ) (m : Mode) (xs : List (ℕ × Mode)) → k ≢ l → mode_held k (xs ++ (l, m) ∷ []) ≡ mode_held k xs
mode-added-else k l m [] n = let other : (l == k) ≡ false = grind (arith, nat_tests) in ap (λ b. cond b (Some m) None) other
mode-added-else k l m (x ∷ xs) n = ap (λ z. cond (x.0 == k) (Some x.1) z) (mode-added-else k l m xs n)

pub mode-left-out : (k l : ℕ) (xs : List (ℕ × Mode)) → k ≢ l → mode_held k (without_lock l xs) ≡ mode_held k xs
mode-left-out k l xs n = mode-holds-after k l (idle 0) xs n

-- at one lock this, and at the others as before
pub agree-by : (l : ℕ) (o : Option Mode) (kept kept' holds holds' : List (ℕ × Mode)) → Agree kept holds
    → mode_held l kept' ≡ o → ((k : ℕ) → k ≢ l → mode_held k kept' ≡ mode_held k kept)
    → mode_held l holds' ≡ o → ((k : ℕ) → k ≢ l → mode_held k holds' ≡ mode_held k holds) → Agree kept' holds'
agree-by l o kept kept' holds holds' was here else here' else' k = by (k == l) refl
  where
    by : (b : Bool) → (k == l) ≡ b → mode_held k kept' ≡ mode_held k holds'
    by true e = let s : k ≡ l = grind (arith, nat_tests) in ap (λ n. mode_held n kept') s ∙ (here ∙ (sym here' ∙ sym (ap (λ n. mode_held n holds') s)))
    by false e = let n : k ≢ l = (λ i. let t : (k == l) ≡ true = grind (arith, nat_tests) in cc) in else k n ∙ (was k ∙ sym (else' k n))

-- leaving a lock out of the list, as a filter
pub left-out : (l : ℕ) (xs : List (ℕ × Mode)) → filter (λ x. not (x.0 == l)) xs ≡ without_lock l xs
left-out l [] = refl
left-out l (x ∷ xs) = by (x.0 == l) (left-out l xs)
  where
    by : (b : Bool) → filter (λ y. not (y.0 == l)) xs ≡ without_lock l xs
        → cond (not b) (x ∷ filter (λ y. not (y.0 == l)) xs) (filter (λ y. not (y.0 == l)) xs) ≡ cond b (without_lock l xs) (x ∷ without_lock l xs)
    by true e = e
    by false e = ap (λ z. x ∷ z) e
