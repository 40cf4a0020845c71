-- One history after another, and what an object admits after a history.
use Rattle.std.proofs.Common.{◌≡◌, ℕ, List, [], ◌∷◌, ◌++◌, refl}
use Rattle.std.specs.Prelude.{◌↔◌}
use Rattle.hist_log.specs.History.{Operation, IsLegal, state_left}

module _ (reply_at state_after : List ℕ → List ℕ → List ℕ) where
  pub state_left-append : (state : List ℕ) (xs ys : List Operation) → state_left state_after state (xs ++ ys) ≡ state_left state_after (state_left state_after state xs) ys
  state_left-append state [] ys = refl
  state_left-append state (o ∷ os) ys = state_left-append (state_after state o.call) os ys

  pub legal-append : (state : List ℕ) (xs ys : List Operation) → IsLegal reply_at state_after state xs
      → IsLegal reply_at state_after (state_left state_after state xs) ys → IsLegal reply_at state_after state (xs ++ ys)
  legal-append state [] ys first second = second
  legal-append state (o ∷ os) ys first second = (first.0, legal-append (state_after state o.call) os ys first.1 second)

-- a call that the opening state admits is admitted after any history
pub admits-left : (state_after : List ℕ → List ℕ → List ℕ) (admits : List ℕ → List ℕ → Type 0)
    → ((state call other : List ℕ) → admits state other ↔ admits (state_after state call) other)
    → (state : List ℕ) (history : List Operation) (call : List ℕ) → admits state call → admits (state_left state_after state history) call
admits-left state_after admits stays state [] call admitted = admitted
admits-left state_after admits stays state (o ∷ os) call admitted =
    admits-left state_after admits stays (state_after state o.call) os call ((stays state o.call call).0 admitted)
