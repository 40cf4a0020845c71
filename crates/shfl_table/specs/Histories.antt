-- Histories: the actions of the passes on the values, in order.
use Rattle.std.specs.Prelude.{◌≡◌, ℕ, ◌==◌, cond, List, [], ◌∷◌, ◌++◌}
use Rattle.shfl_table.specs.declared.kept.Action.{Action}
use Rattle.shfl_table.specs.Places.{Every}

-- the actions of one pass
abbrev pub actions_by : ℕ → List Action → List Action
actions_by k [] = []
actions_by k (e ∷ es) = cond (e.worker == k) (e ∷ actions_by k es) (actions_by k es)

abbrev pub StartsWith : List Action → List Action → Type 0
StartsWith all seen = (rest : List Action) × (all ≡ seen ++ rest)

abbrev pub AllBy : ℕ → List Action → Type 0
AllBy k [] = Unit {0}
AllBy k (e ∷ es) = (e.worker ≡ k) × AllBy k es

-- the history goes on from the one seen by actions of one pass
abbrev pub Continues : ℕ → List Action → List Action → Type 0
Continues k seen t = (own : List Action) × (t ≡ seen ++ own) × AllBy k own

-- what the pass k saw is a beginning of the whole history, which has no further action of this pass
abbrev pub HasSeen : List Action → ℕ → List Action → Type 0
HasSeen total k t = StartsWith total t × (actions_by k total ≡ actions_by k t)

-- the history of the first value; without any, the one seen
abbrev pub common_history : {V : Type 0} → (V → List Action) → List Action → List V → List Action
common_history history seen [] = seen
common_history history seen (x ∷ xs) = history x

-- the initial state of the first value
abbrev pub initial_state_of : {V : Type 0} → (V → List ℕ) → List V → List ℕ
initial_state_of initial_state [] = []
initial_state_of initial_state (x ∷ xs) = initial_state x

-- the value has this initial state and this history
abbrev pub IsCurrent : {V : Type 0} → (V → List ℕ) → (V → List Action) → List ℕ → List Action → V → Type 0
IsCurrent initial_state history r t x = (initial_state x ≡ r) × (history x ≡ t)

-- all values have one initial state, and nothing was done to them
abbrev pub AreUntouched : {V : Type 0} → (V → List ℕ) → (V → List Action) → List V → Type 0
AreUntouched initial_state history xs = Every (IsCurrent initial_state history (initial_state_of initial_state xs) []) xs
