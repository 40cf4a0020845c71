-- Two accounts: what a call is answered, and which balances it leaves.
use Rattle.std.specs.Prelude.{◌≡◌, ℕ, ◌+◌, ◌-◌, ◌%◌, nat_lt, cond, List, [], ◌∷◌, slice_index, refl}
use Rattle.std.proofs.Common.{ap}
use Rattle.shared_accounts.specs.declared.accounts.Accounts.{Accounts}
use Rattle.shared_accounts.specs.declared.accounts.Call.{Call}
use Rattle.shared_accounts.specs.declared.accounts.Call.TheVariants.{Transfer, Balance}

abbrev pub call_numbers : Call → List ℕ
call_numbers (Transfer amount) = amount ∷ []
call_numbers Balance = []

abbrev pub reply_numbers : ℕ → List ℕ
reply_numbers reply = reply ∷ []

abbrev pub state_numbers : Accounts → List ℕ
state_numbers a = a.first ∷ a.second ∷ []

-- a transfer is answered with what was transferred, which is nothing where the first account has too little; a balance with what the first has
abbrev pub reply_at : List ℕ → List ℕ → List ℕ
reply_at (first ∷ second ∷ []) (amount ∷ []) = cond (nat_lt first amount) 0 amount ∷ []
reply_at (first ∷ second ∷ []) [] = first ∷ []
reply_at _ _ = []

abbrev pub state_after : List ℕ → List ℕ → List ℕ
state_after (first ∷ second ∷ []) (amount ∷ []) = cond (nat_lt first amount) (first ∷ second ∷ []) ((first - amount) ∷ ((second + amount) % 18446744073709551616) ∷ [])
state_after state _ = state

-- a balance is a read
abbrev pub IsRead : List ℕ → Type 0
IsRead [] = Unit {0}
IsRead (_ ∷ _) = ⊥

pub calls_differ : (a b : Call) → call_numbers a ≡ call_numbers b → a ≡ b
calls_differ (Transfer a) (Transfer b) same = ap Transfer (λ i. slice_index (same i) 0)
calls_differ (Transfer a) Balance same = absurd (cc)
calls_differ Balance (Transfer b) same = absurd (cc)
calls_differ Balance Balance same = refl

pub reads_leave : (state call : List ℕ) → IsRead call → state_after state call ≡ state
reads_leave [] [] read = refl
reads_leave (x ∷ []) [] read = refl
reads_leave (x ∷ y ∷ []) [] read = refl
reads_leave (x ∷ y ∷ z ∷ zs) [] read = refl
reads_leave state (c ∷ cs) read = absurd read
