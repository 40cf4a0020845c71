-- What a thread does: rounds of a transfer and a look.
use Rattle.std.specs.Prelude.{◌≡◌, ℕ, zero, suc, ◌+◌, ◌*◌, ◌%◌, ◌≤◌, ◌==◌, List, [], ◌∷◌, map, filter}
use Rattle.hist_log.specs.declared.entry.Entry.{Entry}
use Rattle.rw_cell.specs.CallOrder.{calls_of}
use Rattle.rw_cell.specs.RwCells.{RwPassModel, number}
use Rattle.shared_accounts.specs.declared.TheConstants.{ROUNDS}
use Rattle.shared_accounts.specs.declared.accounts.Accounts.{Accounts}
use Rattle.shared_accounts.specs.declared.accounts.Call.{Call}
use Rattle.shared_accounts.specs.declared.accounts.Call.TheVariants.{Transfer, Balance}
use Rattle.shared_accounts.specs.Accounts.{call_numbers, reply_numbers}

-- the calls of so many rounds: in each a transfer of the amount, and then a look at the balance
unfoldable pub rounds : ℕ → ℕ → List Call
rounds amount zero = []
rounds amount (suc n) = Transfer amount ∷ Balance ∷ rounds amount n

-- one call of a history, with its reply
abbrev pub AccountsEntry : Type 0
AccountsEntry = Entry Accounts Call ℕ

-- the calls of one worker in a history, in its order
abbrev pub calls_by : ℕ → List AccountsEntry → List Call
calls_by worker history = map (λ e. e.call) (filter (λ e. e.worker == worker) history)

-- the pass has made these calls, in this order, and no others
abbrev pub HasMade : RwPassModel AccountsEntry → List Call → Type 0
HasMade p calls = map (λ a. a.call) (calls_of call_numbers reply_numbers p) ≡ map call_numbers calls

-- the pass has made no call, and may make those of its rounds
pub record IsReady (p : RwPassModel AccountsEntry) : Type 0 where
  pub none_made : HasMade p []
  pub left : 2 * ROUNDS ≤ p.left

-- the pass has made all its rounds, and no other call: pass 0 transfers 1 each time, pass 1 transfers 2, and so on up to 4, and then from 1 again
abbrev pub HasWorked : RwPassModel AccountsEntry → Type 0
HasWorked p = HasMade p (rounds (1 + number p % 4) ROUNDS)
