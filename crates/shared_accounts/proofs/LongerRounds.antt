-- A round more behind a pass.
use Rattle.std.proofs.Common.{◌≡◌, ℕ, zero, suc, ◌+◌, List, [], ◌∷◌, ◌++◌, map, sym, refl, ap, ◌∙◌, append_assoc, add-one}
use Rattle.std.proofs.lemmas.List.{map-append}
use Rattle.shfl_table.specs.declared.kept.Action.{Action}
use Rattle.rw_cell.specs.CallOrder.{calls_of}
use Rattle.rw_cell.specs.RwCells.{RwPassModel}
use Rattle.shared_accounts.specs.declared.accounts.Call.{Call}
use Rattle.shared_accounts.specs.declared.accounts.Call.TheVariants.{Transfer, Balance}
use Rattle.shared_accounts.specs.Accounts.{call_numbers, reply_numbers}
use Rattle.shared_accounts.specs.Rounds.{AccountsEntry, rounds, HasMade}

-- before the first round nothing is made
pub no_rounds : (amount : ℕ) → rounds amount 0 ≡ []
unfolding rounds
no_rounds amount = refl

-- the last of the rounds
pub one_round_more : (amount n : ℕ) → rounds amount (suc n) ≡ rounds amount n ++ Transfer amount ∷ Balance ∷ []
unfolding rounds
one_round_more amount zero = refl
one_round_more amount (suc n) = ap (λ l. Transfer amount ∷ Balance ∷ l) (one_round_more amount n)

-- a pass has made one call more
one_call_more : (p q : RwPassModel AccountsEntry) (calls : List Call) (call : Call) (made : Action) → made.call ≡ call_numbers call
    → HasMade p calls → calls_of call_numbers reply_numbers q ≡ calls_of call_numbers reply_numbers p ++ made ∷ [] → HasMade q (calls ++ call ∷ [])
one_call_more p q calls call made is before last =
    ap (map (λ (a : Action). a.call)) last ∙ map-append (λ (a : Action). a.call) (calls_of call_numbers reply_numbers p) (made ∷ [])
    ∙ (λ j. before j ++ is j ∷ []) ∙ sym (map-append call_numbers calls (call ∷ []))

-- and then a round more
pub round_made : (p q r : RwPassModel AccountsEntry) (amount n : ℕ) (transfer look : Action) → transfer.call ≡ amount ∷ [] → look.call ≡ []
    → HasMade p (rounds amount n)
    → calls_of call_numbers reply_numbers q ≡ calls_of call_numbers reply_numbers p ++ transfer ∷ []
    → calls_of call_numbers reply_numbers r ≡ calls_of call_numbers reply_numbers q ++ look ∷ []
    → HasMade r (rounds amount (n + 1))
round_made p q r amount n transfer look transferred looked before first second =
    let one = one_call_more p q (rounds amount n) (Transfer amount) transfer transferred before first in
    let two = one_call_more q r (rounds amount n ++ Transfer amount ∷ []) Balance look looked one second in
    two ∙ ap (map call_numbers) (append_assoc (rounds amount n) (Transfer amount ∷ []) (Balance ∷ []) ∙ sym (one_round_more amount n) ∙ ap (rounds amount) (sym (add-one n)))
