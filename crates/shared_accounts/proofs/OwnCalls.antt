-- The calls of each worker in the merged history.
use Rattle.std.proofs.Common.{◌≡◌, ℕ, suc, ◌+◌, ◌%◌, ◌<◌, ◌≤◌, Bool, true, false, cond, eqb, List, [], ◌∷◌, map, length, get_or, All, sym, refl, ap, ◌∙◌, subst, inl, inr, arith}
use Rattle.std.specs.List.{filter, flat_map}
use Rattle.std.proofs.lemmas.Bool.{cases_lt}
use Rattle.std.proofs.lemmas.Bool.Decides.{nat_tests}
use Rattle.std.proofs.lemmas.List.Elements.{All-nil, All-cons, All-append}
use Rattle.shfl_table.specs.declared.kept.Action.{Action}
use Rattle.shfl_table.specs.Histories.{actions_by}
use Rattle.shfl_table.specs.Books.{action, actions}
use Rattle.rw_cell.specs.CallOrder.{calls_of}
use Rattle.rw_cell.specs.RwCells.{RwPassModel, number, AreInOrder}
use Rattle.shared_accounts.specs.declared.TheConstants.{ROUNDS}
use Rattle.shared_accounts.specs.declared.accounts.Call.{Call}
use Rattle.shared_accounts.specs.Accounts.{call_numbers, reply_numbers, calls_differ}
use Rattle.shared_accounts.specs.Rounds.{AccountsEntry, rounds, calls_by, HasWorked}

-- calls of the same numbers are the same
same_calls : (a b : List Call) → map call_numbers a ≡ map call_numbers b → a ≡ b
same_calls [] [] same = refl
same_calls [] (y ∷ ys) same = absurd (cc)
same_calls (x ∷ xs) [] same = absurd (cc)
same_calls (x ∷ xs) (y ∷ ys) same =
    let first : call_numbers x ≡ call_numbers y = cc in
    let rest : map call_numbers xs ≡ map call_numbers ys = cc in
    λ j. calls_differ x y first j ∷ same_calls xs ys rest j

-- entries as actions
abbrev pub acts : List AccountsEntry → List Action
acts = actions call_numbers reply_numbers

-- a worker's actions are those of its entries
acts_of_worker : (k : ℕ) (es : List AccountsEntry) → map (λ (a : Action). a.call) (actions_by k (acts es)) ≡ map call_numbers (calls_by k es)
acts_of_worker k [] = refl
acts_of_worker k (e ∷ es) =
    let rest = acts_of_worker k es in
    let others = filter (λ (x : AccountsEntry). eqb x.worker k) es in
    elim (eqb e.worker k) as (λ b. map (λ (a : Action). a.call) (cond b (action call_numbers reply_numbers e ∷ actions_by k (acts es)) (actions_by k (acts es)))
    ≡ map call_numbers (map (λ (x : AccountsEntry). x.call) (cond b (e ∷ others) others))) [
      | true ↦ ap (λ l. call_numbers e.call ∷ l) rest
      | false ↦ rest
    ]

module _ (ps : List (RwPassModel AccountsEntry)) (in_order : AreInOrder ps) (worked : All HasWorked ps) (history : List AccountsEntry)
    (order : All (λ p. actions_by (number p) (acts history) ≡ calls_of call_numbers reply_numbers p) ps) where
  -- the pass of a place has made its rounds
  of_place : (d : RwPassModel AccountsEntry) (k : ℕ) → k < length ps → calls_by k history ≡ rounds (1 + k % 4) ROUNDS
  of_place d k lt =
      let made = ap (map (λ (a : Action). a.call)) (order k d lt) ∙ worked k d lt in
      same_calls (calls_by k history) (rounds (1 + k % 4) ROUNDS)
      (sym (acts_of_worker k history)
      ∙ subst (λ w. map (λ (a : Action). a.call) (actions_by w (acts history)) ≡ map call_numbers (rounds (1 + w % 4) ROUNDS)) (in_order k d lt) made)

-- the rounds of each worker, by the passes that have worked
pub each_has_worked : (ps : List (RwPassModel AccountsEntry)) → AreInOrder ps → All HasWorked ps → (history : List AccountsEntry)
    → All (λ p. actions_by (number p) (acts history) ≡ calls_of call_numbers reply_numbers p) ps
    → (k : ℕ) → k < length ps → calls_by k history ≡ rounds (1 + k % 4) ROUNDS
each_has_worked [] in_order worked history order k lt = absurd (omega arith)
each_has_worked (p ∷ ps) in_order worked history order k lt = of_place (p ∷ ps) in_order worked history order p k lt

-- where nothing is kept, the first one is not, and none of the rest
none_first : (b : Bool) (x : Action) (l : List Action) → cond b (x ∷ l) l ≡ [] → (b ≡ false) × (l ≡ [])
none_first true x l none = absurd (cc)
none_first false x l none = (refl, none)

-- where nobody from a number on has written, each write is by one below it
pub writers_below : (count : ℕ) (es : List AccountsEntry) → ((k : ℕ) → count ≤ k → actions_by k (acts es) ≡ []) → All (λ e. e.worker < count) es
writers_below count [] none = All-nil (λ (e : AccountsEntry). e.worker < count)
writers_below count (e ∷ es) none =
    let parts = λ (k : ℕ) (past : count ≤ k). none_first (eqb e.worker k) (action call_numbers reply_numbers e) (actions_by k (acts es)) (none k past) in
    let here : e.worker < count = elim (cases_lt e.worker count) [
      | inl below ↦ below
      | inr past ↦ (let itself : eqb e.worker e.worker ≡ true = grind (arith, nat_tests) in let not = (parts e.worker past).0 in absurd (cc))
    ] in
    All-cons (λ (x : AccountsEntry). x.worker < count) e es here (writers_below count es (λ k past. (parts k past).1))

-- where list k has the reads of worker k, each read is by one of so many
pub readers_below : {V : Type 0} (items : V → List AccountsEntry) (count : ℕ) (lists : List V) (from : ℕ) → from + length lists ≡ count
    → ((k : ℕ) → k < length lists → All (λ e. e.worker ≡ from + k) (get_or (map items lists) k [])) → All (λ e. e.worker < count) (flat_map items lists)
readers_below items count [] from long own = All-nil (λ (e : AccountsEntry). e.worker < count)
readers_below items count (l ∷ ls) from long own =
    All-append (λ (e : AccountsEntry). e.worker < count) (items l) (flat_map items ls)
    (λ i d lt. let is = own 0 (omega arith) i d lt in omega arith)
    (readers_below items count ls (suc from) (omega arith)
    (λ k lt i d h. let is = own (suc k) (omega arith) i d h in omega arith))
