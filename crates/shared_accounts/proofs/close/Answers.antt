use Rattle.std.proofs.Common.{◌≡◌, ℕ, ◌<◌, List, ◌++◌, Vec, Global, Result, Ok, Err, Some, IfOk, map, length, get_or, sym, ap, ◌∙◌, subst, arith}
use Rattle.std.specs.List.{flat_map}
use Rattle.std.specs.List.Sorted.{IsPermutation}
use Rattle.std.specs.Result.{result_ok}
use Rattle.std.proofs.lemmas.List.{length-map}
use Rattle.std.proofs.lemmas.List.Elements.{All-append, All-pop}
use Rattle.std.proofs.lemmas.List.Sorted.{All-permutation}
use Rattle.std.proofs.lemmas.Option.{same_Some}
use Rattle.hist_log.specs.History.{operations, state_left}
use Rattle.hist_log.specs.Merge.{merged, AreReads}
use Rattle.shfl_table.specs.Histories.{actions_by}
use Rattle.rw_cell.specs.RwCells.{number}
use Rattle.rw_cell.proofs.OrderedPasses.{all_in_order}
use Rattle.shared_accounts.specs.declared.accounts.Accounts.{Accounts}
use Rattle.shared_accounts.specs.Accounts.{call_numbers, reply_numbers, state_numbers, state_after, IsRead}
use Rattle.shared_accounts.specs.Rounds.{AccountsEntry}
use Rattle.shared_accounts.proofs.OwnCalls.{acts, each_has_worked, writers_below, readers_below}
use Rattle.shared_accounts.proofs.close.Goals as goal

abbrev receipt : AccountsEntry → ℕ
receipt e = e.receipt

abbrev items : Vec AccountsEntry Global → List AccountsEntry
items v = v.items

-- what is true of the value in an `Ok` is true of what `ok` makes of it
of_ok : {T E : Type 0} (r : Result T E) (x : T) (P : T → Type 0) → Some x ≡ result_ok r → IfOk r P → P x
of_ok (Ok y) x P same holds = subst P (sym (same_Some x y same)) holds
of_ok (Err y) x P same holds = absurd (cc)

pub close-copies-requires-clause-all : goal.close-copies-requires-clause-all
close-copies-requires-clause-all c = all_in_order c.args.bank.count c.args.passes.items (let ok = c.args.passes.ok.0 in let a = c.requires.all in omega arith) c.requires.in_order

pub returns-clause-balances : goal.returns-clause-balances
returns-clause-balances c =
    let opening = c.args.bank.opening in let writes : List AccountsEntry = c.close-copies.result.1.items in
    let left_by : List AccountsEntry → List ℕ = λ l. state_left state_after opening (operations call_numbers reply_numbers l) in
    let P : Accounts → Type 0 = λ a. state_numbers a ≡ left_by writes in
    let popped = All-pop P c.close-copies.result.0.items c.pop.new.self.items (Some c.in_ok-pop.field-0) c.in_ok-pop.ensures.items c.close-copies.ensures.copies.1 in
    let only_reads : AreReads call_numbers IsRead (map items c.close-copies.result.2.items) = λ j d lt i e h. (c.close-copies.ensures.reads.fit j d lt i e h).0 in
    let merged_leaves = of_ok c.merge.result c.in_ok-history.history (λ (v : Vec AccountsEntry Global). left_by v.items ≡ left_by c.deref.result.now) c.in_ok-history.ensures.value
    (c.merge.ensures.state opening (subst (λ (l : List (Vec AccountsEntry Global)). AreReads call_numbers IsRead (map items l)) (sym c.deref-2.ensures.value) only_reads)) in
    popped.1 ∙ ap left_by (sym c.deref.ensures.value) ∙ sym merged_leaves

pub returns-clause-calls : goal.returns-clause-calls
returns-clause-calls c k within =
    let ps = c.args.passes.items in let history : List AccountsEntry = c.in_ok-history.history.items in
    let is : history ≡ merged receipt c.close-copies.result.1.items (map items c.close-copies.result.2.items) =
    of_ok c.merge.result c.in_ok-history.history (λ (v : Vec AccountsEntry Global). v.items ≡ merged receipt c.deref.result.now (map items c.deref-2.result.now)) c.in_ok-history.ensures.value c.merge.ensures.order
    ∙ (λ j. merged receipt (c.deref.ensures.value j) (map items (c.deref-2.ensures.value j))) in
    each_has_worked ps c.requires.in_order c.requires.worked history
    (λ i p lt. ap (λ l. actions_by (number (get_or ps i p)) (acts l)) is ∙ c.close-copies.ensures.reads.order i p lt)
    k (let all = c.requires.all in let ok = c.args.passes.ok.0 in omega arith)

pub returns-clause-nobody_else : goal.returns-clause-nobody_else
returns-clause-nobody_else c =
    let count = c.args.bank.count in let P : AccountsEntry → Type 0 = λ e. e.worker < count in
    let writes : List AccountsEntry = c.close-copies.result.1.items in let lists : List (Vec AccountsEntry Global) = c.close-copies.result.2.items in
    let reads = c.close-copies.ensures.reads in
    let long : length lists ≡ count = sym (length-map lists items) ∙ reads.count in
    let each_below = All-append P writes (flat_map items lists) (writers_below count writes c.close-copies.ensures.writes.nobody_else)
    (readers_below items count lists 0 (omega arith) (λ k lt i d h. let own = reads.own k (omega arith) i d h in omega arith)) in
    let once : IsPermutation (writes ++ flat_map items lists) c.in_ok-history.history.items =
    subst (λ (l : List AccountsEntry). IsPermutation (l ++ flat_map items lists) c.in_ok-history.history.items) c.deref.ensures.value
    (subst (λ (l : List (Vec AccountsEntry Global)). IsPermutation (c.deref.result.now ++ flat_map items l) c.in_ok-history.history.items) c.deref-2.ensures.value
    (of_ok c.merge.result c.in_ok-history.history (λ (v : Vec AccountsEntry Global). IsPermutation (c.deref.result.now ++ flat_map items c.deref-2.result.now) v.items) c.in_ok-history.ensures.value c.merge.ensures.once)) in
    All-permutation P (writes ++ flat_map items lists) c.in_ok-history.history.items once each_below
