-- Whose entries a history has.
use Rattle.std.proofs.Common.{◌≡◌, ℕ, ◌<◌, ◌≤◌, ◌==◌, cond, Bool, true, false, List, [], ◌∷◌, refl, arith, eq-eqb}
use Rattle.std.specs.List.{All}
use Rattle.std.proofs.lemmas.List.Elements.{All-nil, All-cons}
use native.Mathlib.Decide.{dec_lt}
use Rattle.hist_log.specs.declared.entry.Entry.{Entry}
use Rattle.shfl_table.specs.declared.kept.Action.{Action}
use Rattle.shfl_table.specs.Histories.{actions_by}
use Rattle.shfl_table.specs.Books.{actions, action}

not_kept : (b : Bool) (x : Action) (xs : List Action) → b ≡ true → cond b (x ∷ xs) xs ≡ [] → ⊥
not_kept true x xs is none = absurd (cc)
not_kept false x xs is none = absurd (cc)

none_behind : (b : Bool) (x : Action) (xs : List Action) → cond b (x ∷ xs) xs ≡ [] → xs ≡ []
none_behind true x xs none = absurd (cc)
none_behind false x xs none = none

module _ {O C R : Type 0} (call : C → List ℕ) (reply : R → List ℕ) (count : ℕ) where
  -- where nobody from a number on has an action, each entry's worker is below it
  pub all_below : (entries : List (Entry O C R)) → ((k : ℕ) → count ≤ k → actions_by k (actions call reply entries) ≡ []) → All (λ e. e.worker < count) entries
  all_below [] nobody = All-nil (λ e. e.worker < count)
  all_below (e ∷ es) nobody = All-cons (λ e. e.worker < count) e es here
      (all_below es (λ k past. none_behind (e.worker == k) (action call reply e) (actions_by k (actions call reply es)) (nobody k past)))
    where
      here : e.worker < count
      here = elim (dec_lt e.worker count) [
        | yes lt ↦ lt
        | no ge ↦ absurd (not_kept (e.worker == e.worker) (action call reply e) (actions_by e.worker (actions call reply es)) (eq-eqb e.worker e.worker refl) (nobody e.worker (omega arith)))
      ]
