-- Entries as actions and as operations, with one more.
use Rattle.std.proofs.Common.{◌≡◌, ℕ, zero, suc, ◌+◌, List, [], ◌∷◌, ◌++◌, length, slice_get, Some, sym, refl, ap, ◌∙◌, subst, arith}
use Rattle.std.proofs.lemmas.List.{map-append}
use Rattle.hist_log.specs.declared.entry.Entry.{Entry}
use Rattle.hist_log.specs.History.{Operation, operations, IsLegal, state_left}
use Rattle.hist_log.proofs.LongerHistories.{state_left-append, legal-append}
use Rattle.shfl_table.specs.declared.kept.Action.{Action}
use Rattle.shfl_table.specs.Books.{operation_of, operations_of, actions, HavePlaces}

module _ {O C R : Type 0} (call : C → List ℕ) (reply : R → List ℕ) where
  -- as an action or as itself, an entry is the same operation
  pub operations_of-actions : (es : List (Entry O C R)) → operations_of (actions call reply es) ≡ operations call reply es
  operations_of-actions [] = refl
  operations_of-actions (e ∷ es) = ap (λ (l : List Operation). record { worker = e.worker; call = call e.call; reply = reply e.reply } ∷ l) (operations_of-actions es)

zero-plus : (n : ℕ) → 0 + n ≡ n
zero-plus n = omega arith

module _ {O C R : Type 0} where
  -- the receipts are the places, counted from some number on
  HavePlacesFrom : ℕ → List (Entry O C R) → Type 0
  HavePlacesFrom n es = (place : ℕ) (x : Entry O C R) → slice_get es place ≡ Some x → x.receipt ≡ n + place

  places_from-more : (n : ℕ) (es : List (Entry O C R)) (e : Entry O C R) → e.receipt ≡ n + length es → HavePlacesFrom n es → HavePlacesFrom n (es ++ e ∷ [])
  unfolding HavePlacesFrom
  places_from-more n [] e is have zero x at = let same : e ≡ x = cc in ap (λ (z : Entry O C R). z.receipt) (sym same) ∙ is
  places_from-more n [] e is have (suc place) x at = absurd (cc)
  places_from-more n (y ∷ ys) e is have zero x at = have zero x at
  places_from-more n (y ∷ ys) e is have (suc place) x at =
      let later : HavePlacesFrom (suc n) ys = λ p z h. (let a = have (suc p) z h in omega arith) in
      let r = places_from-more (suc n) ys e (omega arith) later place x at in omega arith

  pub have_places-more : (es : List (Entry O C R)) (e : Entry O C R) → e.receipt ≡ length es → HavePlaces es → HavePlaces (es ++ e ∷ [])
  unfolding HavePlacesFrom
  have_places-more es e is have place x at = (let r = places_from-more 0 es e (is ∙ sym (zero-plus (length es))) (λ p z h. have p z h ∙ sym (zero-plus p)) place x at in r ∙ zero-plus place)

module _ (reply_at state_after : List ℕ → List ℕ → List ℕ) (opening : List ℕ) (history : List Action) (a : Action) where
  operations_of-more : operations_of (history ++ a ∷ []) ≡ operations_of history ++ operation_of a ∷ []
  operations_of-more = map-append operation_of history (a ∷ [])

  pub state_left-more : state_left state_after opening (operations_of (history ++ a ∷ [])) ≡ state_after (state_left state_after opening (operations_of history)) a.call
  state_left-more = ap (state_left state_after opening) operations_of-more ∙ state_left-append reply_at state_after opening (operations_of history) (operation_of a ∷ [])

  -- an action with the object's reply, after a legal history
  pub legal-more : IsLegal reply_at state_after opening (operations_of history) → a.reply ≡ reply_at (state_left state_after opening (operations_of history)) a.call
      → IsLegal reply_at state_after opening (operations_of (history ++ a ∷ []))
  legal-more legal replied = subst (IsLegal reply_at state_after opening) (sym operations_of-more) (legal-append reply_at state_after opening (operations_of history) (operation_of a ∷ []) legal (replied, tt))
