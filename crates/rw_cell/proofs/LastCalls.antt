-- A call is the last of its pass's calls.
use Rattle.std.proofs.Common.{◌≡◌, ℕ, ◌+◌, ◌≤◌, List, [], ◌∷◌, ◌++◌, length, sym, ap, ◌∙◌, arith, append_assoc, append-nil}
use Rattle.std.specs.List.{All}
use Rattle.std.proofs.lemmas.List.{append_cancel_left}
use Rattle.hist_log.specs.declared.entry.Entry.{Entry}
use Rattle.shfl_table.specs.declared.kept.Action.{Action}
use Rattle.shfl_table.specs.Histories.{actions_by}
use Rattle.shfl_table.proofs.Histories.{said_by-append}
use Rattle.shfl_table.specs.Books.{action}
use Rattle.rw_cell.specs.CallOrder.{calls_from, calls_of}
use Rattle.rw_cell.specs.RwCells.{RwPassModel, MakesRead, MakesWrite, number}
use Rattle.rw_cell.proofs.CallOrder.{none-between, calls_from-more, calls_from-read}

module _ {O C R : Type 0} (call : C → List ℕ) (reply : R → List ℕ) (reply_at state_after : List ℕ → List ℕ → List ℕ) (p q : RwPassModel (Entry O C R)) (within : All (λ e. e.receipt ≤ length p.seen) p.reads) where
  pub last_write : (made : Action) (place : ℕ) → MakesWrite reply_at state_after p made place q → calls_of call reply q ≡ calls_of call reply p ++ made ∷ []
  last_write made place m =
      let is : q.seen ≡ p.seen ++ (m.between ++ made ∷ []) = m.seen ∙ append_assoc p.seen m.between (made ∷ []) in
      let own : actions_by (number p) (m.between ++ made ∷ []) ≡ made ∷ [] =
      append_cancel_left (actions_by (number p) p.seen) (actions_by (number p) (m.between ++ made ∷ [])) (made ∷ [])
      (sym (said_by-append (number p) p.seen (m.between ++ made ∷ [])) ∙ (ap (actions_by (number p)) (sym is) ∙ m.own)) in
      (λ j. calls_from call reply (m.stays.number_is j) 0 (is j) (m.reads j))
      ∙ (calls_from-more call reply (number p) 0 p.seen (m.between ++ made ∷ []) p.reads (λ k d h. let w = within k d h in omega arith)
      ∙ ap (λ l. calls_from call reply (number p) 0 p.seen p.reads ++ l) own)

  pub last_read : (asked answered : List ℕ) (place : ℕ) (entry : Entry O C R) → MakesRead reply_at state_after p asked answered place entry q → entry.receipt ≡ place
      → calls_of call reply q ≡ calls_of call reply p ++ action call reply entry ∷ []
  last_read asked answered place entry m here =
      let none = none-between (number p) q.seen p.seen m.between m.seen m.own in
      let at : entry.receipt ≡ length q.seen = here ∙ m.place_is in
      (λ j. calls_from call reply (m.stays.number_is j) 0 q.seen (m.reads j))
      ∙ (calls_from-read call reply (number p) 0 q.seen p.reads entry (omega arith)
      ∙ ap (λ l. l ++ action call reply entry ∷ [])
      (ap (λ l. calls_from call reply (number p) 0 l p.reads) m.seen
      ∙ (calls_from-more call reply (number p) 0 p.seen m.between p.reads (λ k d h. let w = within k d h in omega arith)
      ∙ (ap (λ l. calls_from call reply (number p) 0 p.seen p.reads ++ l) none ∙ append-nil (calls_from call reply (number p) 0 p.seen p.reads)))))
