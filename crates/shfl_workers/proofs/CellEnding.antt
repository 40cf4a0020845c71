-- The passes of a cell behind their last call.
use Rattle.std.proofs.Common.{◌≡◌, ℕ, ◌≤◌, List, [], map, length, All, sym, ap, ◌∙◌, subst}
use Rattle.dir_table.specs.declared.calls.DirCall.{DirCall}
use Rattle.dir_table.specs.declared.calls.DirReply.{DirReply}
use Rattle.dir_table.specs.Numbers.{call_numbers, reply_numbers}
use Rattle.hist_log.specs.declared.entry.Entry.{Entry}
use Rattle.shfl_table.specs.declared.kept.Action.{Action}
use Rattle.shfl_table.specs.Histories.{actions_by, HasSeen}
use Rattle.shfl_table.specs.Books.{actions}
use Rattle.shfl_cell.specs.Cells.{CellModel, CellPassModel, number}
use Rattle.trace_text.specs.declared.trace.Trace.{Trace}
use Rattle.trace_text.specs.Report.{done_of}
use Rattle.trace_text.specs.Traces.{IsWithin}
use Rattle.trace_text.specs.Histories.{made_of, made_in, of_worker}
use Rattle.shfl_workers.specs.Passes.{AtEachPlace, IsDone}
use Rattle.shfl_workers.specs.CellDirs.{IsPassOf, HasMade}
use Rattle.shfl_workers.proofs.Numbered.{of_all}
use Rattle.shfl_workers.proofs.Merging.{made_once}
use Rattle.shfl_workers.proofs.Histories.{HasAll, has_all}

module _ {O : Type 0} (t : Trace) (within : IsWithin t) (cell : CellModel) (ps : List CellPassModel) (many : length ps ≡ length t.workers.items)
    (count : cell.count ≡ length t.workers.items) (done : AtEachPlace (IsDone (IsPassOf cell) number HasMade t.calls.items) ps)
    (history : List (Entry O DirCall DirReply)) (seen : All (λ p. HasSeen (actions call_numbers reply_numbers history) (number p) p.seen) ps)
    (nobody_else : (k : ℕ) → cell.count ≤ k → actions_by k (actions call_numbers reply_numbers history) ≡ []) where
  own : AtEachPlace (λ k p. of_worker k (map made_of (map done_of history)) ≡ of_worker k (made_in t.calls.items)) ps
  own k p at =
      let d = done k p at in
      let saw = of_all (λ (q : CellPassModel). HasSeen (actions call_numbers reply_numbers history) (number q) q.seen) ps seen k p at in
      made_once k history (of_worker k (made_in t.calls.items))
      (subst (λ w. map (λ (x : Action). x.call) (actions_by w (actions call_numbers reply_numbers history)) ≡ map call_numbers (of_worker k (made_in t.calls.items))) d.number_is
      (ap (map (λ (x : Action). x.call)) saw.1 ∙ d.has_made))

  -- each worker's calls stand in the cell's history, each once
  pub cell_has_all : HasAll t within history
  cell_has_all = has_all t within history ps many own
      (λ k past. made_once k history [] (ap (map (λ (x : Action). x.call)) (nobody_else k (subst (λ n. n ≤ k) (sym count) past))))
