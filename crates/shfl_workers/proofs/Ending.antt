-- The passes of a readers-writer cell behind their last call.
use native.Mathlib.Decide.{dec_lt}
use Rattle.std.specs.List.{AllByRecursion}
use Rattle.std.proofs.lemmas.List.Elements.{recursion_from_All}
use Rattle.std.proofs.Common.{◌≡◌, ◌≢◌, ℕ, zero, suc, ◌<◌, ◌≤◌, true, List, [], ◌∷◌, map, length, get_or, All, sym, refl, ap, ◌∙◌, subst, arith}
use Rattle.dir_table.specs.declared.calls.DirCall.{DirCall}
use Rattle.dir_table.specs.declared.calls.DirReply.{DirReply}
use Rattle.dir_table.specs.Directory.{Directory}
use Rattle.dir_table.specs.Numbers.{call_numbers, reply_numbers, state_numbers}
use Rattle.dir_table.specs.Meanings.{reply_at, state_after, Reads, is_read}
use Rattle.dir_table.specs.ObjectLaws.{reads_leave, call_again}
use Rattle.hist_log.specs.declared.entry.Entry.{Entry}
use Rattle.hist_log.specs.History.{IsLegal, operations, state_left}
use Rattle.hist_log.specs.Merge.{merged}
use Rattle.hist_log.proofs.ReadsLeave.{reads_leave_all}
use Rattle.shfl_table.specs.declared.kept.Action.{Action}
use Rattle.shfl_table.specs.Histories.{actions_by, HasSeen}
use Rattle.shfl_table.specs.Books.{actions}
use Rattle.rw_cell.specs.CallOrder.{calls_of}
use Rattle.rw_cell.specs.Closings.{GivesWrites, GivesReads}
use Rattle.rw_cell.specs.RwCells.{RwCellModel, RwPassModel, number, IsPassOf}
use Rattle.trace_text.specs.declared.trace.Trace.{Trace}
use Rattle.trace_text.specs.Report.{done_of}
use Rattle.trace_text.specs.Traces.{IsWithin}
use Rattle.trace_text.specs.Histories.{IsHistoryOf, made_of, made_in, of_worker}
use Rattle.shfl_workers.specs.Passes.{AtEachPlace, IsDone}
use Rattle.shfl_workers.specs.Opened.{IsCellFor}
use Rattle.shfl_workers.specs.RwDirs.{HasMade}
use Rattle.shfl_workers.specs.Receipts.{CountWrites}
use Rattle.shfl_workers.proofs.Numbered.{of_all, element_at}
use Rattle.shfl_workers.proofs.Receipts.{IsWrite, only_writes, merged_counts}
use Rattle.shfl_workers.proofs.WritesMade.{written, merged_written}
use Rattle.shfl_workers.proofs.Merging.{made_once, nobody}
use Rattle.shfl_workers.proofs.Histories.{has_all, is_history}

any_default : {X : Type 0} (xs : List X) (i : ℕ) (d e : X) → i < length xs → get_or xs i d ≡ get_or xs i e
any_default [] i d e lt = absurd (omega arith)
any_default (x ∷ xs) zero d e lt = refl
any_default (x ∷ xs) (suc i) d e lt = any_default xs i d e (omega (arith, lt))

module _ {O : Type 0} (t : Trace) (within : IsWithin t) (cell : RwCellModel) (opened : IsCellFor t cell)
    (ps : List (RwPassModel (Entry O DirCall DirReply))) (many : length ps ≡ length t.workers.items)
    (done : AtEachPlace (IsDone (IsPassOf cell) number HasMade t.calls.items) ps)
    (writes : List (Entry O DirCall DirReply)) (reads : List (List (Entry O DirCall DirReply)))
    (gives_writes : GivesWrites call_numbers reply_numbers reply_at state_after cell ps writes)
    (gives_reads : GivesReads call_numbers reply_numbers Reads reply_at state_after cell ps writes reads) where
  abbrev history : List (Entry O DirCall DirReply)
  history = merged (λ e. e.receipt) writes reads

  others : (k : ℕ) → length t.workers.items ≤ k → All (All (λ e. e.worker ≢ k)) reads
  others k past j d lt i e h same =
      let count = opened.count in
      let b : j < cell.count = (let n = gives_reads.count in omega (arith, lt, n)) in
      let o = gives_reads.own j b i e (subst (λ l. i < length l) (any_default reads j d [] lt) h) in
      let o' : (get_or (get_or reads j d) i e).worker ≡ j = subst (λ l. (get_or l i e).worker ≡ j) (any_default reads j [] d lt) o in
      omega (arith, same, o', b, count, past)

  own : AtEachPlace (λ k p. of_worker k (map made_of (map done_of history)) ≡ of_worker k (made_in t.calls.items)) ps
  own k p at =
      let d = done k p at in
      let order = of_all (λ (q : RwPassModel (Entry O DirCall DirReply)). actions_by (number q) (actions call_numbers reply_numbers history) ≡ calls_of call_numbers reply_numbers q) ps gives_reads.order k p at in
      made_once k history (of_worker k (made_in t.calls.items))
      (subst (λ w. map (λ (x : Action). x.call) (actions_by w (actions call_numbers reply_numbers history)) ≡ map call_numbers (of_worker k (made_in t.calls.items))) d.number_is
      (ap (map (λ (x : Action). x.call)) order ∙ d.has_made.0))

  nobody_else : (k : ℕ) → length t.workers.items ≤ k → of_worker k (map made_of (map done_of history)) ≡ []
  nobody_else k past =
      let count = opened.count in
      made_once k history [] (ap (map (λ (x : Action). x.call)) (nobody k 0 reads writes (others k past) (gives_writes.nobody_else k (omega (arith, past, count)))))

  only_reads : All (All (λ e. Reads (call_numbers e.call))) reads
  only_reads j d lt i e h = (gives_reads.fit j d lt i e h).0

  each_write : (k : ℕ) → AllByRecursion IsWrite (actions_by k (actions call_numbers reply_numbers writes))
  each_write k = elim (dec_lt k (length t.workers.items)) as (λ _. AllByRecursion IsWrite (actions_by k (actions call_numbers reply_numbers writes))) [
    | yes lt ↦
        let p = element_at ps k (omega (arith, lt, many)) in let d = done k p.0 p.1 in
        let saw = of_all (λ (q : RwPassModel (Entry O DirCall DirReply)). HasSeen (actions call_numbers reply_numbers writes) (number q) q.seen) ps gives_writes.seen k p.0 p.1 in
        subst (λ w. AllByRecursion IsWrite (actions_by w (actions call_numbers reply_numbers writes))) d.number_is (subst (AllByRecursion IsWrite) (sym saw.1) d.has_made.1)
    | no ge ↦ let count = opened.count in subst (AllByRecursion IsWrite) (sym (gives_writes.nobody_else k (omega (arith, ge, count)))) tt
  ]

  are_reads : AllByRecursion (AllByRecursion (λ e. is_read e.call ≡ true)) reads
  are_reads = recursion_from_All (AllByRecursion (λ e. is_read e.call ≡ true)) reads
      (λ j d lt. recursion_from_All (λ e. is_read e.call ≡ true) (get_or reads j d) (λ i e h. sym (ap is_read (call_again (get_or (get_or reads j d) i e).call)) ∙ only_reads j d lt i e h))

  -- the receipt of each entry is the number of writes before it
  pub receipts_are : CountWrites history
  receipts_are = merged_counts writes reads are_reads (only_writes writes each_write) gives_writes.places

  -- its writes are those that were written
  pub writes_are : written history ≡ actions call_numbers reply_numbers writes
  writes_are = merged_written writes reads are_reads (only_writes writes each_write)

  -- the merged history is one of the trace
  pub merged_is : (dir : Directory) (es : List (Entry O DirCall DirReply)) → es ≡ history
      → IsLegal reply_at state_after cell.opening (operations call_numbers reply_numbers es)
      → state_numbers dir ≡ state_left state_after cell.opening (operations call_numbers reply_numbers writes) → IsHistoryOf t (map done_of es) dir
  merged_is dir es order legal state =
      let at_beginning = λ (s : List ℕ) (l : List (Entry O DirCall DirReply)). IsLegal reply_at state_after s (operations call_numbers reply_numbers l) in
      subst (λ (l : List (Entry O DirCall DirReply)). IsHistoryOf t (map done_of l) dir) (sym order)
      (is_history t within history (has_all t within history ps many own nobody_else) dir
      (subst (λ s. at_beginning s history) opened.opening (subst (at_beginning cell.opening) order legal))
      (state ∙ sym (reads_leave_all call_numbers reply_numbers Reads state_after reads_leave cell.opening writes reads only_reads) ∙ ap (λ s. state_left state_after s (operations call_numbers reply_numbers history)) opened.opening))
