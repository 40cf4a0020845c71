-- A history in which each worker made its own calls of the trace.
use Rattle.std.proofs.Common.{◌≡◌, ℕ, ◌≤◌, List, [], map, length, refl, sym, ap, ◌∙◌, subst, arith}
use native.Mathlib.Decide.{dec_lt}
use Rattle.std.proofs.Math.ListN.{length-map}
use Rattle.dir_table.specs.declared.calls.DirCall.{DirCall}
use Rattle.dir_table.specs.declared.calls.DirReply.{DirReply}
use Rattle.dir_table.specs.Directory.{Directory}
use Rattle.dir_table.specs.Numbers.{call_numbers, reply_numbers, state_numbers}
use Rattle.dir_table.specs.Meanings.{reply_at, state_after}
use Rattle.hist_log.specs.declared.entry.Entry.{Entry}
use Rattle.hist_log.specs.History.{IsLegal, operations, state_left}
use Rattle.trace_text.specs.declared.trace.Trace.{Trace}
use Rattle.trace_text.specs.Report.{done_of}
use Rattle.trace_text.specs.Traces.{IsWithin}
use Rattle.trace_text.specs.Histories.{IsHistoryOf, Made, made_of, made_in, of_worker, beginning}
use Rattle.trace_text.proofs.Answered.{answered, left, operations_of}
use Rattle.shfl_workers.specs.Passes.{AtEachPlace}
use Rattle.shfl_workers.proofs.Merging.{nobody_makes}
use Rattle.shfl_workers.proofs.MadeOnce.{no_more, made_few}
use Rattle.shfl_workers.proofs.Numbered.{element_at}

module _ {O : Type 0} (t : Trace) (within : IsWithin t) (history : List (Entry O DirCall DirReply)) where
  -- what the history says of its calls
  abbrev pub said : List Made
  said = map made_of (map done_of history)

  abbrev pub HasAll : Type 0
  HasAll = (k : ℕ) → of_worker k said ≡ of_worker k (made_in t.calls.items)

  -- each worker's calls stand in it, each once: those of the passes, and nobody else's
  pub has_all : {Pass : Type 0} (ps : List Pass) → length ps ≡ length t.workers.items
      → AtEachPlace (λ k p. of_worker k said ≡ of_worker k (made_in t.calls.items)) ps
      → ((k : ℕ) → length t.workers.items ≤ k → of_worker k said ≡ []) → HasAll
  has_all ps many own nobody k = elim (dec_lt k (length t.workers.items)) [
    | yes lt ↦ let p = element_at ps k (omega (arith, lt, many)) in own k p.0 p.1
    | no ge ↦
        let past : length t.workers.items ≤ k = omega (arith, ge) in
        nobody k past ∙ sym (nobody_makes k (length t.workers.items) (length t.names.items) (length t.policies.items) t.calls.items past within.calls)
  ]

  module _ (all : HasAll) where
    -- there are no more of them than lines of the trace
    pub few_entries : length history ≤ length t.calls.items
    few_entries =
        let few = no_more said (made_in t.calls.items) all in let lines = made_few t.calls.items in
        let a = length-map (map done_of history) made_of in let b = length-map history done_of in omega (arith, few, lines, a, b)

    -- it is a history of the trace
    pub is_history : (final : Directory) → IsLegal reply_at state_after (state_numbers (beginning t)) (operations call_numbers reply_numbers history)
        → state_numbers final ≡ state_left state_after (state_numbers (beginning t)) (operations call_numbers reply_numbers history)
        → IsHistoryOf t (map done_of history) final
    is_history final legal state = record {
      legal = answered (beginning t) (map done_of history) (subst (IsLegal reply_at state_after (state_numbers (beginning t))) (operations_of history) legal);
      leaves = left (beginning t) final (map done_of history) refl (state ∙ ap (state_left state_after (state_numbers (beginning t))) (operations_of history));
      each_once = all;
    }
