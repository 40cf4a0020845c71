-- The writes of a history that was merged of writes and reads are those that were written.
use Rattle.std.proofs.Common.{◌≡◌, ℕ, suc, Bool, true, false, not, cond, List, [], ◌∷◌, ◌++◌, map, refl, sym, ap, ◌∙◌, append-nil}
use Rattle.std.specs.List.{AllByRecursion}
use Rattle.dir_table.specs.declared.calls.DirCall.{DirCall}
use Rattle.dir_table.specs.declared.calls.DirReply.{DirReply}
use Rattle.dir_table.specs.Numbers.{call_numbers, reply_numbers}
use Rattle.dir_table.specs.Meanings.{is_read}
use Rattle.hist_log.specs.declared.entry.Entry.{Entry}
use Rattle.hist_log.specs.Merge.{reads_at, merged_from, merged}
use Rattle.shfl_table.specs.declared.kept.Action.{Action}
use Rattle.shfl_table.specs.Books.{actions}
use Rattle.trace_text.specs.Report.{done_of}
use Rattle.shfl_workers.specs.LockRuns.{action_of, writes_of}
use Rattle.shfl_workers.proofs.Receipts.{IsReadAt, kept_at}

module _ {O : Type 0} where
  abbrev pub written : List (Entry O DirCall DirReply) → List Action
  written es = map action_of (writes_of (map done_of es))

  -- whether a first entry counts, by what is known of its call
  first_one : (b c : Bool) (e : Entry O DirCall DirReply) (es : List (Entry O DirCall DirReply)) → b ≡ c
      → map action_of (cond (not b) (done_of e ∷ writes_of (map done_of es)) (writes_of (map done_of es)))
      ≡ map action_of (cond (not c) (done_of e ∷ writes_of (map done_of es)) (writes_of (map done_of es)))
  first_one b c e es same = ap (λ d. map action_of (cond (not d) (done_of e ∷ writes_of (map done_of es)) (writes_of (map done_of es)))) same

  none_written : (point : ℕ) (l rest : List (Entry O DirCall DirReply)) → AllByRecursion (IsReadAt point) l → written (l ++ rest) ≡ written rest
  none_written point [] rest all = refl
  none_written point (e ∷ es) rest all = first_one (is_read e.call) true e (es ++ rest) all.0.1 ∙ none_written point es rest all.1

  written_from : (reads : List (List (Entry O DirCall DirReply))) → AllByRecursion (AllByRecursion (λ e. is_read e.call ≡ true)) reads → (point : ℕ) (ws : List (Entry O DirCall DirReply))
      → AllByRecursion (λ e. is_read e.call ≡ false) ws → written (merged_from (λ e. e.receipt) reads point ws) ≡ actions call_numbers reply_numbers ws
  written_from reads all point [] writes =
      let here = reads_at (λ (e : Entry O DirCall DirReply). e.receipt) reads point in
      ap written (sym (append-nil here)) ∙ none_written point here [] (kept_at point reads all)
  written_from reads all point (w ∷ ws) writes =
      let here = reads_at (λ (e : Entry O DirCall DirReply). e.receipt) reads point in let later = merged_from (λ (e : Entry O DirCall DirReply). e.receipt) reads (suc point) ws in
      none_written point here (w ∷ later) (kept_at point reads all) ∙ first_one (is_read w.call) false w later writes.0
      ∙ ap (λ l. action_of (done_of w) ∷ l) (written_from reads all (suc point) ws writes.1)

  -- reads and writes, merged
  pub merged_written : (writes : List (Entry O DirCall DirReply)) (reads : List (List (Entry O DirCall DirReply))) → AllByRecursion (AllByRecursion (λ e. is_read e.call ≡ true)) reads
      → AllByRecursion (λ e. is_read e.call ≡ false) writes → written (merged (λ e. e.receipt) writes reads) ≡ actions call_numbers reply_numbers writes
  merged_written writes reads all none = written_from reads all 0 writes none
