use Rattle.std.proofs.Common.{◌≡◌, ◌+◌, ◌*◌, ◌≤◌, ◌++◌, drop, length, vec_capacity}
use Rattle.shfl_core.specs.ShownLine.{shown_line}
use Rattle.shfl_sched.specs.Report.{heading_text, rows_from, count_admitted, count_refused}
use Rattle.shfl_sched.specs.Run.{setup_of, moments, moments_of, lock_after}
use Rattle.shfl_sched.proofs.Pieces.{Handed}
use Rattle.shfl_sched.proofs.run.run_events.Given as goal

abbrev pub invariant-loop-event : goal.invariant-loop-event
invariant-loop-event g l =
    let s = l.schedule in
    let rest = moments (setup_of s) (lock_after s l.event-index).world (drop l.event-index s.events) in
    let all = moments_of s in record {
      text : Handed (g.W.Sink.held l.fn.out) (g.W.Sink.held l.out) l.sent l.text.items (rows_from s.form (l.yes + l.no + 1) rest) (heading_text s ++ rows_from s.form 1 all);
      faults : g.W.Sink.faults l.fn.out ≤ g.W.Sink.faults l.out;
      room : 40000 ≤ vec_capacity l.text;
      sent : l.sent + length l.text.items ≤ 9223372036854775807 + 5598 * l.event-index;
      admitted : l.yes + count_admitted rest ≡ count_admitted all;
      refused : l.no + count_refused rest ≡ count_refused all;
      count : l.yes + l.no ≡ l.event-index;
      lock : g.B.Board.meaning l.board ≡ lock_after s l.event-index;
      shown : l.state ≡ shown_line (g.B.Board.meaning l.board).world;
    }
