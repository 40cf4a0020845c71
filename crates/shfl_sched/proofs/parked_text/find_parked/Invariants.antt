use Rattle.std.proofs.Common.{◌≡◌, ◌≤◌, vec_capacity}
use Rattle.shfl_sched.specs.ReportParts.{parked_below}
use Rattle.shfl_sched.proofs.parked_text.find_parked.Given as goal

abbrev pub invariant-loop-pass : goal.invariant-loop-pass
invariant-loop-pass g l = record {
  found : l.found.items ≡ parked_below (g.B.Board.meaning l.board).world l.pass;
  room : vec_capacity l.fn.found ≤ vec_capacity l.found;
}
