use Rattle.std.proofs.Common.{◌≡◌, ◌≤◌, take, length}
use Rattle.shfl_sched.specs.ReportParts.{parked_below}
use Rattle.shfl_sched.proofs.parked_text.ParkedText.is_of.Given as goal

abbrev pub invariant-loop-pass : goal.invariant-loop-pass
invariant-loop-pass g l = record {
  parked : take l.met l.self.passes.items ≡ parked_below (g.B.Board.meaning l.board).world l.pass;
  within : l.met ≤ length l.self.passes.items;
}
