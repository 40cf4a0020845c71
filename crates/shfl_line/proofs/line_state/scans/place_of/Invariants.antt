use Rattle.std.proofs.Common.{◌≡◌, ℕ, ◌++◌, take, drop}
use Rattle.shfl_line.specs.Passes.{times, without, put_behind}
use Rattle.shfl_line.proofs.line_state.scans.place_of.Given as goal

abbrev pub invariant-loop-i : goal.invariant-loop-i
invariant-loop-i l = record {
  times : times l.pass (drop l.i l.line) ≡ times l.pass l.line;
  without : take l.i l.line ++ without l.pass (drop l.i l.line) ≡ without l.pass l.line;
  put : (c : ℕ) → take l.i l.line ++ put_behind l.pass c (drop l.i l.line) ≡ put_behind l.pass c l.line;
}
