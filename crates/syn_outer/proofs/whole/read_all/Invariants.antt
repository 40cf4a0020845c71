use Rattle.std.proofs.Common.{◌≡◌, ◌≤◌, ◌-◌, vec_len}
use Rattle.std.specs.Io.KnownBytes.{Consumes}
use Rattle.syn_outer.specs.Causes.{CallsAtMost}
use Rattle.syn_outer.proofs.whole.read_all.Given as goal

abbrev pub invariant-loop-bytes : goal.invariant-loop-bytes
invariant-loop-bytes g l = record {
  taken : Consumes (g.R.Source.left l.fn.src) (g.R.Source.left l.src) l.bytes.items;
  within : vec_len l.bytes ≤ l.limit;
  same : g.R.Source.faults l.src ≡ g.R.Source.faults l.fn.src;
  later : g.R.Source.faults l.fn.src ≤ g.R.Source.faults l.src;
  calls : CallsAtMost (vec_len l.bytes) (g.R.Source.calls l.fn.src) (g.R.Source.calls l.src);
}

abbrev pub decreases-loop-bytes : goal.decreases-loop-bytes
decreases-loop-bytes g l = l.limit - vec_len l.bytes
