use Rattle.std.proofs.Common.{map}
use Rattle.hist_log.proofs.Points.{TakenTo}
use Rattle.hist_log.proofs.merging.append_reads.Given as goal

abbrev pub invariant-loop-k : goal.invariant-loop-k
invariant-loop-k g l = TakenTo (λ e. e.receipt) l.point (map (λ v. v.items) l.reads) l.fn.merged.items l.merged.items l.starts l.k
