use Rattle.std.proofs.Common.{◌≡◌, ◌+◌, ◌-◌, ◌<◌, ◌≤◌, ◌++◌, eqb, take, length}
use Rattle.std.specs.List.{filter, AllWithin}
use Rattle.hist_log.proofs.merging.append_point.Given as goal

-- what is appended are the reads of the point up to here, and no earlier read is of a later point
abbrev pub invariant-loop-end : goal.invariant-loop-end
invariant-loop-end g l = record {
  in_range : l.end ≤ length l.reads;
  since : l.fn.start ≤ l.end;
  taken : l.merged.items ≡ l.fn.merged.items ++ filter (λ e. eqb e.receipt l.point) (take l.end l.reads);
  before : AllWithin (λ e. e.receipt < l.point + 1) l.reads 0 l.end;
}

abbrev pub decreases-loop-end : goal.decreases-loop-end
decreases-loop-end g l = length l.reads - l.end
