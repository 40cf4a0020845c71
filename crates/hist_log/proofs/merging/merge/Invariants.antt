use Rattle.std.proofs.Common.{◌≡◌, ◌++◌, map, drop}
use Rattle.hist_log.specs.Merge.{merged_from, merged, AllStartAt}
use Rattle.hist_log.proofs.merging.merge.Given as goal

-- what is merged so far and what is left are the whole, and each list starts at this point
abbrev pub invariant-loop-point : goal.invariant-loop-point
invariant-loop-point g l =
    let lists = map (λ v. v.items) l.reads in
    record {
      told : l.merged.items ++ merged_from (λ e. e.receipt) lists l.point (drop l.point l.writes) ≡ merged (λ e. e.receipt) l.writes lists;
      starts : AllStartAt (λ e. e.receipt) l.point lists l.starts.items;
    }
