use Rattle.std.proofs.Common.{drop}
use Rattle.dir_table.specs.Blocks.{is_below, begins_with}
use Rattle.dir_table.proofs.Cuts.{Narrowed}
use Rattle.dir_table.proofs.search.begun_below.Given as goal

abbrev pub invariant-loop-left : goal.invariant-loop-left
invariant-loop-left l = Narrowed (begins_with (is_below (l.dir, l.name))) (drop 1 l.list.blocks) l.begun l.left

abbrev pub decreases-loop-left : goal.decreases-loop-left
decreases-loop-left l = l.left
