use Rattle.std.proofs.Common.{◌<◌, ◌-◌, length}
use Rattle.name_order.proofs.gathered.look_for.Given as goal

abbrev pub invariant-loop-looks : goal.invariant-loop-looks
invariant-loop-looks l = l.at < length l.slots

abbrev pub decreases-loop-looks : goal.decreases-loop-looks
decreases-loop-looks l = 16 - l.looks
