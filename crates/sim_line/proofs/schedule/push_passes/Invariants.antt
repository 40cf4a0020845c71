use Rattle.std.proofs.Common.{◌≡◌, ◌++◌, drop}
use Rattle.std.specs.List.{flat_map}
use Rattle.sim_line.specs.ScheduleTexts.{pass_text}
use Rattle.sim_line.proofs.schedule.push_passes.Given as goal

abbrev pub invariant-loop-attr : goal.invariant-loop-attr
invariant-loop-attr l = l.out.items ++ flat_map pass_text (drop l.attr-index l.attrs) ≡ l.fn.out.items ++ flat_map pass_text l.attrs
