use Rattle.std.proofs.Common.{◌≡◌, ◌++◌, drop}
use Rattle.std.specs.List.{flat_map}
use Rattle.sim_line.specs.ScheduleTexts.{event_text}
use Rattle.sim_line.proofs.schedule.push_events.Given as goal

abbrev pub invariant-loop-event : goal.invariant-loop-event
invariant-loop-event l = l.out.items ++ flat_map event_text (drop l.event-index l.events) ≡ l.fn.out.items ++ flat_map event_text l.events
