use Rattle.std.proofs.Common.{◌≤◌, ◌+◌, map, take, length}
use Rattle.dir_table.specs.Numbers.{state_numbers}
use Rattle.trace_text.specs.Report.{done_of}
use Rattle.syncord_replay.specs.Serial.{Follows}
use Rattle.command_tests.proofs.serial.take_calls.Given as goal

abbrev pub invariant-loop-call : goal.invariant-loop-call
invariant-loop-call l = record {
  follows : Follows (state_numbers l.fn.dir) (take l.call-index l.calls) (map done_of l.history.items) (state_numbers l.dir);
  left : length l.calls ≤ l.dir.spare + l.call-index;
}
