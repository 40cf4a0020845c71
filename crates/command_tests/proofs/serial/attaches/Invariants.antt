use Rattle.std.proofs.Common.{◌≡◌, [], take}
use Rattle.trace_text.specs.Attachments.{attached_in}
use Rattle.command_tests.proofs.serial.attaches.Given as goal

abbrev pub invariant-loop-call : goal.invariant-loop-call
invariant-loop-call l = attached_in (take l.call-index l.calls) ≡ []
