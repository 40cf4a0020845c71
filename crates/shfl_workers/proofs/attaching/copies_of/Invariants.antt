use Rattle.std.proofs.Common.{take}
use Rattle.trace_text.specs.Attachments.{attached_in}
use Rattle.shfl_workers.specs.Attaching.{AreCopies}
use Rattle.shfl_workers.proofs.attaching.copies_of.Given as goal

abbrev pub invariant-loop-call : goal.invariant-loop-call
invariant-loop-call l = AreCopies l.registry (attached_in (take l.call-index l.calls)) l.copies.items
