use Rattle.std.proofs.Common.{take, sym, ap, ◌∙◌, subst, arith}
use Rattle.std.proofs.lemmas.List.{take_more}
use Rattle.trace_text.specs.Attachments.{attached_in}
use Rattle.shfl_workers.specs.Attaching.{AreCopies}
use Rattle.shfl_workers.proofs.Attachments.{attached_more}
use Rattle.shfl_workers.proofs.attaching.copies_of.Goals as goal

pub loop-call-preserved : goal.loop-call-preserved
loop-call-preserved c = let calls = c.args.calls.now in let i = c.loop-call.call-index in
    subst (λ l. AreCopies c.args.registry.now l c.copy_next.new.copies.items) (sym (ap attached_in (take_more calls i _ (omega arith)) ∙ attached_more (take i calls) _))
    (c.in_ok-copy_next.ensures (attached_in (take i calls)) c.loop-call.invariant)
