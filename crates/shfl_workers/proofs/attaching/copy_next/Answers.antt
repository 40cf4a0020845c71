use Rattle.std.proofs.Common.{◌++◌, sym, ap, subst}
use Rattle.trace_text.specs.Attachments.{attached_by}
use Rattle.shfl_workers.specs.Attaching.{AreCopies}
use Rattle.shfl_workers.proofs.Attachments.{copies_more}
use Rattle.shfl_workers.proofs.attaching.copy_next.Goals as goal

pub returns : goal.returns
returns c = λ policies h.
    subst (λ l. AreCopies c.args.registry.now (policies ++ l) c.push_back.new.self.items) (sym (ap attached_by c.in-Attach.is))
    (subst (AreCopies c.args.registry.now (policies ++ _)) (sym c.in_ok-push_back.ensures.items)
    (copies_more c.args.registry.now policies c.args.copies.now.items c.in-Attach.policy c.in-Ok.copy h c.in-Ok.ensures.which c.in-Ok.ensures.copy))
