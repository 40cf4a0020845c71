use Rattle.std.proofs.Common.{◌≡◌, ap, sym, ◌∙◌, subst}
use Rattle.std.specs.Prelude.{◌↔◌, IsNone}
use Rattle.std.specs.FinMap.{get}
use Rattle.dir_table.specs.declared.calls.DirCall.TheVariants.{Find}
use Rattle.dir_table.specs.declared.calls.DirReply.TheVariants.{Ino, Absent}
use Rattle.dir_table.specs.Blocks.{joined}
use Rattle.dir_table.specs.Answers.{reply_to, number_reply}
use Rattle.dir_table.proofs.Methods.{find_reply, find_absent}
use Rattle.dir_table.proofs.dir.Dir.find.Goals as goal

pub returns-in-Some-clause-reply : goal.returns-in-Some-clause-reply
returns-in-Some-clause-reply c =
    let i = c.self.inside in
    subst (λ d. Ino c.in-Some.ino ≡ reply_to d (Find c.args.dir c.args.name)) c.self.view_is
    (ap number_reply (sym c.in-Some.is) ∙ find_reply (joined i.rows.blocks) i.next_number i.room i.spare c.self.invariant.in_order c.args.dir c.args.name c.number_of.result
    c.number_of.ensures)

pub returns-in-Some-clause-absent : goal.returns-in-Some-clause-absent
returns-in-Some-clause-absent c =
    subst (λ r. (r ≡ Absent) ↔ IsNone (get c.args.self.now.names (c.args.dir, c.args.name))) (sym (returns-in-Some-clause-reply c)) (find_absent (get c.args.self.now.names (c.args.dir, c.args.name)))

pub returns-in-None-clause-reply : goal.returns-in-None-clause-reply
returns-in-None-clause-reply c =
    let i = c.self.inside in
    subst (λ d. Absent ≡ reply_to d (Find c.args.dir c.args.name)) c.self.view_is
    (ap number_reply (sym c.in-None.is) ∙ find_reply (joined i.rows.blocks) i.next_number i.room i.spare c.self.invariant.in_order c.args.dir c.args.name c.number_of.result
    c.number_of.ensures)

pub returns-in-None-clause-absent : goal.returns-in-None-clause-absent
returns-in-None-clause-absent c =
    subst (λ r. (r ≡ Absent) ↔ IsNone (get c.args.self.now.names (c.args.dir, c.args.name))) (sym (returns-in-None-clause-reply c)) (find_absent (get c.args.self.now.names (c.args.dir, c.args.name)))
