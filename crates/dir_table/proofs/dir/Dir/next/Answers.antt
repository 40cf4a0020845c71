use Rattle.std.proofs.Common.{ℕ, Option, Some, None, ap, sym, ◌∙◌, subst, refl}
use Rattle.std.specs.List.{find}
use Rattle.dir_table.specs.declared.calls.DirReply.{DirReply}
use Rattle.dir_table.specs.declared.calls.DirReply.TheVariants.{Name, End}
use Rattle.dir_table.specs.Names.{entries_of}
use Rattle.dir_table.specs.Blocks.{joined}
use Rattle.dir_table.specs.Answers.{name_reply, next_name, IsLeastAfter, NoneAfter}
use Rattle.dir_table.proofs.Next.{is_next}
use Rattle.dir_table.proofs.Least.{next_is, next_reply, least_name, no_name}
use Rattle.dir_table.proofs.dir.Dir.next.Goals as goal

reply_by : Option ℕ → DirReply
reply_by None = End
reply_by (Some n) = Name n

pub returns-in-Some-clause-reply : goal.returns-in-Some-clause-reply
unfolding reply_by
returns-in-Some-clause-reply c =
    let rows = joined c.self.inside.rows.blocks in
    let sorted = c.self.invariant.in_order in
    let found = c.in-Some.ensures in
    next_reply rows sorted c.args.dir c.args.after (find (is_next c.args.dir c.args.after) (entries_of rows)) reply_by refl (λ n. refl) (Some c.in-Some.name) found
    ∙ ap name_reply (sym (next_is rows sorted c.args.dir c.args.after))
    ∙ ap (λ d. name_reply (next_name d.names c.args.dir c.args.after)) c.self.view_is

pub returns-in-Some-clause-least : goal.returns-in-Some-clause-least
returns-in-Some-clause-least c name is =
    subst (λ d. IsLeastAfter d.names c.args.dir c.args.after name) c.self.view_is
    (least_name (joined c.self.inside.rows.blocks) c.self.invariant.in_order c.args.dir c.args.after name
    (sym is ∙ returns-in-Some-clause-reply c ∙ ap (λ d. name_reply (next_name d.names c.args.dir c.args.after)) (sym c.self.view_is)))

pub returns-in-None-clause-reply : goal.returns-in-None-clause-reply
unfolding reply_by
returns-in-None-clause-reply c =
    let rows = joined c.self.inside.rows.blocks in
    let sorted = c.self.invariant.in_order in
    let found = c.in-None.ensures in
    next_reply rows sorted c.args.dir c.args.after (find (is_next c.args.dir c.args.after) (entries_of rows)) reply_by refl (λ n. refl) None found
    ∙ ap name_reply (sym (next_is rows sorted c.args.dir c.args.after))
    ∙ ap (λ d. name_reply (next_name d.names c.args.dir c.args.after)) c.self.view_is

pub returns-in-None-clause-end : goal.returns-in-None-clause-end
returns-in-None-clause-end c is =
    subst (λ d. NoneAfter d.names c.args.dir c.args.after) c.self.view_is
    (no_name (joined c.self.inside.rows.blocks) c.self.invariant.in_order c.args.dir c.args.after
    (returns-in-None-clause-reply c ∙ ap (λ d. name_reply (next_name d.names c.args.dir c.args.after)) (sym c.self.view_is)))
