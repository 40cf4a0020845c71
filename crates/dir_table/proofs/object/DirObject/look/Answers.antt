use Rattle.std.proofs.Common.{ap, sym, ◌∙◌}
use Rattle.dir_table.specs.declared.calls.DirCall.TheVariants.{Find, Count, Next}
use Rattle.dir_table.specs.Numbers.{call_numbers, reply_numbers, state_numbers}
use Rattle.dir_table.specs.Meanings.{reply_at}
use Rattle.dir_table.specs.ObjectLaws.{reply_as}
use Rattle.dir_table.proofs.object.DirObject.look.Goals as goal

pub returns-in-Find : goal.returns-in-Find
returns-in-Find c =
    ap reply_numbers c.find.ensures.reply ∙ reply_as c.args.self.now (Find c.in-Find.dir c.in-Find.name)
    ∙ ap (λ call. reply_at (state_numbers c.args.self.now) (call_numbers call)) (sym c.in-Find.is)

pub returns-in-Count : goal.returns-in-Count
returns-in-Count c =
    ap reply_numbers c.count.ensures ∙ reply_as c.args.self.now (Count c.in-Count.dir)
    ∙ ap (λ call. reply_at (state_numbers c.args.self.now) (call_numbers call)) (sym c.in-Count.is)

pub returns-in-Next : goal.returns-in-Next
returns-in-Next c =
    ap reply_numbers c.next.ensures.reply ∙ reply_as c.args.self.now (Next c.in-Next.dir c.in-Next.after)
    ∙ ap (λ call. reply_at (state_numbers c.args.self.now) (call_numbers call)) (sym c.in-Next.is)
