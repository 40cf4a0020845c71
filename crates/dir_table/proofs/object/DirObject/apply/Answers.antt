use Rattle.std.proofs.Common.{ap, sym, ◌∙◌}
use Rattle.dir_table.specs.declared.calls.DirCall.TheVariants.{Make, Drop, Rename}
use Rattle.dir_table.specs.Numbers.{call_numbers, reply_numbers, state_numbers}
use Rattle.dir_table.specs.Meanings.{reply_at, state_after}
use Rattle.dir_table.specs.ObjectLaws.{reply_as, state_as}
use Rattle.dir_table.proofs.object.DirObject.apply.Goals as goal

pub returns-in-Make-clause-reply : goal.returns-in-Make-clause-reply
returns-in-Make-clause-reply c =
    ap reply_numbers c.make.ensures.reply ∙ reply_as c.args.self.now (Make c.in-Make.dir c.in-Make.name)
    ∙ ap (λ call. reply_at (state_numbers c.args.self.now) (call_numbers call)) (sym c.in-Make.is)

pub returns-in-Make-clause-state : goal.returns-in-Make-clause-state
returns-in-Make-clause-state c =
    ap state_numbers c.make.ensures.after ∙ state_as c.args.self.now (Make c.in-Make.dir c.in-Make.name)
    ∙ ap (λ call. state_after (state_numbers c.args.self.now) (call_numbers call)) (sym c.in-Make.is)

pub returns-in-Drop-clause-reply : goal.returns-in-Drop-clause-reply
returns-in-Drop-clause-reply c =
    ap reply_numbers c.drop_name.ensures.reply ∙ reply_as c.args.self.now (Drop c.in-Drop.dir c.in-Drop.name)
    ∙ ap (λ call. reply_at (state_numbers c.args.self.now) (call_numbers call)) (sym c.in-Drop.is)

pub returns-in-Drop-clause-state : goal.returns-in-Drop-clause-state
returns-in-Drop-clause-state c =
    ap state_numbers c.drop_name.ensures.after ∙ state_as c.args.self.now (Drop c.in-Drop.dir c.in-Drop.name)
    ∙ ap (λ call. state_after (state_numbers c.args.self.now) (call_numbers call)) (sym c.in-Drop.is)

pub returns-in-Rename-clause-reply : goal.returns-in-Rename-clause-reply
returns-in-Rename-clause-reply c =
    ap reply_numbers c.rename.ensures.reply ∙ reply_as c.args.self.now (Rename c.in-Rename.dir c.in-Rename.name c.in-Rename.to_dir c.in-Rename.to_name)
    ∙ ap (λ call. reply_at (state_numbers c.args.self.now) (call_numbers call)) (sym c.in-Rename.is)

pub returns-in-Rename-clause-state : goal.returns-in-Rename-clause-state
returns-in-Rename-clause-state c =
    ap state_numbers c.rename.ensures.after ∙ state_as c.args.self.now (Rename c.in-Rename.dir c.in-Rename.name c.in-Rename.to_dir c.in-Rename.to_name)
    ∙ ap (λ call. state_after (state_numbers c.args.self.now) (call_numbers call)) (sym c.in-Rename.is)
