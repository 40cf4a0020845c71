use Rattle.std.proofs.Common.{ap, ◌∙◌, inl, inr, ⊎_elim}
use Rattle.dir_table.specs.Numbers.{reply_numbers, state_numbers}
use Rattle.dir_table.proofs.Refused.{follows_refused}
use Rattle.dir_table.proofs.object.DirObject.follow.Goals as goal

-- what was refused changes nothing
pub returns-in-Exists-clause-state : goal.returns-in-Exists-clause-state
returns-in-Exists-clause-state c =
    ap state_numbers c.spend.ensures
    ∙ follows_refused c.args.self.now c.args.call.now c.args.reply.now (⊎_elim (λ h. inl (ap reply_numbers h)) (λ h. inr (ap reply_numbers h)) c.in-Exists.is) c.requires.answered
