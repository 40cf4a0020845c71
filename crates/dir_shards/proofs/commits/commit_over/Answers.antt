use Rattle.std.proofs.Common.{slice_index, subst}
use Rattle.shard_rows.specs.Replay.{opening, IsLegal}
use Rattle.dir_shards.proofs.Committing.{goes_on}
use Rattle.dir_shards.proofs.commits.commit_over.Goals as goal

pub returns-clause-goes_on : goal.returns-clause-goes_on
returns-clause-goes_on g c = let done = c.commit-answer.ensures in let a = done.answer in
    goes_on c.args.lower.room c.commit-answer.result.place c.args.pass.now c.commit-answer.new.self c.args.call.now c.commit-answer.result.answer.reply a.0.journal a.1.journal
    done.pass a.4.0 a.2 a.3 (subst (λ r. IsLegal (opening r) c.commit-answer.new.self.seen) c.requires.room.0 done.legal)
