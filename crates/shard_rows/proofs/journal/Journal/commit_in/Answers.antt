use Rattle.std.proofs.Common.{◌≡◌, length, ap, sym, subst, ◌∙◌}
use Rattle.shard_rows.specs.Replay.{entry_by}
use Rattle.shard_rows.specs.Values.{JournalValue, IsUpTo, caught_up}
use Rattle.shard_rows.proofs.UpTo.{up_to_all, up_to_longer}
use Rattle.shard_rows.proofs.Committing.{committed_reply, committed_number, shard_follows}
use Rattle.shard_rows.proofs.journal.Journal.commit_in.Goals as goal

pub push-requires-clause-reply : goal.push-requires-clause-reply
push-requires-clause-reply c =
    let j = c.args.self.now in
    committed_reply j.entries j.room c.next_number.result c.args.shard.now c.bring_forward.new.self c.args.call.now c.bring_forward.ensures c.requires.room c.requires.named c.next_number.ensures
    c.answer-answered.result.reply c.answer-answered.ensures.reply

pub push-requires-clause-number : goal.push-requires-clause-number
push-requires-clause-number c =
    let j = c.args.self.now in
    committed_number j.entries j.room c.next_number.result c.args.shard.now c.bring_forward.new.self c.args.call.now c.bring_forward.ensures c.requires.room c.requires.named c.next_number.ensures
    c.answer-answered.result.number c.answer-answered.ensures.number

pub returns-clause-reply : goal.returns-clause-reply
returns-clause-reply c =
    let j = c.args.self.now in
    committed_reply j.entries j.room c.next_number.result c.args.shard.now c.bring_forward.new.self c.args.call.now c.bring_forward.ensures c.requires.room c.requires.named c.next_number.ensures
    c.answer-answered.result.reply c.answer-answered.ensures.reply

pub returns-clause-shard : goal.returns-clause-shard
returns-clause-shard c =
    let j = c.args.self.now in
    let number = committed_number j.entries j.room c.next_number.result c.args.shard.now c.bring_forward.new.self c.args.call.now c.bring_forward.ensures c.requires.room c.requires.named c.next_number.ensures
    c.answer-answered.result.number c.answer-answered.ensures.number in
    shard_follows j.entries (entry_by c.args.worker c.args.call.now c.answer-answered.result.reply (length j.entries)) j.room c.answer-answered.result.number c.args.shard.now c.bring_forward.new.self c.follow.new.self
    c.bring_forward.ensures c.requires.room number c.follow.ensures
    ∙ ap (λ (x : JournalValue). caught_up x.entries c.args.shard.now) (sym c.push.ensures)

pub returns-clause-up_to : goal.returns-clause-up_to
returns-clause-up_to c = subst (IsUpTo c.push.new.self.entries) (sym (returns-clause-shard c)) (up_to_all c.push.new.self.entries c.args.shard.now)

pub returns-clause-others : goal.returns-clause-others
returns-clause-others c other kept =
    subst (λ (x : JournalValue). IsUpTo x.entries other) (sym c.push.ensures) (up_to_longer c.args.self.now.entries _ other kept)
