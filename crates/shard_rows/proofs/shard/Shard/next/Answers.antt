use Rattle.std.proofs.Common.{◌≡◌, ℕ, ◌<◌, ◌≤◌, slice_index, ap, sym, ◌∙◌, subst}
use Rattle.dir_table.specs.Answers.{name_reply, next_name}
use Rattle.shard_rows.proofs.Answered.{next_is, next_ends}
use Rattle.shard_rows.proofs.shard.Shard.next.Goals as goal

pub returns-in-Some : goal.returns-in-Some
returns-in-Some c =
    let i = c.self.inside in
    let from = c.start_of.ensures in
    sym (next_is i.dir i.table.numbers c.args.after c.in-Some.name (subst (λ n. n ≤ c.in-Some.name) from c.in-Some.ensures.there.0) c.in-Some.ensures.there.1
    (λ other later below. c.in-Some.ensures.least other (subst (λ n. n ≤ other) (sym from) later) below))
    ∙ ap (λ s. name_reply (next_name s.names s.dir c.args.after)) c.self.view_is

pub returns-in-None : goal.returns-in-None
returns-in-None c =
    let i = c.self.inside in
    sym (next_ends i.dir i.table.numbers c.args.after (λ other later. c.in-None.ensures.none other (subst (λ n. n ≤ other) (sym c.start_of.ensures) later)))
    ∙ ap (λ s. name_reply (next_name s.names s.dir c.args.after)) c.self.view_is
