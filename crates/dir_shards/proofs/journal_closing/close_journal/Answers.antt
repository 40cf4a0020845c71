use Rattle.std.proofs.Common.{◌≡◌, ◌<◌, ℕ, ◌++◌, List, map, length, slice_index_or, sym, ap, ◌∙◌, subst}
use Rattle.std.proofs.lemmas.Option.{slice_get-get_or}
use Rattle.shared_journal.specs.Entries.{IsAmong}
use Rattle.shared_journal.specs.declared.view.Own.{Own}
use Rattle.shared_journal.specs.Models.{ClosingModel, TableModel}
use Rattle.shard_rows.specs.Replay.{DirEntry}
use Rattle.dir_shards.specs.Commits.{calls_by}
use Rattle.dir_shards.specs.KeptShards.{KeptShardModel}
use Rattle.dir_shards.proofs.JournalEnds.{numbers_back, among_right, among_map}
use Rattle.dir_shards.proofs.journal_closing.close_journal.Goals as goal

pub finish-journal-requires : goal.finish-journal-requires
finish-journal-requires c = let gave = c.give_passes-closing in let closed = c.give_kept.ensures.closing in record {
  all = λ k below.
      let table : c.give_kept.new.closing.table ≡ c.args.table = ap (λ (z : ClosingModel DirEntry). z.table) closed ∙ gave.ensures.table in
      let found = numbers_back (length c.args.table.allowed) gave.result.lists gave.result.numbers c.args.passes.items c.requires.all gave.ensures.passes k (subst (λ (t : TableModel). k < length t.allowed) table below) in
      (found.0, subst (IsAmong found.0) (sym (ap (λ (z : ClosingModel DirEntry). z.numbers) closed)) found.1, found.2);
}

pub returns-clause-seen : goal.returns-clause-seen
returns-clause-seen c k d within = let gave = c.give_passes-closing in let closed = c.give_kept.ensures.closing in let done = c.finish-journal.ensures in
    let p = slice_index_or c.args.passes.items k d in let g = gave.ensures.passes k d within in
    record {
      begins = done.begins p.seen (subst (IsAmong p.seen) (sym (ap (λ (z : ClosingModel DirEntry). z.lists) closed))
          (among_right (map (λ (x : KeptShardModel). x.list) c.args.kept.items) gave.result.lists p.seen g.seen));
      own = ap (λ n. calls_by n c.finish-journal.result.journal.entries) (sym g.own.2)
          ∙ (sym (done.own g.own.0 (subst (IsAmong g.own.0) (sym (ap (λ (z : ClosingModel DirEntry). z.numbers) closed)) g.own.1)) ∙ g.own.3);
    }

pub returns-clause-begins : goal.returns-clause-begins
returns-clause-begins c k d within = let gave = c.give_passes-closing in let closed = c.give_kept.ensures.closing in
    let x = slice_index_or c.args.kept.items k d in
    c.finish-journal.ensures.begins x.list (subst (IsAmong x.list) (sym (ap (λ (z : ClosingModel DirEntry). z.lists) closed))
    (among_map (λ (y : KeptShardModel). y.list) c.args.kept.items gave.result.lists k x (slice_get-get_or c.args.kept.items k d within)))
