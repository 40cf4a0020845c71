use Rattle.std.proofs.Common.{◌≡◌, ◌<◌, ℕ, ◌++◌, List, All, Contains, map, reverse, take, drop, length, vec_len, Some, slice_get, slice_index, slice_index_or, sym, ap, ◌∙◌, subst, arith}
use Rattle.std.proofs.lemmas.List.{length-map}
use Rattle.std.proofs.lemmas.Option.{slice_get-get_or}
use Rattle.dir_table.specs.Meanings.{IsAdmitted}
use Rattle.shfl_table.specs.PassModel.{BoardId, BoardModel}
use Rattle.shard_rows.specs.Replay.{DirEntry, opening, IsLegal}
use Rattle.shard_rows.proofs.ByNumbers.{legal_numbers}
use Rattle.dir_shards.specs.Commits.{IsLegalFor, calls_by}
use Rattle.dir_shards.specs.ShardPasses.{ShardPassModel, ShardedDirModel, IsPassOf, AreAll}
use Rattle.dir_shards.specs.Closings.{HasSeen, HasRunAt, shard_of, without_locks}
use Rattle.dir_shards.proofs.Places.{written_back, got_map, all_got, all_at}
use Rattle.dir_shards.proofs.LockEnds.{numbers_same}
use Rattle.dir_shards.proofs.ShardEnds.{same_but_locks, as_many, all_of_table, in_place}
use Rattle.dir_shards.proofs.sharded.ShardedDir.close.Goals as goal

-- passes that lost their locks alone, and were written back
same_back : (long : ℕ) (old new : List ShardPassModel) → long ≡ length old → map without_locks new ≡ map without_locks old
    → (take long (new ++ drop (length new) old) ≡ new)
same_back long old new is same =
    let l = ap length same in let m = length-map new without_locks in let n = length-map old without_locks in written_back long new (drop (length new) old) (omega arith)

pub close_locks-requires-clause-boards : goal.close_locks-requires-clause-boards
close_locks-requires-clause-boards c k d within =
    let lock = slice_index_or c.self.inside.boards.items k d in
    let e = c.self.invariant.each k lock (slice_get-get_or c.self.inside.boards.items k d within) in
    (e.one, subst (λ (z : ℕ × List ShardPassModel). AreAll z.0 z.1) (λ i. (sym (e.count_is ∙ ap (λ (s : ShardedDirModel). length s.allowed) c.self.view_is) i, sym c.deref_mut.ensures.value i)) c.requires.all)

pub close_journal-journal-requires-clause-passes : goal.close_journal-journal-requires-clause-passes
close_journal-journal-requires-clause-passes c =
    let old = c.args.passes.items in let new = c.close_locks.new.passes in let P : ShardPassModel → Type 0 = λ p. p.journal ≡ c.self.inside.table.id in
    let same : map without_locks new ≡ map without_locks old = c.close_locks.ensures.passes ∙ ap (map without_locks) c.deref_mut.ensures.value in
    subst (All P) (sym (same_back c.args.passes.len old new c.args.passes.ok.0 same))
    (all_got P new (λ k p at.
    let q = same_but_locks old new same k p at in
    ap (λ (z : ShardPassModel). z.journal) q.2 ∙ ((all_at (IsPassOf c.args.self) old k q.0 c.requires.dir q.1).journal ∙ ap (λ (s : ShardedDirModel). s.journal) (sym c.self.view_is))))

pub close_journal-journal-requires-clause-all : goal.close_journal-journal-requires-clause-all
close_journal-journal-requires-clause-all c =
    let old = c.args.passes.items in let new = c.close_locks.new.passes in
    let same : map without_locks new ≡ map without_locks old = c.close_locks.ensures.passes ∙ ap (map without_locks) c.deref_mut.ensures.value in
    subst (λ (z : ℕ × List ℕ). (k : ℕ) → k < z.0 → Contains z.1 k)
    (λ i. (
      ap (λ (s : ShardedDirModel). length s.allowed) (sym c.self.view_is) i,
      sym (ap (map (λ (p : ShardPassModel). p.number)) (same_back c.args.passes.len old new c.args.passes.ok.0 same) ∙ numbers_same old new same) i,
    )) c.requires.all

pub close_journal-journal-requires-clause-kept : goal.close_journal-journal-requires-clause-kept
close_journal-journal-requires-clause-kept c = let t = c.self.inside.table in
    all_of_table t.id (slice_index t.opening 0) (length t.allowed) c.self.inside.boards.items c.close_locks.new.kept.items c.self.invariant.each c.close_locks.ensures.kept

pub put_all-requires-clause-count : goal.put_all-requires-clause-count
put_all-requires-clause-count c = let t = c.self.inside.table in let kept = c.close_locks.new.kept.items in
    let many = as_many t.id (slice_index t.opening 0) (length t.allowed) c.self.inside.boards.items kept c.self.invariant.each c.close_locks.ensures.kept in
    let long = ap length c.close_journal-journal.ensures.shards in let mapped = length-map (reverse kept) shard_of in let ok = c.close_journal-journal.new.shards.ok.0 in let count = c.self.invariant.count in
    omega (arith, many, long, mapped, ok, count)

pub put_all-requires-clause-shards : goal.put_all-requires-clause-shards
put_all-requires-clause-shards c = let t = c.self.inside.table in let done = c.close_journal-journal.ensures in
    in_place t.id (slice_index t.opening 0) (length t.allowed) c.self.inside.boards.items c.close_locks.new.kept.items c.self.invariant.each c.close_locks.ensures.kept
    c.close_journal-journal.result c.close_journal-journal.new.shards.items done.opening.0 done.begins done.shards

pub returns-clause-legal : goal.returns-clause-legal
returns-clause-legal c = let j = c.close_journal-journal.result in
    let room : j.room ≡ c.args.self.room = c.close_journal-journal.ensures.opening.0 ∙ ap (λ (s : ShardedDirModel). s.room) c.self.view_is in
    let legal : IsLegal (opening c.args.self.room) c.into_entries.result.items =
    subst (λ (z : ℕ × List DirEntry). IsLegal (opening z.0) z.1) (λ i. (room i, sym c.into_entries.ensures.entries i)) c.into_entries.ensures.legal in
    record { legal = legal; history = legal_numbers (opening c.args.self.room) c.into_entries.result.items legal }

pub returns-clause-seen : goal.returns-clause-seen
returns-clause-seen c =
    let old = c.args.passes.items in let new = c.close_locks.new.passes in let j = c.close_journal-journal.result in let total = c.into_entries.result.items in
    let same : map without_locks new ≡ map without_locks old = c.close_locks.ensures.passes ∙ ap (map without_locks) c.deref_mut.ensures.value in
    let seen : All (HasSeen j.entries) new = subst (All (HasSeen j.entries)) (same_back c.args.passes.len old new c.args.passes.ok.0 same) c.close_journal-journal.ensures.seen in
    all_got (HasSeen total) old (λ k p at.
    let q = same_but_locks new old (sym same) k p at in let s = all_at (HasSeen j.entries) new k q.0 seen q.1 in
    let seen_is = ap (λ (z : ShardPassModel). z.seen) q.2 in let number_is = ap (λ (z : ShardPassModel). z.number) q.2 in
    record {
      begins = (s.begins.0, c.into_entries.ensures.entries ∙ (s.begins.1 ∙ ap (λ l. l ++ s.begins.0) (sym seen_is)));
      own = (λ i. calls_by (number_is i) (c.into_entries.ensures.entries i)) ∙ (s.own ∙ (λ i. calls_by (sym number_is i) (sym seen_is i)));
    })

pub returns-clause-admitted : goal.returns-clause-admitted
returns-clause-admitted c = let j = c.close_journal-journal.result in
    let room : j.room ≡ c.args.self.room = c.close_journal-journal.ensures.opening.0 ∙ ap (λ (s : ShardedDirModel). s.room) c.self.view_is in
    subst (λ (z : ℕ × List DirEntry). All (λ e. IsAdmitted z.0 e.call) z.1) (λ i. (room i, sym c.into_entries.ensures.entries i)) c.into_entries.ensures.admitted

pub returns-clause-run : goal.returns-clause-run
returns-clause-run c dir lock at = let boards = c.self.inside.boards.items in
    let b = got_map (λ (b : BoardModel). b.id) boards dir lock (ap (λ (s : ShardedDirModel). slice_get s.locks dir) c.self.view_is ∙ at) in
    let count = (c.self.invariant.each dir b.0 b.1).count_is ∙ ap (λ (s : ShardedDirModel). length s.allowed) c.self.view_is in
    subst (λ (z : ℕ × BoardId × List ShardPassModel). HasRunAt dir z.0 z.1 z.2) (λ i. (count i, sym b.2 i, c.deref_mut.ensures.value i)) (c.close_locks.ensures.runs dir b.0 b.1)
