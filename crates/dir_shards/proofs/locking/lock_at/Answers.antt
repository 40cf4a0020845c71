use Rattle.std.proofs.Common.{◌≡◌, ◌++◌, sym, refl, ap, ◌∙◌, set, slice_index_or}
use Rattle.std.proofs.lemmas.Option.{slice_get-get_or}
use Rattle.shfl_table.specs.declared.view.Decision.{Decision}
use Rattle.dir_shards.specs.Locks.{LockPass, decisions_at}
use Rattle.dir_shards.proofs.LockPasses.{board_at, decisions_of}
use Rattle.dir_shards.proofs.Places.{got_here}
use Rattle.dir_shards.proofs.locking.lock_at.Goals as goal

pub take_lock-requires-clause-board : goal.take_lock-requires-clause-board
take_lock-requires-clause-board g c = board_at c.args.passes.now c.args.boards.now c.args.place c.index-passes-place.result c.index-boards-place.result c.requires.within c.requires.locks c.index-boards-place.is

pub take_lock-requires-clause-free : goal.take_lock-requires-clause-free
take_lock-requires-clause-free g c = c.requires.free _ (slice_get-get_or c.args.passes.now c.args.place c.index-passes-place.result c.requires.within)

pub returns-clause-takes : goal.returns-clause-takes
returns-clause-takes g c = let t = c.take_lock.ensures in record {
  before = slice_index_or c.args.passes.now c.args.place c.index-passes-place.result;
  after = c.take_lock.new.pass;
  was = slice_get-get_or c.args.passes.now c.args.place c.index-passes-place.result c.requires.within;
  same = t.same;
  out = t.out;
  state = t.kept;
  others = refl;
}

pub returns-clause-asked : goal.returns-clause-asked
returns-clause-asked g c = let a = c.take_lock.ensures.asked in let passes = c.args.passes.now in let place = c.args.place in
    let was = decisions_of passes place (slice_index_or passes place c.index-passes-place.result) (slice_get-get_or passes place c.index-passes-place.result c.requires.within) in
    let now = decisions_of (set passes place c.take_lock.new.pass) place c.take_lock.new.pass (got_here passes place c.take_lock.new.pass c.requires.within) in
    (a.0, now ∙ (a.1 ∙ ap (λ l. l ++ a.0) (sym was)), a.2)
