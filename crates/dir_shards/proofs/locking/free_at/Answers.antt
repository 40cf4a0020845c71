use Rattle.std.proofs.Common.{ap, set, slice_index_or}
use Rattle.std.proofs.lemmas.Option.{slice_get-get_or}
use Rattle.dir_shards.proofs.LockPasses.{board_at}
use Rattle.dir_shards.proofs.locking.free_at.Goals as goal

pub free_lock-requires-clause-board : goal.free_lock-requires-clause-board
free_lock-requires-clause-board c = board_at c.args.passes.now c.args.boards.now c.args.place c.index-passes-place.result c.index-boards-place.result c.requires.within c.requires.locks c.index-boards-place.is

pub free_lock-requires-clause-out : goal.free_lock-requires-clause-out
free_lock-requires-clause-out c = (c.requires.out _ (slice_get-get_or c.args.passes.now c.args.place c.index-passes-place.result c.requires.within)).0

pub free_lock-requires-clause-kept : goal.free_lock-requires-clause-kept
free_lock-requires-clause-kept c = (c.requires.out _ (slice_get-get_or c.args.passes.now c.args.place c.index-passes-place.result c.requires.within)).1

pub returns : goal.returns
returns c = record {
  before = slice_index_or c.args.passes.now c.args.place c.index-passes-place.result;
  was = slice_get-get_or c.args.passes.now c.args.place c.index-passes-place.result c.requires.within;
  word = c.free_lock.ensures.0;
  others = ap (set c.args.passes.now c.args.place) c.free_lock.ensures.1;
}
