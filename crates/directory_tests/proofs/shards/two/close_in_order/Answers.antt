use Rattle.std.proofs.Common.{length, arith}
use Rattle.dir_shards.proofs.LockEnds.{all_in_order}
use Rattle.directory_tests.proofs.shards.two.close_in_order.Goals as goal

pub close-requires-clause-all : goal.close-requires-clause-all
close-requires-clause-all c = all_in_order (length c.args.dir.allowed) c.args.passes.items (let ok = c.args.passes.ok.0 in let a = c.requires.all in omega arith) c.requires.in_order
