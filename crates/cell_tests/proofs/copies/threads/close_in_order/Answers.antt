use Rattle.std.proofs.Common.{◌≡◌, arith}
use Rattle.rw_cell.proofs.OrderedPasses.{all_in_order}
use Rattle.cell_tests.proofs.copies.threads.close_in_order.Goals as goal

pub close-copies-requires-clause-all : goal.close-copies-requires-clause-all
close-copies-requires-clause-all c = all_in_order c.args.cell.count c.args.passes.items (let ok = c.args.passes.ok.0 in let a = c.requires.all in omega arith) c.requires.in_order
