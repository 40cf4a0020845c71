use Rattle.std.proofs.Common.{◌≡◌, arith, ◌∙◌, sym}
use Rattle.shfl_cell.proofs.EachPass.{all_in_order}
use Rattle.cell_tests.proofs.cell.threads.close_in_order.Goals as goal

pub close-requires-clause-all : goal.close-requires-clause-all
close-requires-clause-all c = all_in_order c.args.cell.count c.args.passes.items (let ok = c.args.passes.ok.0 in let a = c.requires.all in omega arith) c.requires.in_order
