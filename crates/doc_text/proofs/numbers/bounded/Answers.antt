use Rattle.std.proofs.Common.{sym}
use Rattle.doc_text.proofs.Counting.{over-at}
use Rattle.std.proofs.Common.{arith}
use Rattle.doc_text.proofs.numbers.bounded.Goals as goal

pub returns-in-None : goal.returns-in-None
returns-in-None c = sym (over-at c.args.most c.loop-b.value c.loop-b.b-index c.args.word.now (omega arith) c.loop-b.invariant.rest c.in-None.ensures)
