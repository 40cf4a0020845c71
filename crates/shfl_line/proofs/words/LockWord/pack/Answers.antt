use Rattle.std.proofs.Common.{rules}
use Rattle.shfl_line.proofs.words.LockWord.pack.Goals as goal

pub returns-clause-lawful : goal.returns-clause-lawful
returns-clause-lawful c = record {
  held = c.args.self.now.held;
  closed = c.args.self.now.closed;
  readers = c.args.self.now.readers;
  few = search rules;
  is = search rules;
}
