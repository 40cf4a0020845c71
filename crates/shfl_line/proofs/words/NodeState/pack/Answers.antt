use Rattle.std.proofs.Common.{rules}
use Rattle.shfl_line.proofs.words.NodeState.pack.Goals as goal

pub returns-clause-lawful : goal.returns-clause-lawful
returns-clause-lawful c few = record {
  ready = c.args.self.now.ready;
  shuffler = c.args.self.now.shuffler;
  parked = c.args.self.now.parked;
  spin = c.args.self.now.spin;
  batch = c.args.self.now.batch;
  few = few;
  is = search rules;
}
