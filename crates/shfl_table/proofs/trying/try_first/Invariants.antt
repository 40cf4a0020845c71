use Rattle.shfl_table.specs.Waits.{TriedInVain}
use Rattle.shfl_table.proofs.trying.try_first.Given as goal

abbrev pub invariant-loop-tried : goal.invariant-loop-tried
invariant-loop-tried g l = TriedInVain l.tried l.fn.pass l.pass
