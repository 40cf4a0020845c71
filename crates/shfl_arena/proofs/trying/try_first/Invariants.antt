use Rattle.shfl_arena.specs.Waits.{TriedInVain}
use Rattle.shfl_arena.proofs.trying.try_first.Given as goal

abbrev pub invariant-loop-tried : goal.invariant-loop-tried
invariant-loop-tried g l = TriedInVain l.mode l.tried l.fn.seat l.seat
