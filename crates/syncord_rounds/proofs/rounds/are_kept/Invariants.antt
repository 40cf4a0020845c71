use Rattle.std.proofs.Common.{IsSome, drop}
use Rattle.std.specs.List.{AllByRecursion}
use Rattle.syncord_rounds.proofs.rounds.are_kept.Given as goal

abbrev pub invariant-loop-log : goal.invariant-loop-log
invariant-loop-log l = AllByRecursion IsSome (drop l.log-index l.logs) → AllByRecursion IsSome l.logs
