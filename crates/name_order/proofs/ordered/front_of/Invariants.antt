use Rattle.std.specs.Io.{StartsWith}
use Rattle.std.specs.List.{AllWithin}
use Rattle.name_order.proofs.ordered.front_of.Given as goal

abbrev pub invariant-loop-name : goal.invariant-loop-name
invariant-loop-name l = AllWithin (λ n. StartsWith n.now l.front) l.names 0 l.name-index
