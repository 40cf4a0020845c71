use Rattle.std.proofs.Common.{◌≡◌, ℕ, ◌<◌, map, length}
use Rattle.trace_text.specs.Generator.{name_of}
use Rattle.name_order.specs.Names.{name_at}
use Rattle.trace_text.proofs.generator.name_table.Given as goal

-- the names so far, by their numbers
abbrev pub invariant-loop-number : goal.invariant-loop-number
invariant-loop-number l = record {
  as_many : length l.table.items ≡ l.number;
  names : (k : ℕ) → k < l.number → name_at (map (λ n. n.items) l.table.items) k ≡ name_of k;
}
