-- The context of a question to a policy: nine numbers of 32 bits and four zero bytes, all little endian.
use Rattle.std.specs.Prelude.{ℕ, List, ◌++◌}
use Rattle.std.specs.Int.{w32, to_le_bytes}
use Rattle.shfl_line.specs.declared.words.Attr.{Attr}

abbrev pub field : ℕ → List ℕ
field n = to_le_bytes w32 n

-- of each attribute the anchor's and then the waiter's; then the batch, and a field of zeros
abbrev pub context_of : Attr → Attr → ℕ → List ℕ
context_of anchor waiter batch =
    field anchor.socket ++ field waiter.socket ++ field anchor.prio ++ field waiter.prio
    ++ field anchor.class ++ field waiter.class ++ field anchor.kind ++ field waiter.kind
    ++ field batch ++ field 0
