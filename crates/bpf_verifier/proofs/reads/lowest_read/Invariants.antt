use Rattle.std.proofs.Common.{◌≡◌, ◌≢◌, ◌<◌, ℕ, true}
use Rattle.bpf_isa.specs.Operands.{reads}
use Rattle.bpf_verifier.specs.Kinds.{kind_at}
use Rattle.bpf_verifier.proofs.reads.lowest_read.Given as goal

abbrev pub invariant-loop-reg : goal.invariant-loop-reg
invariant-loop-reg l = (lower : ℕ) → lower < l.reg → reads l.insn lower ≡ true → kind_at l.kinds lower ≢ l.kind
