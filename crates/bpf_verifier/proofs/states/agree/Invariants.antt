use Rattle.std.proofs.Common.{◌≡◌, ◌≤◌, ◌<◌, ℕ, length}
use Rattle.bpf_verifier.specs.Kinds.{kind_at}
use Rattle.bpf_verifier.specs.Pass.{meet}
use Rattle.bpf_verifier.proofs.states.agree.Given as goal

abbrev pub invariant-loop-reg : goal.invariant-loop-reg
invariant-loop-reg l = record {
  long : length l.old ≡ 10;
  done : (k : ℕ) → k < l.reg → kind_at l.old k ≡ meet (kind_at l.fn.old k) (kind_at l.new k);
  ahead : (k : ℕ) → l.reg ≤ k → kind_at l.old k ≡ kind_at l.fn.old k;
}
