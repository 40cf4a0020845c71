use Rattle.std.proofs.Common.{◌≡◌, ℕ, length}
use Rattle.bpf_verifier.specs.Pass.{state_at}
use Rattle.bpf_verifier.proofs.Summary.{IsState}
use Rattle.bpf_verifier.proofs.Arriving.{ArrivesFromBelow}
use Rattle.bpf_verifier.proofs.Forward.{NoneBelow}
use Rattle.bpf_verifier.proofs.pass.first_fault.Given as goal

abbrev pub invariant-loop-slot : goal.invariant-loop-slot
invariant-loop-slot l = record {
  long : length l.states ≡ length l.insns;
  states : (to : ℕ) → IsState (ArrivesFromBelow l.insns l.slot to) (state_at l.states to);
  none_below : NoneBelow l.insns l.slot;
}
