use Rattle.bpf_verifier.proofs.SafeRuns.{runs_safely}
use Rattle.bpf_verifier.proofs.safety.accepted_runs_safely.Goals as goal

pub returns : goal.returns
returns c = runs_safely
