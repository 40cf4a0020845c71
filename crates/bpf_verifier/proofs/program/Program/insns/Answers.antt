use Rattle.std.proofs.Common.{subst}
use Rattle.bpf_verifier.specs.Safety.{RunsSafely}
use Rattle.bpf_verifier.proofs.SafeRuns.{runs_safely}
use Rattle.bpf_verifier.proofs.program.Program.insns.Goals as goal

pub returns-clause-safe : goal.returns-clause-safe
returns-clause-safe c = subst RunsSafely c.self.view_is (runs_safely c.self.inside.insns.items c.self.invariant.well_formed c.self.invariant.accepted)
