use Rattle.std.proofs.Common.{List, All, subst, sym}
use Rattle.policy_versions.specs.Models.{PassModel, IsClosed}
use Rattle.program_tests.proofs.versions.threads.versions_never_fall.Goals as goal

pub run_all-requires-clause-passes : goal.run_all-requires-clause-passes
run_all-requires-clause-passes g c _ =
    subst (λ (xs : List PassModel). All (IsClosed c.opened-registry.result.0) xs) (sym c.as_mut_slice.ensures.value) c.opened-registry.ensures.passes
