use Rattle.std.proofs.Common.{refl, subst}
use Rattle.shfl_policy.specs.Loading.{IsLoadError}
use Rattle.shfl_policy.proofs.LoadedPolicies.{not_loaded}
use Rattle.shfl_sched.proofs.rule.loaded.Goals as goal

pub returns-in-Err-Bad : goal.returns-in-Err-Bad
returns-in-Err-Bad c =
    let bad = subst (IsLoadError c.args.profile c.args.source.now) c.in-Err-Bad.field-0-is c.in-Err-Bad.ensures.bad in
    (not_loaded 0 c.args.profile c.args.source.now c.in-Err-Bad.field-0-0 c.in-Err-Bad.field-0-1 bad, refl)
