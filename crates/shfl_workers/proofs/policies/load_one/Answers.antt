use Rattle.std.proofs.Common.{subst}
use Rattle.shfl_policy.specs.Loading.{IsLoadError}
use Rattle.shfl_workers.proofs.Loading.{none_bad}
use Rattle.shfl_workers.proofs.policies.load_one.Goals as goal

pub unreachable-requires : goal.unreachable-requires
unreachable-requires c = none_bad c.args.profile c.args.declared.now.source _ _ c.requires
    (subst (IsLoadError c.args.profile c.args.declared.now.source) c.in-Err-Bad.field-0-is c.in-Err-Bad.ensures.bad)
