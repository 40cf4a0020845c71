use Rattle.std.proofs.Common.{sym, ◌∙◌}
use Rattle.policy_versions.proofs.Indexed.{fresh_closed}
use Rattle.program_tests.proofs.versions.opened.Goals as goal

pub returns-clause-passes : goal.returns-clause-passes
returns-clause-passes g c =
    let e = c.in-Ok.ensures in let ok = c.in-Ok.passes.ok.0 in
    fresh_closed c.in-Ok.registry _ _ e.passes (sym ok ∙ e.users)
