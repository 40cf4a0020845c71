use Rattle.std.proofs.Common.{sym, ◌∙◌}
use Rattle.policy_versions.proofs.Indexed.{fresh_closed, closed_last}
use Rattle.worker_tests.proofs.choosers.opened.Goals as goal

pub returns-clause-pass : goal.returns-clause-pass
returns-clause-pass g c =
    let e = c.in-Ok.ensures in let ok = c.in-Ok.passes.ok.0 in
    closed_last c.in-Ok.registry _ _ c.in-Some.pass (fresh_closed c.in-Ok.registry _ _ e.passes (sym ok ∙ e.users)) c.in-Some.ensures.items
