use Rattle.std.proofs.Common.{[], refl, sym, append-nil}
use Rattle.shfl_table.specs.Outcomes.{waits_at_head}
use Rattle.shfl_table.proofs.HeadDisables.{disables-or-stays}
use Rattle.shfl_table.proofs.waiting.keep_disabled.Goals as goal

pub returns-then-matches-clause-disabled : goal.returns-then-matches-clause-disabled
returns-then-matches-clause-disabled g c = let p = c.args.pass.now in let e = c.disable_stealing.ensures in
    disables-or-stays p c.disable_stealing.new.self (waits_at_head p.own) refl (λ h. (e.refused h).1) (λ h. let m = e.made h in (m.0, m.3))

pub returns-else-matches-clause-disabled : goal.returns-else-matches-clause-disabled
returns-else-matches-clause-disabled g c = (c.args.pass.now.steps_taken, [], λ j. record c.args.pass.now { found = sym (append-nil c.args.pass.now.found) j })
