use Rattle.std.proofs.Common.{ap, ◌∙◌}
use Rattle.sim_model.specs.declared.turns.Stand.TheVariants.{Sleeps}
use Rattle.sim_model.specs.Turns.{woken}
use Rattle.sim_model.proofs.Mapped.{mapped-next}
use Rattle.sim_model.proofs.turns.wake_line.Goals as goal

pub loop-pass-preserved : goal.loop-pass-preserved
loop-pass-preserved c = let f = woken c.args.line c.args.ends in
    c.put_stand.ensures ∙ mapped-next f c.args.stands.now c.loop-pass.stands c.loop-pass.pass (Sleeps 0) c.woken-stand.result c.loop-pass.invariant
    (c.woken-stand.ensures ∙ ap f c.stand_at.ensures)
