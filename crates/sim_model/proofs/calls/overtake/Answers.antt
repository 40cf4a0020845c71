use Rattle.std.proofs.Common.{ap, ◌∙◌}
use Rattle.sim_model.specs.Calls.{nobody_served, overtaken}
use Rattle.sim_model.proofs.Mapped.{mapped-next}
use Rattle.sim_model.proofs.calls.overtake.Goals as goal

pub loop-pass-preserved : goal.loop-pass-preserved
loop-pass-preserved c = let f = overtaken c.args.call in
    c.put_served.ensures ∙ mapped-next f c.args.served.now c.loop-pass.served c.loop-pass.pass nobody_served c.overtaken-one.result c.loop-pass.invariant
    (c.overtaken-one.ensures ∙ ap f c.served_at.ensures)
