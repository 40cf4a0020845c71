use Rattle.shfl_core.specs.Worlds.{Step}
use Rattle.shfl_world.proofs.Moving.{stays-lawful, admits-event, shows-event, keeps-terms}
use Rattle.shfl_world.proofs.board.WorldBoard.step.Goals as goal

pub invariant_of-self : goal.invariant_of-self
invariant_of-self g c = stays-lawful c.self.inside.plain c.args.self.now c.step.new.self (Step c.args.pass c.args.choice) c.self.invariant.lawful c.self.view_is tt c.step.ensures.after c.self.invariant.few

pub returns-clause-event : goal.returns-clause-event
returns-clause-event g c = admits-event c.self.inside.plain c.args.self.now c.step.new.self (Step c.args.pass c.args.choice) c.self.invariant.lawful c.self.view_is tt c.step.ensures.after

pub returns-clause-shown : goal.returns-clause-shown
returns-clause-shown g c = shows-event c.self.inside.plain c.args.self.now c.step.new.self (Step c.args.pass c.args.choice) c.self.invariant.lawful c.self.view_is tt c.step.ensures.after

pub returns-clause-terms : goal.returns-clause-terms
returns-clause-terms g c = keeps-terms c.self.inside.plain c.args.self.now c.step.new.self (Step c.args.pass c.args.choice) c.self.invariant.lawful c.self.view_is tt c.step.ensures.after
