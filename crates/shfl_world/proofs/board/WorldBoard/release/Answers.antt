use Rattle.shfl_core.specs.Worlds.{Release}
use Rattle.shfl_world.proofs.Moving.{stays-lawful, shows-event, keeps-terms}
use Rattle.shfl_world.proofs.board.WorldBoard.release.Goals as goal

pub invariant_of-self : goal.invariant_of-self
invariant_of-self g c = stays-lawful c.self.inside.plain c.args.self.now c.release.new.self (Release c.args.pass) c.self.invariant.lawful c.self.view_is tt c.release.ensures.after c.self.invariant.few

pub returns-clause-shown : goal.returns-clause-shown
returns-clause-shown g c = shows-event c.self.inside.plain c.args.self.now c.release.new.self (Release c.args.pass) c.self.invariant.lawful c.self.view_is tt c.release.ensures.after

pub returns-clause-terms : goal.returns-clause-terms
returns-clause-terms g c = keeps-terms c.self.inside.plain c.args.self.now c.release.new.self (Release c.args.pass) c.self.invariant.lawful c.self.view_is tt c.release.ensures.after
