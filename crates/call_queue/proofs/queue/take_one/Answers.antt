use Rattle.std.proofs.Common.{◌<◌, sym, subst}
use Rattle.crossbeam_queue.specs.Passes.{view}
use Rattle.call_queue.specs.Rule.{Takes}
use Rattle.call_queue.specs.declared.rule.Share.{Share}
use Rattle.call_queue.proofs.Moves.{pops}
use Rattle.call_queue.proofs.queue.take_one.Goals as goal

pub pop_as-requires-clause-rule : goal.pop_as-requires-clause-rule
pop_as-requires-clause-rule g c = (pops _ _ (subst (λ (h : Share _). 0 < h.parts) (sym c.loop.invariant.3) c.requires.1), λ items views h at. tt)

pub returns-in-Some-pop_as-clause-taken : goal.returns-in-Some-pop_as-clause-taken
returns-in-Some-pop_as-clause-taken g c = subst (λ v. Takes v c.in-Some-pop_as.ticket (view c.pop_as.new.pass)) c.loop.invariant.3 c.in-Some-pop_as.ensures.rule
