use Rattle.trace_text.proofs.OtherPlaces.{Renumbers}
use Rattle.trace_text.proofs.renumbering.renumber.Given as goal

abbrev pub invariant-loop-k : goal.invariant-loop-k
invariant-loop-k l = Renumbers l.workers l.policies l.places l.initial.calls.items l.k l.calls.items
