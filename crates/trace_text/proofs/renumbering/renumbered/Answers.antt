use Rattle.trace_text.proofs.renumbering.renumbered.Goals as goal

pub returns-in-Dir-clause-named : goal.returns-in-Dir-clause-named
returns-in-Dir-clause-named c = λ names others a. record { worker = c.requires.worker; act = c.renumbered_call.ensures.admitted names others a }
