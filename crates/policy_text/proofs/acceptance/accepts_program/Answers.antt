use Rattle.policy_text.proofs.acceptance.accepts_program.Goals as goal

pub returns-in-Some : goal.returns-in-Some
returns-in-Some c = rw c.in-Some.is (rw (← c.as_slice.ensures.value) c.is_program.ensures)
