-- What a run of the simulator is for the lock.
use Rattle.std.specs.Prelude.{ℕ, List}
use Rattle.shfl_line.specs.declared.words.Attr.{Attr}
use Rattle.shfl_core.specs.Lawful.{Lawful}
use Rattle.shfl_laws.specs.Moves.{MayOpen, terms}
use Rattle.sim_setup.specs.declared.setup.Setup.{Setup}
use Rattle.sim_model.specs.Runs.{Answers, ran, opening_state}

-- after so many turns from the opening on the lock is lawful, whatever the policy answers
abbrev pub RunsAreLawful : Type 0
RunsAreLawful = (s : Setup) (answers : Answers) (n : ℕ) (attrs : List Attr) → MayOpen s.rules attrs
    → Lawful (terms s.rules attrs) (ran s answers n (opening_state s attrs)).world
