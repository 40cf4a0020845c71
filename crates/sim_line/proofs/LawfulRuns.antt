-- Every state of a run is a lawful lock.
use Rattle.std.proofs.Common.{sym, subst}
use Rattle.shfl_core.specs.Lawful.{Lawful}
use Rattle.shfl_laws.specs.Moves.{EachMayMove, terms}
use Rattle.shfl_laws.proofs.laws.Laws.{laws}
use Rattle.shfl_laws.proofs.laws.MoveLaws.{run-law}
use Rattle.sim_line.specs.Laws.{RunsAreLawful}
use Rattle.sim_model.specs.Runs.{moves_of, opening_state}
use Rattle.sim_model.proofs.Allowed.{each-allowed}
use Rattle.sim_model.proofs.Scheduled.{runs-are-schedules}

pub runs-are-lawful : RunsAreLawful
runs-are-lawful s answers n attrs may = subst (Lawful (terms s.rules attrs)) (sym (runs-are-schedules s answers n (opening_state s attrs)))
    (run-law laws s.rules attrs (moves_of s answers n (opening_state s attrs)) may
    (each-allowed s answers (EachMayMove s.rules.form) tt (λ p mode ms m rest. (m, rest)) (λ p ms rest. (tt, rest)) (λ p choice ms rest. (tt, rest)) n (opening_state s attrs)))
