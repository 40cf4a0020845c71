use Rattle.std.proofs.Common.{◌≡◌, ◌<◌, ◌==◌, ℕ, false, get_or}
use Rattle.shfl_line.specs.declared.events.Mode.{Mode}
use Rattle.shfl_seats.proofs.held.mode_in.Given as goal

abbrev pub invariant-loop-entry : goal.invariant-loop-entry
invariant-loop-entry l = (k : ℕ) (d : ℕ × Mode) → k < l.entry-index → ((get_or l.others k d).0 == l.lock) ≡ false
