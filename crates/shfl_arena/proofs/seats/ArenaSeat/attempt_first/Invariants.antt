use Rattle.shfl_arena.proofs.seats.ArenaSeat.attempt_first.Given as goal

abbrev pub ghosts-attempt_once : goal.ghosts-attempt_once
ghosts-attempt_once g a = record { goal = record { shape = a.shape; rules = a.rules; threads = a.shared.now.key.threads; lock = a.lock }; number = a.seat.now.me.0.number; wants = a.mode }
