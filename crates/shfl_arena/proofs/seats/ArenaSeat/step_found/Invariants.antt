use Rattle.shfl_arena.proofs.seats.ArenaSeat.step_found.Given as goal

abbrev pub ghosts-operate : goal.ghosts-operate
ghosts-operate g a = record { terms = record { shape = a.shape; rules = a.rules; threads = a.shared.now.key.threads; lock = a.lock }; own = a.own; choice = a.choice }
