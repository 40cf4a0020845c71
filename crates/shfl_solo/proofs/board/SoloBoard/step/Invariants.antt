use Rattle.shfl_solo.proofs.board.SoloBoard.step.Given as goal

abbrev pub ghosts-operate : goal.ghosts-operate
ghosts-operate a = record { rules = a.rules; pass = a.pass; own = a.own; choice = a.choice }
