use Rattle.arena_tests.proofs.threads.+add_rising.Given as goal

abbrev pub decreases-add_rising : goal.decreases-add_rising
decreases-add_rising g l = l.depth
