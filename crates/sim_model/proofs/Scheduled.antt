-- The run is that of one schedule: the lock after the turns is the lock after their moves.
use Rattle.std.proofs.Common.{◌≡◌, ℕ, zero, suc, List, [], ◌∷◌, ◌++◌, refl, sym, ◌∙◌, Option, Some, None}
use Rattle.shfl_core.specs.declared.phase.Rules.{Rules}
use Rattle.shfl_core.specs.Worlds.{World, Move, after_move, run}
use Rattle.sim_setup.specs.declared.setup.Setup.{Setup}
use Rattle.sim_model.specs.declared.turns.Entry.{Entry}
use Rattle.sim_model.specs.Runs.{Answers, State, ran, moves_of, next_turn, turning, turn_moves, after_turn}
use Rattle.sim_model.specs.Laws.{RunsAreSchedules}

pub run-append : (t : Rules) (w : World) (xs ys : List Move) → run t w (xs ++ ys) ≡ run t (run t w xs) ys
run-append t w [] ys = refl
run-append t w (m ∷ xs) ys = run-append t (after_move t w m) xs ys

module _ (s : Setup) (answers : Answers) where
  further : (n : ℕ) (st : State) (o : Option Entry) → ((next : State) → (ran s answers n next).world ≡ run s.rules next.world (moves_of s answers n next))
      → (turning o st (λ e. ran s answers n (after_turn s answers st e))).world
      ≡ run s.rules st.world (turning o [] (λ e. turn_moves s answers st.world st.bench e.pass e.turn ++ moves_of s answers n (after_turn s answers st e)))
  further n st None ih = refl
  further n st (Some e) ih = ih (after_turn s answers st e)
      ∙ sym (run-append s.rules st.world (turn_moves s answers st.world st.bench e.pass e.turn) (moves_of s answers n (after_turn s answers st e)))

  world-is : (n : ℕ) (st : State) → (ran s answers n st).world ≡ run s.rules st.world (moves_of s answers n st)
  world-is zero st = refl
  world-is (suc n) st = further n st (next_turn s st.bench) (world-is n)

pub runs-are-schedules : RunsAreSchedules
runs-are-schedules s answers n st = world-is s answers n st
