-- The lock's form allows each move of a run.
use Rattle.std.proofs.Common.{◌≡◌, ℕ, zero, suc, ◌&&◌, Bool, true, false, cond, List, [], ◌∷◌, ◌++◌, ap, Option, Some, None}
use Rattle.shfl_line.specs.declared.events.Mode.{Mode}
use Rattle.shfl_line.specs.declared.events.Mode.TheVariants.{Write, Read}
use Rattle.shfl_core.specs.Waiting.{MayUse}
use Rattle.shfl_core.specs.Worlds.{World, Move, Acquire, Release, Step as Advance}
use Rattle.sim_setup.specs.declared.setup.Setup.{Setup}
use Rattle.sim_setup.specs.Draws.{reads}
use Rattle.sim_model.specs.declared.bench.Bench.{Bench}
use Rattle.sim_model.specs.declared.turns.Entry.{Entry}
use Rattle.sim_model.specs.declared.turns.Turn.{Turn}
use Rattle.sim_model.specs.declared.turns.Turn.TheVariants.{Call, Step, Gain, Free}
use Rattle.sim_model.specs.Calls.{mode_drawn}
use Rattle.sim_model.specs.Runs.{Answers, State, call_move, and_step, after_turn, next_turn, turning, turn_moves, moves_of}
use Rattle.sim_model.specs.Tries.{in_vain}

-- in a form without readers nobody reads
pub writes : (s : Setup) (draw : ℕ) → MayUse s.rules.form (mode_drawn s draw)
unfolding mode_drawn
writes s draw e = ap (λ b. cond (b && reads s.work.reads draw) Read Write) e

-- what holds of no moves, and of one more than it holds of where the form allows that one, holds of the moves of a run
module _ (s : Setup) (answers : Answers) (Holds : List Move → Type 0) (none : Holds [])
    (calls : (p : ℕ) (mode : Mode) (ms : List Move) → MayUse s.rules.form mode → Holds ms → Holds (Acquire p mode ∷ ms))
    (frees : (p : ℕ) (ms : List Move) → Holds ms → Holds (Release p ∷ ms))
    (steps : (p : ℕ) (choice : Bool) (ms : List Move) → Holds ms → Holds (Advance p choice ∷ ms)) where
  turn-allowed : (w : World) (b : Bench) (p : ℕ) (turn : Turn) (ms : List Move) → Holds ms → Holds (turn_moves s answers w b p turn ++ ms)
  turn-allowed w b p (Call tried) ms h = elim (in_vain s w b p tried) as (λ v. Holds (cond v [] (and_step s answers w p (call_move s b p)) ++ ms)) [
    | true ↦ h
    | false ↦ calls p _ _ (writes s _) (steps p _ ms h)
  ]
  turn-allowed w b p Step ms h = steps p _ ms h
  turn-allowed w b p Free ms h = frees p _ (steps p _ ms h)
  turn-allowed w b p (Gain stolen) ms h = h

  goes-on : (n : ℕ) (st : State) (o : Option Entry) → ((next : State) → Holds (moves_of s answers n next))
      → Holds (turning o [] (λ e. turn_moves s answers st.world st.bench e.pass e.turn ++ moves_of s answers n (after_turn s answers st e)))
  goes-on n st None ih = none
  goes-on n st (Some e) ih = turn-allowed st.world st.bench e.pass e.turn (moves_of s answers n (after_turn s answers st e)) (ih (after_turn s answers st e))

  pub each-allowed : (n : ℕ) (st : State) → Holds (moves_of s answers n st)
  each-allowed zero st = none
  each-allowed (suc n) st = goes-on n st (next_turn s st.bench) (each-allowed n)
