-- Over every schedule without newcomers: how many of its moves lead on, and what is left in the end.
use Rattle.std.specs.Prelude.{◌≡◌, ℕ, ◌+◌, ◌≤◌, List, [], ◌∷◌, Bool, false, cond}
use Rattle.shfl_core.specs.declared.phase.Rules.{Rules}
use Rattle.shfl_core.specs.Plan.{is_resting}
use Rattle.shfl_core.specs.Worlds.{World, known, Move, Acquire, Release, Step, after_move, run}
use Rattle.shfl_core.specs.Lawful.{Terms, count, Lawful}
use Rattle.shfl_drain.specs.GoingOn.{goes_on}
use Rattle.shfl_drain.specs.Drain.{is_acquire, most_left, HasDrained}

-- nobody comes anew
abbrev pub NoNewcomer : List Move → Type 0
NoNewcomer [] = Unit {0}
NoNewcomer (m ∷ rest) = (is_acquire m ≡ false) × NoNewcomer rest

-- the move is a step of a pass that goes on, or a holder's that frees the lock
abbrev pub leads_on : World → Move → Bool
leads_on w (Acquire p mode) = false
leads_on w (Release p) = is_resting (known w.passes p)
leads_on w (Step p choice) = goes_on w p

-- how many moves of a schedule are such
abbrev pub moves_on : Rules → World → List Move → ℕ
moves_on t w [] = 0
moves_on t w (m ∷ rest) = cond (leads_on w m) 1 0 + moves_on t (after_move t w m) rest

-- in every schedule without newcomers, whatever the policies answer, so many moves lead on at most
abbrev pub FewMovesOn : Terms → Type 0
FewMovesOn t = (w : World) → Lawful t w → (moves : List Move) → NoNewcomer moves → moves_on t.rules w moves ≤ most_left (count t)

-- and after so many the lock has drained
abbrev pub DrainsByThem : Terms → Type 0
DrainsByThem t = (w : World) → Lawful t w → (moves : List Move) → NoNewcomer moves → most_left (count t) ≤ moves_on t.rules w moves → HasDrained t (run t.rules w moves)
