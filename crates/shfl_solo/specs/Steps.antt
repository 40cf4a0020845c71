-- What a step of the board is, beyond the move of the model: its row with the word found, and a round that is short.
use Rattle.std.specs.Prelude.{◌≡◌, ℕ, ◌+◌, ◌*◌, ◌≤◌, List, Bool, true, length, slice_set}
use Rattle.shfl_core.specs.declared.phase.Phase.TheVariants.{Begin}
use Rattle.shfl_core.specs.declared.phase.PassState.{PassState}
use Rattle.shfl_core.specs.declared.words.Access.{Access}
use Rattle.shfl_core.specs.Words.{look, site, written}
use Rattle.shfl_core.specs.Plan.{plan, is_awake}
use Rattle.shfl_core.specs.Take.{take}
use Rattle.shfl_core.specs.Worlds.{Move, known}
use Rattle.shfl_core.specs.Runner.{Lock}
use Rattle.shfl_laws.specs.Moves.{EachMayMove}
use Rattle.shfl_laws.specs.Rounds.{round_steps}

-- where the pass p stands
abbrev pub standing : Lock → ℕ → PassState
standing lock p = known lock.world.passes p

-- the operation that the pass p has planned, and the word that it finds
abbrev pub planned : Lock → ℕ → Access
planned lock p = plan lock.rules p (standing lock p)

abbrev pub found : Lock → ℕ → ℕ
found lock p = look lock.world.words (site (planned lock p))

-- one step of p: its operation changes one word, and p goes on by the number that stood there
pub record MakesRow (old : Lock) (p : ℕ) (choice : Bool) (new : Lock) : Type 0 where
  pub rules : new.rules ≡ old.rules
  pub words : new.world.words ≡ written old.world.words (planned old p)
  pub passes : new.world.passes ≡ slice_set old.world.passes p (take old.rules p (standing old p) (found old p) choice)

-- where p, awake, begins a round, the rest of it takes at most nine own steps for each pass and two more, whatever the
-- passes do in between
abbrev pub BeginsShortRound : Lock → ℕ → Lock → Type 0
BeginsShortRound old p new = (standing old p).phase ≡ Begin → is_awake (standing old p).nap ≡ true
    → (moves : List Move) → EachMayMove old.rules.form moves
    → round_steps old.rules new.world p moves ≤ 9 * length old.world.passes + 2
