-- The words of a lock with its passes: the opening, the moves, and the runs.
use Rattle.std.specs.Prelude.{ℕ, suc, List, [], ◌∷◌, ◌++◌, Bool, cond, replicate, slice_index_or, slice_set}
use Rattle.shfl_line.specs.declared.events.Mode.{Mode}
use Rattle.shfl_line.specs.declared.words.Attr.{Attr}
use Rattle.shfl_line.specs.Words.{attr_word}
use Rattle.shfl_core.specs.declared.phase.PassState.{PassState}
use Rattle.shfl_core.specs.declared.phase.Rules.{Rules}
use Rattle.shfl_core.specs.declared.words.Access.{Access}
use Rattle.shfl_core.specs.Words.{look, index, site, put}
use Rattle.shfl_core.specs.Plan.{plan, moving, is_idle, is_resting, attempt_plan}
use Rattle.shfl_core.specs.Take.{take, acquired, released, attempted}
use Rattle.shfl_core.specs.Waiting.{idle}

pub record World : Type 0 where
  pub words : List ℕ
  pub passes : List PassState

-- where a pass stands; one that isn't there is idle
abbrev pub known : List PassState → ℕ → PassState
known passes p = slice_index_or passes p (idle p)

-- the ten words of a pass at the opening: its next, state, attribute and wakeup word, and six to spare
abbrev pub node : ℕ → List ℕ
node attr = 0 ∷ 0 ∷ attr ∷ 0 ∷ replicate 6 0

abbrev pub node_words : List Attr → List ℕ
node_words [] = []
node_words (a ∷ rest) = node (attr_word a) ++ node_words rest

-- the lock word and the tail word, each with nine to spare, and then the passes' words
abbrev pub opening_words : List Attr → List ℕ
opening_words attrs = replicate 20 0 ++ node_words attrs

-- the passes from p on, idle
abbrev pub idle_from : ℕ → List Attr → List PassState
idle_from p [] = []
idle_from p (a ∷ rest) = idle p ∷ idle_from (suc p) rest

-- a lock with a pass for each of these attributes, at its opening
abbrev pub opening : List Attr → World
opening attrs = record { words = opening_words attrs; passes = idle_from 0 attrs }

-- the operation happens, and the pass p stands at q
abbrev pub after_access : World → ℕ → Access → PassState → World
after_access w p a q = record {
  words = slice_set w.words (index (site a)) (put a (look w.words (site a)));
  passes = slice_set w.passes p q;
}

-- the step of the pass p, which stands at q
abbrev pub stepped : Rules → World → ℕ → PassState → Bool → World
stepped t w p q choice = after_access w p (plan t p q) (take t p q (look w.words (site (plan t p q))) choice)

-- the pass p stands at q, and no word changes
abbrev pub placed_at : World → ℕ → PassState → World
placed_at w p q = record { words = w.words; passes = slice_set w.passes p q }

-- the one operation of an attempt of the pass p, which stands at q
abbrev pub tried : World → ℕ → PassState → Mode → World
tried w p q mode = after_access w p (attempt_plan mode) (attempted mode q.reg (look w.words (site (attempt_plan mode))))

-- what a schedule says
pub data Move : Type 0 where
  Acquire : ℕ → Mode → Move
  Release : ℕ → Move
  Step : ℕ → Bool → Move

-- the pass admits the move where it stands
abbrev pub admitted : World → Move → Bool
admitted w (Acquire p mode) = is_idle (known w.passes p).phase
admitted w (Release p) = is_resting (known w.passes p)
admitted w (Step p choice) = moving (known w.passes p)

abbrev pub made : Rules → World → Move → World
made t w (Acquire p mode) = placed_at w p (acquired mode (known w.passes p))
made t w (Release p) = placed_at w p (released (known w.passes p))
made t w (Step p choice) = stepped t w p (known w.passes p) choice

-- the world after a move; one that isn't admitted changes nothing
abbrev pub after_move : Rules → World → Move → World
after_move t w m = cond (admitted w m) (made t w m) w

-- the world after the moves of a schedule, in their order
abbrev pub run : Rules → World → List Move → World
run t w [] = w
run t w (m ∷ rest) = run t (after_move t w m) rest
