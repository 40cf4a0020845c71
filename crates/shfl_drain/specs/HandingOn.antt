-- Whoever is in a round of shuffling hands the shuffler's flag on.
use Rattle.std.specs.Prelude.{◌≡◌, ◌⊎◌, ℕ, ◌+◌, ◌*◌, ◌<◌, ◌≤◌, List, [], ◌∷◌, Bool, true, false, cond, ◌==◌, ◌||◌}
use Rattle.shfl_line.specs.declared.events.LineEvent.{LineEvent}
use Rattle.shfl_line.specs.declared.events.LineEvent.TheVariants.{Begin as BeginEvent, Rest as RestEvent, Give as GiveEvent}
use Rattle.shfl_core.specs.declared.phase.Phase.TheVariants.{Begin, Give}
use Rattle.shfl_core.specs.Plan.{is_awake, round_batch}
use Rattle.shfl_core.specs.Worlds.{World, known, Step, after_move}
use Rattle.shfl_core.specs.Lawful.{Terms, count, Lawful, Advances}
use Rattle.shfl_laws.specs.Moves.{move_event}
use Rattle.shfl_laws.specs.Headline.{HasFlag}
use Rattle.shfl_laws.specs.Rounds.{in_round, left}
use Rattle.shfl_laws.specs.Changes.{Change, Moves, after_change, change_event, shown_events, EachMayChange}

-- the change is a step of p, of its phase or of parking
abbrev pub is_step_of : ℕ → Change → Bool
is_step_of p (Moves (Step q choice)) = q == p
is_step_of p _ = false

-- how many of these changes are
abbrev pub steps_of : ℕ → List Change → ℕ
steps_of p [] = 0
steps_of p (c ∷ rest) = cond (is_step_of p c) 1 0 + steps_of p rest

-- by one of these events p hands the flag on
abbrev pub hands_on : ℕ → List LineEvent → Bool
hands_on p [] = false
hands_on p (GiveEvent q ∷ rest) = (q == p) || hands_on p rest
hands_on p (_ ∷ rest) = hands_on p rest

-- so many steps p still makes in its round at most: for all that is left of it one of its phase and one that wakes another,
-- and one more where it is about to wake one
abbrev pub steps_left : (t : Terms) (w : World) → Lawful t w → ℕ → ℕ
steps_left t w ok p = 2 * left t w ok p + cond (is_awake (known w.passes p).nap) 0 1

-- so many they are at most, among n passes
abbrev pub most_steps : ℕ → ℕ
most_steps n = 18 * n + 3

-- by its step p hands on: it stood at Give, the line shows so, its round is over, and the batch's last has the flag
pub record HandsOn (t : Terms) (w : World) (p : ℕ) (choice : Bool) : Type 0 where
  pub gives : (known w.passes p).phase ≡ Give
  pub shown : move_event t.rules w (Step p choice) ≡ GiveEvent p
  pub over : in_round (after_move t.rules w (Step p choice)) p ≡ false
  pub flag : HasFlag (after_move t.rules w (Step p choice)) (known w.passes p).reg.last

-- how each round goes on, whatever the policies answer
pub record HandingOn (t : Terms) : Type 0 where
  pub bounded : (w : World) (ok : Lawful t w) (p : ℕ) → in_round w p ≡ true → steps_left t w ok p ≤ most_steps (count t)
  -- by a step p hands on, or stays in its round with fewer steps left
  pub own : (w : World) (ok : Lawful t w) (p : ℕ) (choice : Bool) (a : Advances t w ok (move_event t.rules w (Step p choice)) (after_move t.rules w (Step p choice)))
      → in_round w p ≡ true
      → HandsOn t w p choice ⊎ ((in_round (after_move t.rules w (Step p choice)) p ≡ true) × (steps_left t (after_move t.rules w (Step p choice)) a.lawful p < steps_left t w ok p))
  -- any other change leaves it in its round, with as many
  pub others : (w : World) (ok : Lawful t w) (p : ℕ) (c : Change) (a : Advances t w ok (change_event t.rules w c) (after_change t.rules w c))
      → in_round w p ≡ true → is_step_of p c ≡ false
      → (in_round (after_change t.rules w c) p ≡ true) × (steps_left t (after_change t.rules w c) a.lawful p ≡ steps_left t w ok p)

-- whoever is in a round hands on before it has made so many steps more, whatever the others do in between
abbrev pub AlwaysHandsOn : Terms → Type 0
AlwaysHandsOn t = (w : World) → Lawful t w → (p : ℕ) (changes : List Change) → EachMayChange t.rules.form changes
    → in_round w p ≡ true → most_steps (count t) ≤ steps_of p changes → hands_on p (shown_events t.rules w changes) ≡ true

-- the step of p at Begin: its round begins, or the batch is full, and then nobody has the flag
pub data BeginsOrRests (t : Terms) (w : World) (p : ℕ) (choice : Bool) : Type 0 where
  Begins : move_event t.rules w (Step p choice) ≡ BeginEvent p → in_round (after_move t.rules w (Step p choice)) p ≡ true → BeginsOrRests t w p choice
  Rests : move_event t.rules w (Step p choice) ≡ RestEvent p → t.rules.limit ≤ round_batch (known w.passes p).reg
      → ((q : ℕ) → ¬ (HasFlag (after_move t.rules w (Step p choice)) q)) → BeginsOrRests t w p choice

-- so it is of every such step
abbrev pub EachBeginsOrRests : Terms → Type 0
EachBeginsOrRests t = (w : World) → Lawful t w → (p : ℕ) (choice : Bool) → (known w.passes p).phase ≡ Begin → BeginsOrRests t w p choice
