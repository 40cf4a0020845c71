-- The laws of what is left of a round: own steps lower it, nobody else changes it, and a round is short.
use mathlib.Core.Option.{some}
use lib.ListN.{get_elem?}
use Rattle.std.specs.Prelude.{◌≡◌, ℕ, ◌+◌, ◌*◌, ◌<◌, ◌≤◌, List, [], ◌∷◌, length, Bool, true, false, cond, ◌==◌, ◌&&◌}
use Rattle.shfl_line.specs.declared.events.Mode.{Mode}
use Rattle.shfl_core.specs.declared.phase.Phase.TheVariants.{Begin, Idle}
use Rattle.shfl_core.specs.declared.phase.PassState.{PassState}
use Rattle.shfl_core.specs.declared.phase.Rules.{Rules}
use Rattle.shfl_core.specs.Words.{look, site}
use Rattle.shfl_core.specs.Plan.{is_awake, attempt_plan}
use Rattle.shfl_core.specs.Events.{attempt_event}
use Rattle.shfl_core.specs.Phases.{is_round}
use Rattle.shfl_core.specs.Worlds.{World, known, tried, Move, Acquire, Release, Step, after_move}
use Rattle.shfl_core.specs.ShownLine.{shown_line}
use Rattle.shfl_core.specs.Runner.{Lock, moved}
use Rattle.shfl_core.specs.Lawful.{Terms, count, Lawful, Advances}
use Rattle.shfl_laws.specs.Moves.{MayMove, EachMayMove, move_event}
use Rattle.shfl_laws.specs.RoundMeasure.{round_measure}

-- the pass is in a round of shuffling
abbrev pub in_round : World → ℕ → Bool
in_round w p = is_round (known w.passes p).phase

-- what is left of the round of p
abbrev pub left : (t : Terms) (w : World) → Lawful t w → ℕ → ℕ
left t w ok p = round_measure (count t) ok.shown p (known w.passes p)

-- the move is a step of p, and none of parking
abbrev pub is_own : World → ℕ → Move → Bool
is_own w p (Acquire r mode) = false
is_own w p (Release r) = false
is_own w p (Step r choice) = (r == p) && is_awake (known w.passes p).nap

-- an own step that stays in the round lowers what is left
abbrev pub OwnStepLowers : Terms → Type 0
OwnStepLowers t = (w : World) (ok : Lawful t w) (p : ℕ) (m : Move) (a : Advances t w ok (move_event t.rules w m) (after_move t.rules w m))
    → in_round w p ≡ true → is_own w p m ≡ true → in_round (after_move t.rules w m) p ≡ true
    → left t (after_move t.rules w m) a.lawful p < left t w ok p

-- any other move leaves the pass in its round, and what is left of it
abbrev pub OtherMoveKeeps : Terms → Type 0
OtherMoveKeeps t = (w : World) (ok : Lawful t w) (p : ℕ) (m : Move) (a : Advances t w ok (move_event t.rules w m) (after_move t.rules w m))
    → in_round w p ≡ true → is_own w p m ≡ false
    → (in_round (after_move t.rules w m) p ≡ true) × (left t (after_move t.rules w m) a.lawful p ≡ left t w ok p)

-- and so does an attempt of another pass
abbrev pub OtherAttemptKeeps : Terms → Type 0
OtherAttemptKeeps t = (w : World) (ok : Lawful t w) (p r : ℕ) (q : PassState) (mode : Mode)
    (a : Advances t w ok (attempt_event mode r (look w.words (site (attempt_plan mode)))) (tried w r q mode))
    → in_round w p ≡ true → get_elem? w.passes r ≡ some q → q.phase ≡ Idle
    → (in_round (tried w r q mode) p ≡ true) × (left t (tried w r q mode) a.lawful p ≡ left t w ok p)

-- where a round begins, so much is left at most
abbrev pub BeginBounds : Terms → Type 0
BeginBounds t = (w : World) (ok : Lawful t w) (p : ℕ) (m : Move) (a : Advances t w ok (move_event t.rules w m) (after_move t.rules w m))
    → (known w.passes p).phase ≡ Begin → is_own w p m ≡ true → in_round (after_move t.rules w m) p ≡ true
    → left t (after_move t.rules w m) a.lawful p ≤ 9 * count t + 2

-- the own steps of p in a schedule until its round ends
abbrev pub round_steps : Rules → World → ℕ → List Move → ℕ
round_steps t w p [] = 0
round_steps t w p (m ∷ rest) = cond (in_round w p) (cond (is_own w p m) 1 0 + round_steps t (after_move t w m) p rest) 0

-- a round takes at most so many own steps, with the one that begins it, whatever the others do in between
abbrev pub RoundIsShort : Terms → Type 0
RoundIsShort t = (w : World) (ok : Lawful t w) (p : ℕ) (m : Move) (moves : List Move)
    → MayMove t.rules.form m → EachMayMove t.rules.form moves → (known w.passes p).phase ≡ Begin → is_own w p m ≡ true
    → 1 + round_steps t.rules (after_move t.rules w m) p moves ≤ 9 * count t + 3

-- where p, awake, begins a round, the rest of it takes at most nine own steps for each pass and two more, whatever the
-- passes do in between
abbrev pub BeginsShortRound : Lock → ℕ → Lock → Type 0
BeginsShortRound old p new = (known old.world.passes p).phase ≡ Begin → is_awake (known old.world.passes p).nap ≡ true
    → (moves : List Move) → EachMayMove old.rules.form moves → round_steps old.rules new.world p moves ≤ 9 * length old.world.passes + 2

-- so it is of every step in a lawful lock with all its seats filled
abbrev pub StepBeginsShortRound : Terms → Type 0
StepBeginsShortRound t = (lock : Lock) (p : ℕ) (choice : Bool) → lock.rules ≡ t.rules → Lawful t lock.world → length lock.world.passes ≡ count t
    → BeginsShortRound lock p (moved lock (Step p choice))

-- what is left of the round of p in a lock with all its seats filled, by the line that the lock shows
abbrev pub round_left : World → ℕ → ℕ
round_left w p = round_measure (length w.passes) (shown_line w) p (known w.passes p)

-- what the move m, from one world to another, leaves of the round of p
pub record RoundGoesOn (old new : World) (m : Move) (p : ℕ) : Type 0 where
  -- an own step that stays in the round lowers what is left
  pub own : in_round old p ≡ true → is_own old p m ≡ true → in_round new p ≡ true → round_left new p < round_left old p
  -- any other move leaves the pass in its round, and what is left of it
  pub others : in_round old p ≡ true → is_own old p m ≡ false → (in_round new p ≡ true) × (round_left new p ≡ round_left old p)
  -- where the round begins, so much is left at most
  pub begins : (known old.passes p).phase ≡ Begin → is_own old p m ≡ true → in_round new p ≡ true → round_left new p ≤ 9 * length old.passes + 2

-- so it is of every move and the round of any pass, in a lock with all its seats filled
abbrev pub RoundsGoOn : Terms → Type 0
RoundsGoOn t = (w : World) (m : Move) (p : ℕ) → Lawful t w → length w.passes ≡ count t → MayMove t.rules.form m → RoundGoesOn w (after_move t.rules w m) m p
