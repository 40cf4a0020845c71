-- A lock over plain words that is lawful with all its passes, and what a move of it shows.
use Rattle.std.specs.Prelude.{◌≡◌, ℕ, ◌+◌, ◌*◌, ◌≤◌, List, true, length}
use Rattle.shfl_line.specs.declared.events.LineEvent.{LineEvent}
use Rattle.shfl_line.specs.Line.{Line, IsWellFormed}
use Rattle.shfl_line.specs.Steps.{Admits, after}
use Rattle.shfl_core.specs.declared.phase.Phase.TheVariants.{Begin}
use Rattle.shfl_core.specs.declared.words.Word.TheVariants.{Attr}
use Rattle.shfl_core.specs.Words.{look}
use Rattle.shfl_core.specs.Worlds.{Move, known}
use Rattle.shfl_core.specs.ShownLine.{each_below, shown_line}
use Rattle.shfl_core.specs.Lawful.{Terms, Lawful}
use Rattle.shfl_core.specs.Runner.{Lock, moved}
use Rattle.shfl_laws.specs.Moves.{MayMove, EachMayMove, move_event}
use Rattle.shfl_laws.specs.Rounds.{is_own, round_steps}
use Rattle.shfl_laws.specs.Headline.{Headline}
use Rattle.shfl_laws.specs.Shows.{ShowsPlainly}

-- what the lock's opening fixed: its rules, and the attribute word of each pass
abbrev pub terms_of : Lock → Terms
terms_of lock = record {
  rules = lock.rules;
  attrs = each_below (λ p. look lock.world.words (Attr p)) (length lock.world.passes);
}

-- the lock's words and passes agree with a line state, and every seat has its pass
abbrev pub IsLawfulLock : Lock → Type 0
IsLawfulLock lock = Lawful (terms_of lock) lock.world

-- at most 64 passes, as a document declares: so many are seen in one scan
abbrev pub HasFewPasses : Lock → Type 0
HasFewPasses lock = length lock.world.passes ≤ 64

-- what a lock keeps whose line state is shown between any two steps
pub record IsLawfulWorld (lock : Lock) : Type 0 where
  pub lawful : IsLawfulLock lock
  pub few : HasFewPasses lock

-- the line state that the lock shows
abbrev pub shown_by : Lock → Line
shown_by lock = shown_line lock.world

abbrev pub ShowsWellFormed : Lock → Type 0
ShowsWellFormed lock = IsWellFormed lock.rules.limit (shown_by lock)

-- the plain words hold, with the line and the detached waiter that the lock shows
abbrev pub ShowsHeadline : Lock → Type 0
ShowsHeadline lock = Headline lock.rules.limit lock.world (shown_by lock).line (shown_by lock).hand

-- the shown state is the world's, word for word: who holds and in which mode, the count of readers, the line and the
-- detached waiter, who shuffles, and each pass's batch number
abbrev pub ShowsItsWorld : Lock → Type 0
ShowsItsWorld lock = ShowsPlainly (length lock.world.passes) lock.world (shown_by lock)

-- what the line shows of a move: a step's own event, and nothing of any other move
abbrev pub line_event : Lock → Move → LineEvent
line_event lock m = move_event lock.rules lock.world m

-- a round that the move begins takes at most nine own steps of its pass for each pass, and three, whatever moves follow
abbrev pub RoundsAreShort : Lock → Type 0
RoundsAreShort lock = (p : ℕ) (m : Move) (rest : List Move) → MayMove lock.rules.form m → EachMayMove lock.rules.form rest
    → (known lock.world.passes p).phase ≡ Begin → is_own lock.world p m ≡ true
    → 1 + round_steps lock.rules (moved lock m).world p rest ≤ 9 * length lock.world.passes + 3

-- the move leads to a lawful lock, and the shown states are one admitted step of the line apart, the move's own
pub record MovesLawfully (lock : Lock) (m : Move) : Type 0 where
  pub lawful : IsLawfulLock (moved lock m)
  pub admitted : Admits lock.rules.limit (shown_by lock) (line_event lock m)
  pub shown : shown_by (moved lock m) ≡ after (shown_by lock) (line_event lock m)
  -- the rules and the attributes stay
  pub terms : terms_of (moved lock m) ≡ terms_of lock
