-- What holds of every run of threads since the opening of a lock.
use Rattle.std.specs.Prelude.{◌≡◌, List, map}
use Rattle.shfl_line.specs.declared.words.Attr.{Attr}
use Rattle.shfl_line.specs.Line.{Line, IsWellFormed}
use Rattle.shfl_core.specs.declared.phase.Rules.{Rules}
use Rattle.shfl_core.specs.Worlds.{World, Move, run}
use Rattle.shfl_core.specs.Lawful.{Lawful}
use Rattle.shfl_laws.specs.Headline.{Headline}
use Rattle.shfl_laws.specs.Moves.{MayOpen, EachMayMove, terms}
use Rattle.shfl_laws.specs.Changes.{Change, Moves, after_changes, EachMayChange}
use Rattle.shfl_laws.specs.Runs.{IsRun}

-- the world of a run of threads is lawful, and the plain words hold of it
pub record RunsAreSafe (rules : Rules) (attrs : List Attr) : Type 0 where
  pub lawful : (changes : List Change) (w : World) → MayOpen rules attrs → IsRun rules attrs changes w → Lawful (terms rules attrs) w
  pub headline : (changes : List Change) (w : World) → MayOpen rules attrs → IsRun rules attrs changes w
      → (s : Line) × IsWellFormed rules.limit s × Headline rules.limit w s.line s.hand

-- moves alone are a schedule: from any world they lead where its run leads
pub record MovesAreSchedules (rules : Rules) : Type 0 where
  pub leads : (w : World) (moves : List Move) → after_changes rules w (map Moves moves) ≡ run rules w moves
  pub may : (moves : List Move) → EachMayMove rules.form moves → EachMayChange rules.form (map Moves moves)
