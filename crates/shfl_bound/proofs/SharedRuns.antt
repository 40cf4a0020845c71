-- A run of threads keeps the lock safe, and moves alone are a schedule.
use Rattle.std.proofs.Common.{◌≡◌, List, [], ◌∷◌, map, refl, subst}
use Rattle.shfl_line.specs.declared.words.Attr.{Attr}
use Rattle.shfl_core.specs.declared.phase.Rules.{Rules}
use Rattle.shfl_core.specs.View.{view}
use Rattle.shfl_core.specs.Worlds.{World, Move, after_move, run}
use Rattle.shfl_core.specs.Lawful.{Lawful}
use Rattle.shfl_laws.specs.Moves.{MayOpen, EachMayMove, terms, first_seated}
use Rattle.shfl_laws.proofs.laws.Opens.{first-seat-law}
use Rattle.shfl_laws.proofs.plain.Headline.{headline}
use Rattle.shfl_laws.proofs.shown.WellFormed.{agrees-well-formed}
use Rattle.shfl_laws.specs.Changes.{Change, Moves, after_changes, EachMayChange}
use Rattle.shfl_laws.specs.Runs.{IsRun}
use Rattle.shfl_bound.specs.Runs.{RunsAreSafe, MovesAreSchedules}
use Rattle.shfl_bound.proofs.Bound.{history-lawful}

pub runs-are-safe : (rules : Rules) (attrs : List Attr) → RunsAreSafe rules attrs
runs-are-safe rules attrs = record {
  lawful = ok;
  headline = λ changes w may r. let l = ok changes w may r in (l.shown, agrees-well-formed (terms rules attrs) (view w) l.shown l.giver l.of_passes l.agrees, headline (terms rules attrs) w l);
}
  where
    ok : (changes : List Change) (w : World) → MayOpen rules attrs → IsRun rules attrs changes w → Lawful (terms rules attrs) w
    ok changes w may r = subst (Lawful (terms rules attrs)) r.made (history-lawful (terms rules attrs) changes (first_seated attrs) (first-seat-law rules attrs may).lawful r.may)

pub moves-are-schedules : (rules : Rules) → MovesAreSchedules rules
moves-are-schedules rules = record { leads = leads; may = may }
  where
    leads : (w : World) (moves : List Move) → after_changes rules w (map Moves moves) ≡ run rules w moves
    leads w [] = refl
    leads w (m ∷ rest) = leads (after_move rules w m) rest

    may : (moves : List Move) → EachMayMove rules.form moves → EachMayChange rules.form (map Moves moves)
    may [] e = tt
    may (m ∷ rest) e = (e.0, may rest e.1)
