use Rattle.shfl_core.specs.View.{view}
use Rattle.shfl_core.specs.Worlds.{opening, run}
use Rattle.shfl_core.specs.Lawful.{Lawful}
use Rattle.shfl_laws.specs.Moves.{terms}
use Rattle.shfl_laws.proofs.plain.Headline.{headline}
use Rattle.shfl_laws.proofs.laws.Laws.{laws}
use Rattle.shfl_laws.proofs.laws.MoveLaws.{run-law}
use Rattle.shfl_laws.proofs.shown.WellFormed.{agrees-well-formed}
use Rattle.shfl_laws.proofs.safety.every_run_is_safe.Goals as goal

pub returns : goal.returns
returns c = record {
  headline = λ rules attrs moves may each. let ok : Lawful (terms rules attrs) (run rules (opening attrs) moves) = run-law laws rules attrs moves may each in
      (ok.shown, agrees-well-formed (terms rules attrs) (view (run rules (opening attrs) moves)) ok.shown ok.giver ok.of_passes ok.agrees, headline (terms rules attrs) (run rules (opening attrs) moves) ok);
}
