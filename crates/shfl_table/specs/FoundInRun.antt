-- The word that a step finds is the one that the run of the lock has there.
use Rattle.std.specs.Prelude.{◌≡◌, ℕ, List, map}
use Rattle.shfl_line.specs.declared.words.Attr.{Attr}
use Rattle.shfl_line.specs.Words.{attr_word}
use Rattle.shfl_core.specs.declared.phase.PassState.{PassState}
use Rattle.shfl_core.specs.declared.phase.Rules.{Rules}
use Rattle.shfl_core.specs.declared.words.Access.{Access}
use Rattle.shfl_core.specs.Words.{look, site, told}
use Rattle.shfl_core.specs.Worlds.{World, known}
use Rattle.shfl_laws.specs.Moves.{first_seated}
use Rattle.shfl_table.specs.declared.kept.Action.{Action}
use Rattle.shfl_table.specs.declared.view.Part.{Part}
use Rattle.shfl_table.specs.Histories.{HasSeen}
use Rattle.shfl_table.specs.MadeInHolds.{RunEvent, changes_of, RunMakes}
use Rattle.shfl_table.specs.ThreadRuns.{did_in, IsTold}

-- a run of the lock that opened with these attribute words leads to this world, and in it a pass did what it tells, and saw what it
-- saw of the history
pub record RunsTo (rules : Rules) (attr_words : List ℕ) (part : Part) (seen : List Action) (w : World) : Type 0 where
  pub attrs : List Attr
  pub opened : attr_words ≡ map attr_word attrs
  pub events : List RunEvent
  pub history : List Action
  pub makes : RunMakes rules attrs events w history
  pub did : IsTold (λ k. did_in rules (first_seated attrs) k (changes_of events)) part
  pub saw : HasSeen history part.number seen

-- where such a run has led, others see the pass so, and this is what its operation finds, or, of a store, what it stores
pub record FoundInRun (rules : Rules) (attr_words : List ℕ) (part : Part) (seen : List Action) (pass : PassState) (a : Access) (n : ℕ) : Type 0 where
  pub world : World
  pub run : RunsTo rules attr_words part seen world
  pub stands : known world.passes part.number ≡ pass
  pub word : n ≡ told a (look world.words (site a))
