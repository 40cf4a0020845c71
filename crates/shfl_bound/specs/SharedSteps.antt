-- What threads do on shared words, as changes of a world.
use Rattle.std.specs.Prelude.{◌≡◌, ℕ, List, [], ◌∷◌, Bool, true}
use mathlib.Core.Option.{some}
use lib.ListN.{get_elem?}
use Rattle.shfl_line.specs.declared.events.LineEvent.{LineEvent}
use Rattle.shfl_core.specs.declared.phase.PassState.{PassState}
use Rattle.shfl_core.specs.declared.phase.Rules.{Rules}
use Rattle.shfl_core.specs.Words.{look, site}
use Rattle.shfl_core.specs.Plan.{plan, moving}
use Rattle.shfl_core.specs.Worlds.{World, stepped}
use Rattle.shfl_core.specs.Events.{event}
use Rattle.shfl_core.specs.Lawful.{Terms}
use Rattle.shfl_laws.specs.Seen.{SeenAs}
use Rattle.shfl_laws.specs.Changes.{Change, after_changes, shown_events, EachMayChange}
use Rattle.shfl_bound.specs.Departures.{left_before}

-- some changes lead from one world to the other, and by them there leave whom the event lets leave, and no others
pub record IsMadeOfChanges (t : Rules) (old : World) (e : LineEvent) (new : World) : Type 0 where
  pub changes : List Change
  pub may : EachMayChange t.form changes
  pub leads : after_changes t old changes ≡ new
  pub leave : (x : ℕ) → left_before x (shown_events t old changes) ≡ left_before x (e ∷ [])

-- so is each step of a pass, also where it has entered or is about to leave and the others still see it as it was
abbrev pub SharedStepLaw : Terms → Type 0
SharedStepLaw t = (w : World) (p : ℕ) (own seen : PassState) (choice : Bool) → get_elem? w.passes p ≡ some seen → SeenAs t.rules.form own seen → moving own ≡ true
    → IsMadeOfChanges t.rules w (event t.rules p own (look w.words (site (plan t.rules p own)))) (stepped t.rules w p own choice)
