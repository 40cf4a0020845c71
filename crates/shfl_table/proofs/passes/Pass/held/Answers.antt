use Rattle.std.proofs.Common.{◌≡◌, ℕ, List, Option, ap, ◌∙◌, length, subst}
use Rattle.atomic_table.specs.Seated.{TableId}
use Rattle.atomic_table.specs.Table.{Me}
use Rattle.shfl_core.specs.declared.phase.Rules.{Rules}
use Rattle.shfl_core.specs.declared.phase.PassState.{PassState}
use Rattle.shfl_laws.specs.Holds.{hold_of}
use Rattle.shfl_table.specs.declared.kept.Action.{Action}
use Rattle.shfl_table.specs.declared.view.View.{View}
use Rattle.shfl_table.specs.PassInvariant.{PassInvariant}
use Rattle.shfl_table.specs.PassModel.{PassModel}
use Rattle.shfl_table.specs.Places.{first_place, place_count, values_of}
use Rattle.shfl_table.proofs.Places.{values_numbered}
use Rattle.shfl_table.proofs.passes.Pass.held.Goals as goal

-- a pass carries the places of its hold
carried : {X : Type 0} (initial_state : X → List ℕ) (history : X → List Action) (rules : Rules) (own : PassState) (id : TableId) (me : Me (Option X) View) → PassInvariant initial_state history rules own id me
    → length (values_of me.1) ≡ place_count (hold_of own) own.reg.me id.slots
carried initial_state history rules own id me k = ap (λ l. length (values_of l)) k.carries.is
    ∙ (ap length (values_numbered (first_place (hold_of own) own.reg.me) k.carries.values) ∙ k.carries.long)

pub returns-in-Held-clause-places : goal.returns-in-Held-clause-places
returns-in-Held-clause-places g c = let i = c.self.inside in subst (λ (m : PassModel _). length m.values ≡ place_count (hold_of m.own) m.own.reg.me m.board.table.slots) c.self.view_is (carried g.V.Kept.initial_state g.V.Kept.history i.rules i.own i.seat.table_id i.seat.me c.self.invariant)

pub returns-in_default-clause-places : goal.returns-in_default-clause-places
returns-in_default-clause-places g c = let i = c.self.inside in subst (λ (m : PassModel _). length m.values ≡ place_count (hold_of m.own) m.own.reg.me m.board.table.slots) c.self.view_is (carried g.V.Kept.initial_state g.V.Kept.history i.rules i.own i.seat.table_id i.seat.me c.self.invariant)
