use Rattle.std.proofs.Common.{◌≡◌, true, List, map, Some, sym, subst}
use Rattle.shfl_core.specs.Plan.{is_resting}
use Rattle.shfl_table.specs.Places.{Every}
use Rattle.shfl_table.specs.Histories.{common_history}
use Rattle.shfl_table.specs.PassModel.{PassModel}
use Rattle.shfl_table.proofs.Entry.{release-kept}
use Rattle.shfl_table.proofs.passes.Pass.release.Goals as goal

pub invariant_of-self : goal.invariant_of-self
invariant_of-self g c = let i = c.self.inside in release-kept g.V.Kept.initial_state g.V.Kept.history i.rules i.own i.seat.table_id i.seat.me c.self.invariant c.release_row_in_place.new.pass c.release_row_in_place.ensures.after
    (subst (λ (m : PassModel _). is_resting m.own ≡ true → (xs : List _) × (m.values ≡ map Some xs) × Every (λ x. g.V.Kept.history x ≡ common_history g.V.Kept.history m.history xs) xs) (sym c.self.view_is) c.requires.within)
