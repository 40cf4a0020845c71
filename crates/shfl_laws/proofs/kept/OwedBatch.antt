-- Parking, where of the state words only shuffler flags and batch numbers change.
use Rattle.std.proofs.Common.{◌≡◌, ℕ, ◌<◌, true, false, sym, ◌∙◌}
use Rattle.std.specs.Prelude.{◌||◌}
use Rattle.shfl_line.specs.declared.events.Form.{Form}
use Rattle.shfl_line.specs.declared.words.NodeState.{NodeState}
use Rattle.shfl_core.specs.Plan.{parks}
use Rattle.shfl_core.specs.Phases.{is_queued, is_fore}
use Rattle.shfl_core.specs.View.{View}
use Rattle.shfl_core.specs.Owed.{Owed, IsCalledSleeper, called}

pub record SameCall (a b : NodeState) : Type 0 where
  pub ready : b.ready ≡ a.ready
  pub parked : b.parked ≡ a.parked
  pub spin : b.spin ≡ a.spin

pub owed-batch : (form : Form) (w : View) (n : ℕ → NodeState) → ((q : ℕ) → SameCall (w.node q) (n q))
    → ((q : ℕ) → is_queued (w.pass q) ≡ true → (n q).spin ≡ true → 0 < (n q).batch)
    → (parks form ≡ true → (q : ℕ) → is_queued (w.pass q) ≡ true → is_fore (w.pass q) ≡ false → 0 < (n q).batch → (n q).spin ≡ true)
    → Owed form w → Owed form (record w { node = n })
owed-batch form w n same told grouped h = record {
  places = h.places;
  parked = λ q. (same q).parked ∙ h.parked q;
  roused = λ q e. calls q ∙ h.roused q e;
  spinning = λ x q. let t = h.spinning x q in (t.0, (same q).spin ∙ t.1, t.2);
  told = told;
  grouped = grouped;
  fresh = λ q e. (same q).spin ∙ h.fresh q e;
  owed = λ q c e. h.owed q (back q c) e;
  one = h.one;
  rung = λ q e. let t = h.rung q e in (forth q t.0, t.1);
  rings = λ r q e. let t = h.rings r q e in (forth q t.0, t.1);
}
  where
    calls : (q : ℕ) → called (n q) ≡ called (w.node q)
    calls q = λ j. (same q).ready j || (same q).spin j

    forth : (q : ℕ) → IsCalledSleeper w q → IsCalledSleeper (record w { node = n }) q
    forth q c = record { sleeps = c.sleeps; called = calls q ∙ c.called }

    back : (q : ℕ) → IsCalledSleeper (record w { node = n }) q → IsCalledSleeper w q
    back q c = record { sleeps = c.sleeps; called = sym (calls q) ∙ c.called }
