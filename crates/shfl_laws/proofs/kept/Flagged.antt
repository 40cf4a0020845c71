-- Parking is kept, where of the state words only shuffler flags change.
use Rattle.std.proofs.Common.{◌≡◌, ℕ, ◌<◌, sym, ◌∙◌, subst}
use Rattle.shfl_line.specs.declared.events.Form.{Form}
use Rattle.shfl_line.specs.declared.words.NodeState.{NodeState}
use Rattle.shfl_core.specs.View.{View}
use Rattle.shfl_core.specs.Owed.{Owed}
use Rattle.shfl_laws.proofs.kept.OwedBatch.{owed-batch}

-- the two state words differ in the flag alone
pub record FlagOnly (a b : NodeState) : Type 0 where
  pub ready : b.ready ≡ a.ready
  pub parked : b.parked ≡ a.parked
  pub spin : b.spin ≡ a.spin
  pub batch : b.batch ≡ a.batch

pub owed-flags : (form : Form) (w : View) (n : ℕ → NodeState) → ((q : ℕ) → FlagOnly (w.node q) (n q)) → Owed form w → Owed form (record w { node = n })
owed-flags form w n same h = owed-batch form w n
    (λ q. record { ready = (same q).ready; parked = (same q).parked; spin = (same q).spin })
    (λ q a b. subst (λ z. 0 < z) (sym (same q).batch) (h.told q a (sym (same q).spin ∙ b)))
    (λ x q a b c. (same q).spin ∙ h.grouped x q a b (subst (λ z. 0 < z) (same q).batch c)) h
