-- The copy that a writer has in a place.
use Rattle.std.proofs.Common.{◌≡◌, ℕ, List, ap, ◌∙◌, slice_get, Some}
use Rattle.hist_log.specs.History.{state_left}
use Rattle.shfl_line.specs.declared.events.Mode.{Mode}
use Rattle.shfl_line.specs.declared.events.Mode.TheVariants.{Write}
use Rattle.shfl_table.specs.Places.{place_index}
use Rattle.shfl_table.specs.PassModel.{HasAt, PassModel}
use Rattle.shfl_table.specs.Books.{BookModel, opening_of, operations_of}
use Rattle.rw_cell.specs.RwCells.{write_after}

module _ (p : PassModel BookModel) (writes : p.own.reg.mode ≡ Write) (place : ℕ) where
  -- a writer's places are those of the copies
  pub at_place : place_index p.own.reg.mode place ≡ place
  at_place = ap (λ (m : Mode). place_index m place) writes

  pub has_at : (x : BookModel) → slice_get p.values place ≡ Some (Some x) → HasAt p place x
  has_at x at = ap (λ (k : ℕ). slice_get p.values k) at_place ∙ at

-- the write that was made is that after what the pass has seen
pub same_write : (p : PassModel BookModel) (worker : ℕ) → worker ≡ p.own.reg.me → (reply_at state_after : List ℕ → List ℕ → List ℕ) (call reply : List ℕ)
    → reply ≡ reply_at (state_left state_after (opening_of p.initial_state) (operations_of p.history)) call
    → record { worker = worker; call = call; reply = reply } ≡ write_after reply_at state_after p call
same_write p worker mine reply_at state_after call reply answered = (λ j. record { worker = mine j; call = call; reply = answered j })
