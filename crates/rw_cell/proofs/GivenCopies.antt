-- A copy that is given back is what the writes leave.
use Rattle.std.proofs.Common.{◌≡◌, ℕ, List, sym, ap, ◌∙◌}
use Rattle.hist_log.specs.declared.entry.Entry.{Entry}
use Rattle.hist_log.specs.History.{operations, state_left}
use Rattle.shfl_table.specs.declared.kept.Action.{Action}
use Rattle.shfl_table.specs.Books.{BookModel, actions, pack, opening_of, operations_of}
use Rattle.shfl_table.proofs.Entries.{operations_of-actions}
use Rattle.shfl_table.proofs.PackedStates.{opening_of-pack}

pub book-opening : (book : BookModel) (packed : List ℕ) → pack book.opening book.allowed ≡ packed → book.opening ≡ opening_of packed
book-opening book packed is = sym (opening_of-pack book.opening book.allowed) ∙ ap opening_of is

pub operations-total : {O C R : Type 0} (call : C → List ℕ) (reply : R → List ℕ) (entries : List (Entry O C R)) (total : List Action) → actions call reply entries ≡ total → operations call reply entries ≡ operations_of total
operations-total call reply entries total is = sym (operations_of-actions call reply entries) ∙ ap operations_of is

pub book-state : {O C R : Type 0} (call : C → List ℕ) (reply : R → List ℕ) (state_after : List ℕ → List ℕ → List ℕ) (state : List ℕ) (book : BookModel) (entries : List (Entry O C R)) (packed : List ℕ) (total : List Action)
    → state ≡ state_left state_after book.opening (operations call reply entries) → actions call reply entries ≡ book.history → pack book.opening book.allowed ≡ packed → book.history ≡ total
    → state ≡ state_left state_after (opening_of packed) (operations_of total)
book-state call reply state_after state book entries packed total left told packed_is total_is =
    left ∙ (λ j. state_left state_after (book-opening book packed packed_is j) (operations-total call reply entries total (told ∙ total_is) j))
