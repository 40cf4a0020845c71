use Rattle.std.proofs.Common.{◌≡◌, ◌+◌, ◌≤◌, List, ℕ, All, vec_len, vec_capacity}
use Rattle.hist_log.specs.History.{state_left}
use Rattle.shfl_table.specs.declared.kept.Action.{Action}
use Rattle.shfl_table.specs.Places.{Every}
use Rattle.shfl_table.specs.Books.{pack, opening_of, operations_of}
use Rattle.rw_cell.proofs.closing.parts_of.Given as goal

abbrev pub invariant-loop-book : goal.invariant-loop-book
invariant-loop-book g l =
    (vec_len l.copies + vec_len l.books ≡ vec_len l.fn.books) × (vec_len l.fn.books ≤ vec_capacity l.copies)
    × ((packed : List ℕ) (total : List Action) → Every (λ b. (pack b.opening b.allowed ≡ packed) × (b.history ≡ total)) l.fn.books.items
    → Every (λ b. (pack b.opening b.allowed ≡ packed) × (b.history ≡ total)) l.books.items
    × All (λ o. g.O.Object.state_numbers o ≡ state_left g.O.Object.state_after (opening_of packed) (operations_of total)) l.copies.items)

abbrev pub decreases-loop-book : goal.decreases-loop-book
decreases-loop-book g l = vec_len l.books
