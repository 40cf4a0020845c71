use Rattle.std.proofs.Common.{◌≡◌, ◌+◌, ◌≤◌, [], All, sum, vec_len, vec_capacity}
use Rattle.shfl_table.specs.Places.{Every}
use Rattle.shfl_table.specs.Books.{pack}
use Rattle.rw_cell.specs.RwCells.{first_state}
use Rattle.rw_cell.proofs.opening.books_of.Given as goal

abbrev pub invariant-loop-object : goal.invariant-loop-object
invariant-loop-object g l =
    (vec_len l.books + vec_len l.copies ≡ vec_len l.fn.copies) × (vec_len l.fn.copies ≤ vec_capacity l.books)
    × All (λ x. g.O.Object.state_numbers x ≡ first_state g.O.Object.state_numbers l.fn.copies.items) l.copies.items
    × All (λ x. sum l.calls ≤ g.O.Object.spare x) l.copies.items
    × Every (λ b. (pack b.opening b.allowed ≡ pack (first_state g.O.Object.state_numbers l.fn.copies.items) l.calls) × (b.history ≡ [])) l.books.items

abbrev pub decreases-loop-object : goal.decreases-loop-object
decreases-loop-object g l = vec_len l.copies
