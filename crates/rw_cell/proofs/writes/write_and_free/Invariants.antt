use Rattle.std.proofs.Common.{◌≡◌, ℕ, map, length, List, [], ◌∷◌, ◌++◌, Some}
use Rattle.shfl_table.specs.Books.{BookModel, pack}
use Rattle.rw_cell.specs.RwCells.{write_after}
use Rattle.rw_cell.proofs.Copies.{SplitAt}
use Rattle.rw_cell.proofs.writes.write_and_free.Given as goal

abbrev pub invariant-loop-k : goal.invariant-loop-k
invariant-loop-k g l = let p = l.initial.pass in
    (l.pass ≡ record p { values = l.pass.values })
    × ((xs : List BookModel) × (l.pass.values ≡ map Some xs) × (length xs ≡ l.places)
    × SplitAt l.k (λ x. (pack x.opening x.allowed ≡ p.initial_state)
    × (x.history ≡ p.history ++ write_after g.O.Object.reply_at g.O.Object.state_after p (g.O.Object.call_numbers l.call) ∷ []))
    (λ x. (pack x.opening x.allowed ≡ p.initial_state) × (x.history ≡ p.history)) xs)
