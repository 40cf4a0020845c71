use Rattle.std.proofs.Common.{◌≡◌, ℕ, ◌+◌, ◌<◌, ◌≤◌, [], vec_len, vec_capacity, slice_get, Some}
use Rattle.shfl_table.specs.PassModel.{fresh_pass}
use Rattle.shfl_laws.specs.Moves.{told_terms}
use Rattle.shfl_table.specs.Views.{new_view}
use Rattle.shfl_table.specs.Histories.{initial_state_of}
use Rattle.shfl_table.proofs.opening.deal.Given as goal

abbrev pub invariant-loop-k : goal.invariant-loop-k
invariant-loop-k g l = let initial_state = initial_state_of g.V.Kept.initial_state l.shared.key.values.value.items in let attrs = (told_terms l.shared.key.rules l.shared.key.count l.shared.key.words.value.items).attrs in
    (vec_len l.passes + 1 ≡ l.k) × (l.count ≤ vec_capacity l.passes)
    × (l.seat.table_id ≡ l.shared.table_id) × (l.seat.me ≡ (new_view attrs initial_state (vec_len l.passes), []))
    × ((i : ℕ) → i < vec_len l.passes → slice_get l.passes.items i ≡ Some (fresh_pass initial_state (record { table = l.shared.table_id; rules = l.rules; attrs = attrs }) i))
