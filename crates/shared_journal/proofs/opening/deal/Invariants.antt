use Rattle.std.proofs.Common.{◌≡◌, ℕ, ◌<◌, ◌≤◌, [], length, vec_len, vec_capacity, slice_get, slice_index, Some}
use Rattle.shared_journal.specs.Models.{dealt_view, fresh_pass}
use Rattle.shared_journal.proofs.opening.deal.Given as goal

abbrev pub invariant-loop-k : goal.invariant-loop-k
invariant-loop-k g l = let opening = g.J.Journal.opening l.shared.key.journal.value in let limit = g.J.Journal.limit l.shared.key.journal.value in
    (vec_len l.passes ≡ l.k) × (length l.calls ≤ vec_capacity l.passes)
    × (l.seat.table_id ≡ l.shared.table_id) × (l.seat.me ≡ (dealt_view l.calls opening limit l.k, []))
    × ((i : ℕ) → i < l.k → slice_get l.passes.items i ≡ Some (fresh_pass l.shared.table_id opening limit i (slice_index l.calls i)))
