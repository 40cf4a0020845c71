-- The passes of a pool that was opened.
use Rattle.std.proofs.Common.{◌≡◌, ℕ, ◌+◌, ◌<◌, List, [], ◌∷◌, map, length, slice_get, slice_index, slice_index_or, Some, sym, ap, ◌∙◌, subst, arith}
use Rattle.std.specs.List.{All}
use Rattle.std.proofs.lemmas.List.{get_or-map}
use Rattle.std.proofs.lemmas.Option.{get_or_from_slice_get}
use Rattle.shfl_line.specs.declared.words.Attr.{Attr}
use Rattle.shfl_cell.specs.Cells.{CellModel, CellPassModel, fresh, no_attr, number}
use Rattle.call_queue.specs.Rule.{whole}
use Rattle.call_queue.specs.Queues.{QueueModel, IsFresh}
use Rattle.call_pool.specs.Pools.{PoolPassModel, IsPassOf, IsUnused, HaveAttrs, FirstHasTheRest}
use Rattle.call_pool.proofs.Takings.{unused_own}

module _ {C : Type 0} (queue : QueueModel C) (cell : CellModel) (attrs : List Attr) (counts : List ℕ) (passes : List (PoolPassModel C)) (cells : List CellPassModel)
    (takers : All (λ p. IsFresh queue.id queue.calls p.taker) passes) (first : FirstHasTheRest passes) (many : queue.takers ≡ length passes) (same : map (λ p. p.cell) passes ≡ cells) (long : length passes ≡ length counts)
    (each : (k : ℕ) → k < length counts → slice_get cells k ≡ Some (fresh cell k (slice_index counts k) (slice_index_or attrs k no_attr))) where
  cell_at : (k : ℕ) (d : PoolPassModel C) → k < length passes → (slice_index_or passes k d).cell ≡ fresh cell k (slice_index counts k) (slice_index_or attrs k no_attr)
  cell_at k d below = sym (get_or-map (λ (p : PoolPassModel C). p.cell) passes k d d.cell below)
      ∙ (ap (λ (l : List CellPassModel). slice_index_or l k d.cell) same ∙ get_or_from_slice_get cells k (fresh cell k (slice_index counts k) (slice_index_or attrs k no_attr)) d.cell (each k (omega arith)))

  first_rest : (k : ℕ) (d : PoolPassModel C) → k < length passes → number (slice_index_or passes k d).cell ≡ 0 → whole < (slice_index_or passes k d).taker.parts + queue.takers
  first_rest k d below zeroth =
      let place : k ≡ 0 = sym (ap number (cell_at k d below)) ∙ zeroth in
      let here : slice_index_or passes k d ≡ first.0 = ap (λ n. slice_index_or passes n d) place ∙ ap (λ (l : List (PoolPassModel C)). slice_index_or l 0 d) first.2 in
      let parts : (slice_index_or passes k d).taker.parts ≡ first.0.taker.parts = ap (λ (p : PoolPassModel C). p.taker.parts) here in
      let all = first.3 in let n : length passes ≡ length (first.0 ∷ first.1) = ap length first.2 in omega arith

  pub all_unused : All IsUnused passes
  all_unused k d below = (
    (takers k d below).taken,
    (takers k d below).ended,
    ap (λ (p : CellPassModel). p.seen) (cell_at k d below),
    ap (λ (p : CellPassModel). p.decisions) (cell_at k d below),
  )

  pub all_attrs : HaveAttrs attrs passes
  all_attrs k d below = ap (λ (p : CellPassModel). p.attr) (cell_at k d below)

  pub all_own : (call_numbers : C → List ℕ) (admits : List ℕ → List ℕ → Type 0) → ((k : ℕ) → k < length counts → slice_index counts k ≡ length queue.calls)
      → All (λ c. admits cell.opening (call_numbers c)) queue.calls → All (IsPassOf call_numbers admits (record { queue = queue; cell = cell })) passes
  all_own call_numbers admits every admitted k d below = unused_own call_numbers admits (record { queue = queue; cell = cell }) (slice_index_or passes k d)
      (takers k d below).queue
      (takers k d below).calls
      (takers k d below).taken
      (takers k d below).part
      (first_rest k d below)
      (ap (λ (p : CellPassModel). p.cell) (cell_at k d below))
      (ap (λ (p : CellPassModel). p.opening) (cell_at k d below))
      (ap (λ (p : CellPassModel). p.seen) (cell_at k d below))
      (ap (λ (p : CellPassModel). p.left) (cell_at k d below) ∙ every k (omega arith))
      admitted
