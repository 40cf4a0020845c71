-- A pool and its passes, as clauses see them.
use Rattle.std.specs.Prelude.{◌≡◌, ◌==◌, ◌+◌, ◌<◌, ℕ, List, [], ◌∷◌, ◌++◌, map, filter, length, true, false, All, slice_get, slice_index_or, Some}
use Rattle.hist_log.specs.declared.entry.Entry.{Entry}
use Rattle.hist_log.specs.declared.numbered.NumberedCall.{NumberedCall}
use Rattle.hist_log.specs.Numbers.{numbers, inner}
use Rattle.hist_log.specs.PoolHistories.{AreRising}
use Rattle.call_queue.specs.Rule.{whole}
use Rattle.call_queue.specs.Queues.{QueueModel, TakerModel, IsFresh}
use Rattle.shfl_table.specs.Histories.{actions_by}
use Rattle.shfl_line.specs.declared.words.Attr.{Attr}
use Rattle.shfl_cell.specs.Cells.{CellModel, CellPassModel, MakesCall, number, no_attr}

-- a pool: its queue of calls, and its cell
pub record PoolModel (C : Type 0) : Type 0 where
  pub queue : QueueModel C
  pub cell : CellModel

-- a pass: what it took of the queue, and what it knows of the cell
pub record PoolPassModel (C : Type 0) : Type 0 where
  pub taker : TakerModel C
  pub cell : CellPassModel

module _ {C : Type 0} where
  -- The pass is one of the pool, whose calls the object admits; pass 0 has all parts of the right to know who took what that the
  -- others don't have. The pass may still make each call that it didn't take; the calls that it made are those that it took, with
  -- their places, each that of its place in the list; and these places rise.
  pub record IsPassOf (call_numbers : C → List ℕ) (admits : List ℕ → List ℕ → Type 0) (pool : PoolModel C) (pass : PoolPassModel C) : Type 0 where
    pub queue : pass.taker.queue ≡ pool.queue.id
    pub calls : pass.taker.calls ≡ pool.queue.calls
    pub cell : pass.cell.cell ≡ pool.cell.id
    pub opening : pass.cell.opening ≡ pool.cell.opening
    pub admitted : All (λ c. admits pool.cell.opening (call_numbers c)) pool.queue.calls
    pub part : 0 < pass.taker.parts
    pub rest : number pass.cell ≡ 0 → whole < pass.taker.parts + pool.queue.takers
    pub left : pass.cell.left + length pass.taker.taken ≡ length pool.queue.calls
    pub made : map (λ a. a.call) (actions_by (number pass.cell) pass.cell.seen) ≡ map (numbers call_numbers) pass.taker.taken
    pub listed : All (λ c. slice_get pool.queue.calls c.at ≡ Some c.call) pass.taker.taken
    pub rising : AreRising (map (λ c. c.at) pass.taker.taken)

  -- a pass that took nothing yet, and asked nothing
  abbrev pub IsUnused : PoolPassModel C → Type 0
  IsUnused pass = (pass.taker.taken ≡ []) × (pass.taker.ended ≡ false) × (pass.cell.seen ≡ []) × (pass.cell.decisions ≡ [])

  -- each pass has the attributes of its place
  abbrev pub HaveAttrs : List Attr → List (PoolPassModel C) → Type 0
  HaveAttrs attrs passes = (k : ℕ) (d : PoolPassModel C) → k < length passes → (slice_index_or passes k d).cell.attr ≡ slice_index_or attrs k no_attr

  -- these passes have a fresh taker each, and these of the cell in their order
  abbrev pub ArePaired : QueueModel C → List CellPassModel → List (PoolPassModel C) → Type 0
  ArePaired queue cells passes = All (λ p. IsFresh queue.id queue.calls p.taker) passes × (map (λ p. p.cell) passes ≡ cells)

  -- the first of the passes has all parts that the others don't have: one is each other's
  abbrev pub FirstHasTheRest : List (PoolPassModel C) → Type 0
  FirstHasTheRest passes = (first : PoolPassModel C) × (others : List (PoolPassModel C)) × (passes ≡ first ∷ others) × (first.taker.parts + length others ≡ whole)

  -- A call was taken and made: it is the list's call at this place, the pass has it behind those that it took before, and the
  -- history that the pass has seen ends with it.
  pub record TakesCall (call_numbers : C → List ℕ) (reply_at state_after : List ℕ → List ℕ → List ℕ) (calls : List C)
      (old : PoolPassModel C) (at : ℕ) (reply : List ℕ) (place : ℕ) (new : PoolPassModel C) : Type 0 where
    pub call : C
    pub listed : slice_get calls at ≡ Some call
    pub taken : new.taker.taken ≡ old.taker.taken ++ record { at = at; call = call } ∷ []
    pub made : MakesCall (λ state call. reply_at state (inner call)) (λ state call. state_after state (inner call)) old.cell
        (record { worker = number old.cell; call = at ∷ call_numbers call; reply = reply }) place new.cell
    pub going_on : (old.taker.ended ≡ false) × (new.taker.ended ≡ false)

  -- no call was taken, and none is left
  pub record EndsAt (old new : PoolPassModel C) : Type 0 where
    pub ended : new.taker.ended ≡ true
    pub taken : new.taker.taken ≡ old.taker.taken
    pub cell : new.cell ≡ old.cell

-- each stands at the place of its number
abbrev pub AreNumbered : {A : Type 0} → (A → ℕ) → List A → Type 0
AreNumbered {A} number all = (k : ℕ) (d : A) → k < length all → number (slice_index_or all k d) ≡ k

-- the calls of a worker's entries, in their order
abbrev pub calls_by : {O C R : Type 0} → ℕ → List (Entry O (NumberedCall C) R) → List (NumberedCall C)
calls_by worker entries = map (λ e. e.call) (filter (λ e. e.worker == worker) entries)
