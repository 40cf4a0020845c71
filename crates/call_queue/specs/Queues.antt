-- A queue of calls and its takers, as clauses see them.
use Rattle.std.specs.Prelude.{◌≡◌, ◌<◌, ◌+◌, ℕ, List, [], ◌∷◌, ◌++◌, length, ◌==◌, count_by, Bool, false}
use Rattle.atomic_table.specs.Seated.{TableId}
use Rattle.hist_log.specs.declared.numbered.NumberedCall.{NumberedCall}
use Rattle.call_queue.specs.Rule.{whole}

-- a queue: which one it is, the calls that it was filled with, how many ends stand behind them, and how many takers it has
pub record QueueModel (C : Type 0) : Type 0 where
  pub id : TableId
  pub calls : List C
  pub ends : ℕ
  pub takers : ℕ

-- a taker: its queue, the calls that this was filled with, how many parts of the right to know who took what it has, what it
-- took, and whether it has ended
pub record TakerModel (C : Type 0) : Type 0 where
  pub queue : TableId
  pub calls : List C
  pub parts : ℕ
  pub taken : List (NumberedCall C)
  pub ended : Bool

module _ {C : Type 0} where
  -- a taker of the queue that took nothing yet
  pub record IsFresh (id : TableId) (all : List C) (t : TakerModel C) : Type 0 where
    pub queue : t.queue ≡ id
    pub calls : t.calls ≡ all
    pub part : 0 < t.parts
    pub taken : t.taken ≡ []
    pub ended : t.ended ≡ false

  -- the last of the takers has all parts that the others don't have: one is each other's
  abbrev pub LastHasTheRest : List (TakerModel C) → Type 0
  LastHasTheRest takers = (others : List (TakerModel C)) × (last : TakerModel C) × (takers ≡ others ++ last ∷ []) × (last.parts + length others ≡ whole)

  -- each place of these calls is taken once
  abbrev pub IsEachTaken : List C → List (NumberedCall C) → Type 0
  IsEachTaken calls taken = (place : ℕ) → place < length calls → count_by (λ c. c.at == place) taken ≡ 1
