-- What a policy is told, in rounds.
use Rattle.std.specs.Prelude.{◌≡◌, List, [], ◌∷◌, ◌++◌, map, flat_map, All, Option, None, IsSome}
use Rattle.shfl_line.specs.declared.choosers.Answer.{Answer}
use Rattle.shfl_line.specs.declared.choosers.Told.{Told}
use Rattle.shfl_line.specs.declared.choosers.Told.TheVariants.{Begun, Answered, Ended}
use Rattle.shfl_line.specs.Policies.{Adds}

-- the questions of a round: first whether to skip it, and then of waiters alone
abbrev pub IsRound : List Answer → Type 0
IsRound [] = ⊥
IsRound (a ∷ l) = (a.waiter ≡ None) × All (λ b. IsSome b.waiter) l

-- what a policy is told of a round: that it begins, then each question, and then that it ended
abbrev pub round_told : List Answer → List Told
round_told l = Begun ∷ (map (λ a. Answered a) l ++ Ended ∷ [])

-- a policy was asked this in whole rounds, of each it was told its beginning and its end, and nothing else
pub record TellsInRounds (answers : List Answer) (old new : Option (List Told)) : Type 0 where
  pub rounds : List (List Answer)
  pub are : All IsRound rounds
  pub whole : answers ≡ flat_map (λ r. r) rounds
  pub adds : Adds old new (flat_map round_told rounds)

-- whoever asks keeps its decisions; the policy was told those made since, in rounds
abbrev pub AsksBy : {D : Type 0} → (D → List Answer) → List D → List D → Option (List Told) → Option (List Told) → Type 0
AsksBy {D} answers old new told told' = (more : List D) × (new ≡ old ++ more) × TellsInRounds (flat_map answers more) told told'
