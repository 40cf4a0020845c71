-- Histories of an object, whose states, calls and replies are seen as lists of numbers.
use Rattle.std.specs.Prelude.{◌≡◌, ℕ, List, [], ◌∷◌, map}
use Rattle.hist_log.specs.declared.entry.Entry.{Entry}

-- one call as plain data: who made it, what it was, and what it was answered
pub record Operation : Type 0 where
  pub worker : ℕ
  pub call : List ℕ
  pub reply : List ℕ

-- an entry as plain data, by the numbers that stand for its call and its reply
abbrev pub operation : {O C R : Type 0} → (C → List ℕ) → (R → List ℕ) → Entry O C R → Operation
operation call reply e = record { worker = e.worker; call = call e.call; reply = reply e.reply }

abbrev pub operations : {O C R : Type 0} → (C → List ℕ) → (R → List ℕ) → List (Entry O C R) → List Operation
operations call reply = map (operation call reply)

-- the state that a history leaves
abbrev pub state_left : (List ℕ → List ℕ → List ℕ) → List ℕ → List Operation → List ℕ
state_left state_after state [] = state
state_left state_after state (o ∷ os) = state_left state_after (state_after state o.call) os

-- each reply is the object's answer after the operations before it
abbrev pub IsLegal : (List ℕ → List ℕ → List ℕ) → (List ℕ → List ℕ → List ℕ) → List ℕ → List Operation → Type 0
IsLegal reply_at state_after state [] = Unit {0}
IsLegal reply_at state_after state (o ∷ os) = (o.reply ≡ reply_at state o.call) × IsLegal reply_at state_after (state_after state o.call) os
