-- The tickets of a list of calls, and the calls of a list of tickets.
use Rattle.std.specs.Prelude.{◌≡◌, ℕ, zero, suc, List, [], ◌∷◌, ◌++◌, map, length, Option, Some, None, Bool, true, false, ◌||◌, count_by}
use Rattle.hist_log.specs.declared.numbered.NumberedCall.{NumberedCall}
use Rattle.call_queue.specs.declared.rule.Ticket.{Ticket}

module _ {C : Type 0} where
  -- a ticket for each call, with its place
  abbrev pub calls_from : ℕ → List C → List (Ticket C)
  calls_from at [] = []
  calls_from at (c ∷ cs) = record { at = at; call = Some c } ∷ calls_from (suc at) cs

  -- so many ends
  abbrev pub ends_from : ℕ → ℕ → List (Ticket C)
  ends_from at zero = []
  ends_from at (suc n) = record { at = at; call = None } ∷ ends_from (suc at) n

  -- the calls, and behind them so many ends
  abbrev pub tickets_of : List C → ℕ → List (Ticket C)
  tickets_of calls ends = calls_from 0 calls ++ ends_from (length calls) ends

  abbrev pub call_at : ℕ → Option C → List (NumberedCall C)
  call_at at None = []
  call_at at (Some call) = record { at = at; call = call } ∷ []

  -- the calls of the tickets, each with its place
  abbrev pub calls_in : List (Ticket C) → List (NumberedCall C)
  calls_in [] = []
  calls_in (t ∷ ts) = call_at t.at t.call ++ calls_in ts

  -- the calls alone
  abbrev pub bare : List (NumberedCall C) → List C
  bare = map (λ c. c.call)

  abbrev pub is_end : Option C → Bool
  is_end None = true
  is_end (Some call) = false

  -- how many of the tickets are ends
  abbrev pub ends_in : List (Ticket C) → ℕ
  ends_in = count_by (λ t. is_end t.call)

  -- an end is among the tickets
  abbrev pub has_end : List (Ticket C) → Bool
  has_end [] = false
  has_end (t ∷ ts) = is_end t.call || has_end ts

  -- the tickets are those of their calls, with some ends behind them
  abbrev pub AreWhole : List (Ticket C) → Type 0
  AreWhole all = (ends : ℕ) × (all ≡ tickets_of (bare (calls_in all)) ends)
