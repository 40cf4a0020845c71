-- A lock over plain words, as clauses see it.
use Rattle.std.specs.Prelude.{◌≡◌, ℕ, List, [], ◌∷◌, map, Bool, true, false}
use mathlib.Core.Option.{some}
use lib.ListN.{get_elem?}
use Rattle.shfl_line.specs.declared.events.Form.TheVariants.{Spin}
use Rattle.shfl_core.specs.declared.phase.Nap.{Nap}
use Rattle.shfl_core.specs.declared.phase.Nap.TheVariants.{Hear}
use Rattle.shfl_core.specs.declared.phase.PassState.{PassState}
use Rattle.shfl_core.specs.declared.phase.Rules.{Rules}
use Rattle.shfl_line.specs.declared.words.Attr.{Attr}
use Rattle.shfl_core.specs.Waiting.{Meaning}
use Rattle.shfl_core.specs.Worlds.{World, Move, after_move, opening}
use Rattle.shfl_core.specs.Bounds.{HasBounds}

-- the words and the passes, and the rules that all passes go by
pub record Lock : Type 0 where
  pub rules : Rules
  pub world : World

abbrev pub standing : {W : Type 0} → (W → Meaning) → List W → List PassState
standing meaning waiters = map (λ w. (meaning w).pass) waiters

-- the rules of the first waiter
abbrev pub common_rules : {W : Type 0} → (W → Meaning) → List W → Rules
common_rules meaning [] = record { limit = 1; form = Spin }
common_rules meaning (w ∷ rest) = (meaning w).rules

abbrev pub seen_lock : {W : Type 0} → (W → Meaning) → List ℕ → List W → Lock
seen_lock meaning words waiters = record {
  rules = common_rules meaning waiters;
  world = record { words = words; passes = standing meaning waiters };
}

pub record IsLock {W : Type 0} (meaning : W → Meaning) (words : List ℕ) (waiters : List W) : Type 0 where
  pub bounds : HasBounds (record { words = words; passes = standing meaning waiters })
  -- all waiters go by the same rules
  pub rules : (k : ℕ) (w : W) → get_elem? waiters k ≡ some w → (meaning w).rules ≡ common_rules meaning waiters

-- a lock with a pass for each of these attributes, at its opening
abbrev pub opened : Rules → List Attr → Lock
opened rules attrs = record { rules = rules; world = opening attrs }

-- the lock after a move
abbrev pub moved : Lock → Move → Lock
moved a m = record a { world = after_move a.rules a.world m }

abbrev pub is_parked : Nap → Bool
is_parked Hear = true
is_parked _ = false
