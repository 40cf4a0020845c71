-- A line state, and what every line state that a lock shows keeps.
use Rattle.std.specs.Prelude.{◌≡◌, ℕ, suc, ◌+◌, ◌<◌, ◌≤◌, ◌⊎◌, List, [], ◌∷◌, Option, None, Bool, true, false, cond, ◌==◌, length, slice_index, replicate}
use Rattle.shfl_line.specs.declared.events.Mode.{Mode}
use Rattle.shfl_line.specs.declared.events.Mode.TheVariants.{Write, Read}
use Rattle.shfl_line.specs.declared.events.Role.{Role}
use Rattle.shfl_line.specs.declared.events.Role.TheVariants.{Nobody, Rest, Walk}
use Rattle.shfl_line.specs.Words.{link_word}
use Rattle.shfl_line.specs.Passes.{times, last_marked, EachPair, MarkedFirst}

-- the holders, the wait queue, the detached waiter, the shuffler, and a batch number for each pass
pub record Line : Type 0 where
  pub hold : List (ℕ × Mode)
  pub line : List ℕ
  pub hand : Option ℕ
  pub role : Role
  pub mark : List ℕ

abbrev pub mark_of : Line → ℕ → ℕ
mark_of s pass = slice_index s.mark pass

-- the pass that is in a round plus 1, or 0
abbrev pub active_shuffler : Role → ℕ
active_shuffler Nobody = 0
active_shuffler (Rest pass) = 0
active_shuffler (Walk pass) = suc pass

-- the pass that has the flag outside a round plus 1, or 0
abbrev pub idle_shuffler : Role → ℕ
idle_shuffler Nobody = 0
idle_shuffler (Rest pass) = suc pass
idle_shuffler (Walk pass) = 0

abbrev pub is_write : Mode → Bool
is_write Write = true
is_write Read = false

-- how often a pass stands in the hold
abbrev pub holds : ℕ → List (ℕ × Mode) → ℕ
holds p [] = 0
holds p (x ∷ xs) = cond (x.0 == p) 1 0 + holds p xs

abbrev pub writer_count : List (ℕ × Mode) → ℕ
writer_count [] = 0
writer_count (x ∷ xs) = cond (is_write x.1) 1 0 + writer_count xs

abbrev pub reader_count : List (ℕ × Mode) → ℕ
reader_count [] = 0
reader_count (x ∷ xs) = cond (is_write x.1) 0 1 + reader_count xs

-- the passes of a hold rise, the first is at least `least`, and all are below `passes`
abbrev pub Rises : ℕ → ℕ → List (ℕ × Mode) → Type 0
Rises least passes [] = Unit {0}
Rises least passes (x ∷ xs) = (least ≤ x.0) × (x.0 < passes) × Rises (suc x.0) passes xs

-- nobody holds or waits
abbrev pub empty : ℕ → Line
empty passes = record { hold = []; line = []; hand = None; role = Nobody; mark = replicate passes 0 }

-- what every state of so many passes keeps, however it was filled
pub record IsOfPasses (passes : ℕ) (s : Line) : Type 0 where
  -- each pass has a batch number
  pub marks : length s.mark ≡ passes
  -- the hold is in rising order, so nobody stands in it twice
  pub hold : Rises 0 passes s.hold
  -- each pass that waits is one of them
  pub line : (q : ℕ) → 0 < times q s.line → q < passes
  pub hand : (q : ℕ) → link_word s.hand ≡ suc q → q < passes
  -- nobody waits twice
  pub once : (q : ℕ) → times q s.line + cond (link_word s.hand == suc q) 1 0 ≤ 1

-- what every state that a lock of this batch limit shows keeps
pub record IsWellFormed (limit : ℕ) (s : Line) : Type 0 where
  -- one writer holds alone, or readers, or nobody
  pub alone : (writer_count s.hold ≡ 0) ⊎ ((writer_count s.hold ≡ 1) × (reader_count s.hold ≡ 0))
  -- nobody holds twice
  pub holds_once : (q : ℕ) → holds q s.hold ≤ 1
  -- nobody waits twice, and the detached waiter doesn't stand in the line
  pub waits_once : (q : ℕ) → times q s.line + cond (link_word s.hand == suc q) 1 0 ≤ 1
  -- whoever has a batch number stands in the line
  pub in_line : (q : ℕ) → 0 < mark_of s q → 0 < times q s.line
  -- the batch is a prefix of the line
  pub prefix : EachPair (MarkedFirst (mark_of s)) s.line
  pub within : (q : ℕ) → mark_of s q ≤ limit
  -- an idle shuffler is the batch's last
  pub idle : (q : ℕ) → idle_shuffler s.role ≡ suc q → last_marked (mark_of s) s.line ≡ suc q
  -- an active shuffler is of the batch, and doesn't hold
  pub active : (q : ℕ) → active_shuffler s.role ≡ suc q → (0 < mark_of s q) × (holds q s.hold ≡ 0)
  -- only an active shuffler detaches a waiter
  pub attached : active_shuffler s.role ≡ 0 → link_word s.hand ≡ 0
