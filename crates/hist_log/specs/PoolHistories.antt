-- Histories of calls that stood in one list, and were taken from it by several workers.
use Rattle.std.specs.Prelude.{◌≡◌, ◌<◌, ℕ, List, [], ◌∷◌, map, filter, length, ◌==◌, slice_get, Some, All}
use Rattle.std.specs.List.{count_by, AllByRecursion}
use Rattle.hist_log.specs.declared.entry.Entry.{Entry}
use Rattle.hist_log.specs.History.{operations, IsLegal}
use Rattle.hist_log.specs.declared.numbered.NumberedCall.{NumberedCall}
use Rattle.hist_log.specs.Numbers.{numbers, inner}

-- each number is above those before it
abbrev pub AreRising : List ℕ → Type 0
AreRising [] = Unit {0}
AreRising (x ∷ xs) = AllByRecursion (λ y. x < y) xs × AreRising xs

-- the place of an entry's call
abbrev pub place_of : {O C R : Type 0} → Entry O (NumberedCall C) R → ℕ
place_of e = e.call.at

-- the places of a worker's entries, in their order
abbrev pub places_of : {O C R : Type 0} → ℕ → List (Entry O (NumberedCall C) R) → List ℕ
places_of worker entries = map place_of (filter (λ e. e.worker == worker) entries)

-- A history of these calls: each stands there once, with its place; the places of each worker's entries rise; and each reply
-- is the object's answer after the entries before it. Who made which call is left open.
pub record IsPoolHistory {O C R : Type 0} (call_numbers : C → List ℕ) (reply_numbers : R → List ℕ) (reply_at state_after : List ℕ → List ℕ → List ℕ)
    (opening : List ℕ) (calls : List C) (entries : List (Entry O (NumberedCall C) R)) : Type 0 where
  pub legal : IsLegal (λ state call. reply_at state (inner call)) (λ state call. state_after state (inner call)) opening
      (operations (numbers call_numbers) reply_numbers entries)
  pub each_once : (place : ℕ) → place < length calls → count_by (λ e. place_of e == place) entries ≡ 1
  pub as_listed : All (λ e. slice_get calls e.call.at ≡ Some e.call.call) entries
  pub rising : (worker : ℕ) → AreRising (places_of worker entries)
