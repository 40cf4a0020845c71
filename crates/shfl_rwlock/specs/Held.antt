-- The locks that a seat has, each with its mode, the one taken last in front.
use Rattle.std.specs.Prelude.{◌≡◌, ℕ, ◌<◌, List, [], ◌∷◌, None}
use Rattle.shfl_line.specs.declared.events.Mode.{Mode}
use Rattle.shfl_arena.specs.Threads.{mode_held}

-- no lock stands twice
abbrev pub AreApart : List (ℕ × Mode) → Type 0
AreApart [] = Unit {0}
AreApart (h ∷ hs) = (mode_held h.0 hs ≡ None) × AreApart hs

-- and there are more than its number
abbrev pub AreBelow : ℕ → List (ℕ × Mode) → Type 0
AreBelow n [] = Unit {0}
AreBelow n (h ∷ hs) = (h.0 < n) × AreBelow n hs
