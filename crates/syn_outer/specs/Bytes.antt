-- Which bytes a source gave and a sink took, where they tell that.
use Rattle.std.specs.Prelude.{◌≡◌, ◌-◌, ◌<◌, ◌≤◌, ℕ, List, [], ◌++◌, length, take, ⊤, None, Some, Option, Result, MatchResult}
use Rattle.std.specs.Io.KnownBytes.{Consumes, IsAtEnd}

-- A sink took these bytes. One that tells nothing goes on telling nothing, and one may stop to tell.
abbrev pub Took : Option (List ℕ) → Option (List ℕ) → List ℕ → Type 0
Took None None bytes = ⊤
Took None (Some now) bytes = ⊥
Took (Some before) None bytes = ⊤
Took (Some before) (Some now) bytes = now ≡ before ++ bytes

-- a sink took the front of n bytes at `Ok(n)`, and nothing at `Err`
abbrev pub TookFront : {E : Type 0} → Option (List ℕ) → Option (List ℕ) → Result ℕ E → List ℕ → Type 0
TookFront before now result bytes = MatchResult result (λ n. Took before now (take n bytes)) (λ _. Took before now [])

-- all that a source had left was read, and it was at most so much
pub record ReadsWhole (limit : ℕ) (before now : Option (List ℕ)) (bytes : List ℕ) : Type 0 where
  pub taken : Consumes before now bytes
  pub ended : IsAtEnd now
  pub within : length bytes ≤ limit

-- more than so many bytes were taken from a source
abbrev pub ConsumesMoreThan : ℕ → Option (List ℕ) → Option (List ℕ) → Type 0
ConsumesMoreThan limit before now = (bytes : List ℕ) × (limit < length bytes) × Consumes before now bytes

-- at most so many were
abbrev pub ConsumesAtMost : ℕ → Option (List ℕ) → Option (List ℕ) → Type 0
ConsumesAtMost limit before now = (bytes : List ℕ) × (length bytes ≤ limit) × Consumes before now bytes

-- what a sink over memory keeps of these bytes: those for which it has room
abbrev pub KeepsWhatFits : List ℕ → List ℕ → ℕ → List ℕ → Type 0
KeepsWhatFits before now room bytes = now ≡ before ++ take (room - length before) bytes
