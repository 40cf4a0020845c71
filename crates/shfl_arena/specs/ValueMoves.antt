-- Values behind the locks: a lock that nobody holds as a writer has its value at home, and an operation moves no other value.
use Rattle.std.specs.Prelude.{◌≡◌, ℕ, ◌<◌, ◌≤◌, ◌&&◌, Bool, true, false, List, ◌∷◌, length, Option, Some, None}
use mathlib.Core.Option.{some}
use lib.ListN.{get_elem?}
use Rattle.atomic_table.specs.Table.{rest}
use Rattle.shfl_line.specs.Line.{is_write}
use Rattle.shfl_core.specs.declared.phase.PassState.{PassState}
use Rattle.shfl_core.specs.Phases.{is_holding}
use Rattle.shfl_arena.specs.declared.view.ThreadView.{ThreadView}
use Rattle.shfl_arena.specs.Threads.{thread_at, pass_at}

-- the pass holds its lock as a writer
abbrev pub writes : PassState → Bool
writes q = is_holding q.phase && is_write q.reg.mode

abbrev pub NobodyWrites : ℕ → List ThreadView → Type 0
NobodyWrites l threads = (k : ℕ) → writes (pass_at l k (thread_at threads k)) ≡ false

-- the slots of the table, one for each of the first locks, each with its value unless that is out
abbrev pub Homes : Type 0 → Type 0
Homes V = List (mathlib.Core.Option.Option (Option V))

abbrev pub AreHome : {V : Type 0} → List ThreadView → Homes V → Type 0
AreHome {V} threads homes = (l : ℕ) → l < length homes → NobodyWrites l threads → (x : V) × (get_elem? homes l ≡ some (some (Some x)))

-- what an operation at the lock l does with the values that its thread carries, the one taken last in front: by whether the pass wrote
-- before, and writes then
pub record MovesValue {V : Type 0} (slots l : ℕ) (before after : Bool) (old new : List (ℕ × Option V)) : Type 0 where
  pub stays : before ≡ after → new ≡ old
  pub none : slots ≤ l → new ≡ old
  pub gains : l < slots → before ≡ false → after ≡ true → (x : V) × (new ≡ (l, Some x) ∷ old)
  pub frees : l < slots → before ≡ true → after ≡ false → new ≡ rest old

-- whoever gives a lock with a value back has the value, and in front
abbrev pub HasInFront : {V : Type 0} → ℕ → List (ℕ × Option V) → Type 0
HasInFront {V} l carried = (x : V) × (carried ≡ (l, Some x) ∷ rest carried)

-- the value in front is that of the lock l, and it was taken out
abbrev pub IsOutInFront : {V : Type 0} → ℕ → List (ℕ × Option V) → Type 0
IsOutInFront {V} l carried = carried ≡ (l, None) ∷ rest carried

abbrev pub MayGive : {V : Type 0} → ℕ → ℕ → Bool → Bool → List (ℕ × Option V) → Type 0
MayGive slots l before after carried = l < slots → before ≡ true → after ≡ false → HasInFront l carried
