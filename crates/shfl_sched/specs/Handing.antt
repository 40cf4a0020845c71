-- A report that goes to a sink in pieces.
use Rattle.std.specs.Prelude.{◌≡◌, ℕ, ◌+◌, ◌<◌, List, [], ◌++◌, length, take, Option}
use Rattle.syn_outer.specs.Causes.{Rose}
use Rattle.syn_outer.specs.Bytes.{Took}
use Rattle.shfl_sched.specs.declared.handing.RunError.{RunError}
use Rattle.shfl_sched.specs.declared.handing.RunError.TheVariants.{NoMemory, Write}

-- a text isn't written whole: nothing of it for want of memory, or a front of it, since the sink failed
abbrev pub Stops : RunError → Option (List ℕ) → Option (List ℕ) → ℕ → ℕ → List ℕ → Type 0
Stops NoMemory before after faults_before faults_after text = Took before after []
Stops (Write written) before after faults_before faults_after text =
    Took before after (take written text) × (written < length text) × Rose faults_before faults_after

-- a front of a text was sent behind so many bytes, and the rest stays
abbrev pub HandsOn : Option (List ℕ) → Option (List ℕ) → ℕ → ℕ → List ℕ → List ℕ → Type 0
HandsOn before after sent sent' text text' =
    (piece : List ℕ) × (text ≡ piece ++ text') × (sent' ≡ sent + length piece) × Took before after piece

-- the sink failed in a text behind so many bytes
abbrev pub StopsAfter : ℕ → RunError → Option (List ℕ) → Option (List ℕ) → ℕ → ℕ → List ℕ → Type 0
StopsAfter sent NoMemory before after faults_before faults_after text = ⊥
StopsAfter sent (Write written) before after faults_before faults_after text =
    (n : ℕ) × (written ≡ sent + n) × Stops (Write n) before after faults_before faults_after text
