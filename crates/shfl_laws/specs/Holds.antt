-- Which hold a pass has, which phases end it, and what a step keeps of both.
use Rattle.std.specs.Prelude.{◌≡◌, ◌≢◌, ℕ, Bool, true, false, cond, Option, Some, None}
use Rattle.shfl_line.specs.declared.events.Form.{Form}
use Rattle.shfl_line.specs.declared.events.Mode.{Mode}
use Rattle.shfl_line.specs.declared.events.Mode.TheVariants.{Write}
use Rattle.shfl_core.specs.declared.phase.Phase.{Phase}
use Rattle.shfl_core.specs.declared.phase.Phase.TheVariants.{Idle, Release, TryUncount, ReadRelease}
use Rattle.shfl_core.specs.declared.phase.Registers.{Registers}
use Rattle.shfl_core.specs.declared.phase.PassState.{PassState}
use Rattle.shfl_core.specs.declared.phase.Rules.{Rules}
use Rattle.shfl_core.specs.Phases.{is_holding}
use Rattle.shfl_core.specs.Take.{take, attempted}
use Rattle.shfl_core.specs.Worlds.{World, known}
use Rattle.shfl_core.specs.Lawful.{Terms, Lawful}
use Rattle.shfl_laws.specs.Seen.{SeenAs}

-- the mode in which the pass holds the lock, or none
abbrev pub hold_of : PassState → Option Mode
hold_of q = cond (is_holding q.phase) (Some q.reg.mode) None

-- the next step of the pass gives the lock back
abbrev pub is_releasing : Phase → Bool
is_releasing Release = true
is_releasing ReadRelease = true
is_releasing _ = false

-- the pass is idle, or its next step makes it so
abbrev pub is_ending : Phase → Bool
is_ending Idle = true
is_ending Release = true
is_ending TryUncount = true
is_ending ReadRelease = true
is_ending _ = false

-- who writes holds alone
abbrev pub WriterAlone : Terms → Type 0
WriterAlone t = (w : World) → Lawful t w → (p q : ℕ) → hold_of (known w.passes p) ≡ Some Write → q ≢ p → hold_of (known w.passes q) ≡ None

-- a pass holds as it is seen to hold
abbrev pub HoldsAsSeen : Form → Type 0
HoldsAsSeen form = (own seen : PassState) → SeenAs form own seen → hold_of own ≡ hold_of seen

-- a step keeps its pass's mode
abbrev pub StepKeepsMode : Type 0
StepKeepsMode = (t : Rules) (p : ℕ) (q : PassState) (found : ℕ) (choice : Bool) → (take t p q found choice).reg.mode ≡ q.reg.mode

-- only a step that gives the lock back ends a hold
abbrev pub OnlyReleaseFrees : Type 0
OnlyReleaseFrees = (t : Rules) (p : ℕ) (q : PassState) (found : ℕ) (choice : Bool) (m : Mode)
    → hold_of q ≡ Some m → hold_of (take t p q found choice) ≡ None → is_releasing q.phase ≡ true

-- no step and no attempt leads to one that gives the lock back: where a pass is about to, it was so before, and parked
pub record NoneLeadsToRelease : Type 0 where
  pub steps : (t : Rules) (p : ℕ) (q : PassState) (found : ℕ) (choice : Bool) → is_releasing (take t p q found choice).phase ≡ true → (take t p q found choice).phase ≡ q.phase
  pub attempts : (mode : Mode) (r : Registers) (found : ℕ) → is_releasing (attempted mode r found).phase ≡ false

-- no step of a pass that waits for the lock or holds it makes it idle
abbrev pub WaitsOn : Type 0
WaitsOn = (t : Rules) (p : ℕ) (q : PassState) (found : ℕ) (choice : Bool) → is_ending q.phase ≡ false → is_ending (take t p q found choice).phase ≡ false
