-- What an operation tells, and that a step that stores looks at nothing.
use Rattle.std.proofs.Common.{◌≡◌, ℕ, Bool, false, refl}
use Rattle.shfl_core.specs.declared.phase.Phase.{Phase}
use Rattle.shfl_core.specs.declared.phase.Phase.TheVariants.{Idle}
use Rattle.shfl_core.specs.declared.phase.Registers.{Registers}
use Rattle.shfl_core.specs.declared.phase.Nap.{Nap}
use Rattle.shfl_core.specs.declared.phase.Nap.TheVariants.{Awake, Doze, Hear, Rouse, Ring}
use Rattle.shfl_core.specs.declared.phase.PassState.{PassState}
use Rattle.shfl_core.specs.declared.phase.Rules.{Rules}
use Rattle.shfl_core.specs.declared.words.Word.{Word}
use Rattle.shfl_core.specs.declared.words.Word.TheVariants.{Lock, Tail, Next, State, Attr, Bell}
use Rattle.shfl_core.specs.declared.words.Access.{Access}
use Rattle.shfl_core.specs.declared.words.Access.TheVariants.{Load, Store, Swap, CompareSwap, Or, And, Xor, Add, Sub}
use Rattle.shfl_core.specs.Words.{told, is_store, NamesPass}
use Rattle.shfl_core.specs.Lawful.{Formed}
use Rattle.shfl_core.specs.Plan.{plan, plan_at, plan_by}
use Rattle.shfl_core.specs.Take.{take, take_at, take_by}

blind-at : (t : Rules) (p : ℕ) (r : Registers) (n : ℕ) (c : Bool) (f : Phase) → take_at t p r (told (plan_at t p r f) n) c f ≡ take_at t p r n c f
blind-at t p r n c Idle = refl
blind-at t p r n c _ = refl

blind-by : (t : Rules) (p : ℕ) (r : Registers) (n : ℕ) (c : Bool) (z : Nap) (f : Phase) → take_by t p r (told (plan_by t p r z f) n) c z f ≡ take_by t p r n c z f
blind-by t p r n c Awake f = blind-at t p r n c f
blind-by t p r n c Doze f = refl
blind-by t p r n c Hear f = refl
blind-by t p r n c Rouse f = refl
blind-by t p r n c (Ring whom) f = refl

-- what a step tells serves its `take` as well as what it found
pub store-blind : (t : Rules) (p : ℕ) (q : PassState) (n : ℕ) (c : Bool) → take t p q (told (plan t p q) n) c ≡ take t p q n c
store-blind t p q n c = blind-by t p q.reg n c q.nap q.phase

-- what an operation that doesn't store tells is what it found
pub told-found : (a : Access) (n : ℕ) → is_store a ≡ false → told a n ≡ n
told-found (Load w) n e = refl
told-found (Store w v) n e = absurd (cc)
told-found (Swap w v) n e = refl
told-found (CompareSwap w old new) n e = refl
told-found (Or w v) n e = refl
told-found (And w v) n e = refl
told-found (Xor w v) n e = refl
told-found (Add w v) n e = refl
told-found (Sub w v) n e = refl

-- what has its word's form names a pass where it should
pub formed-names : (w : Word) (n : ℕ) → Formed w n → NamesPass w n
formed-names Lock n f = tt
formed-names Tail n f = f
formed-names (Next p) n f = f
formed-names (State p) n f = tt
formed-names (Attr p) n f = tt
formed-names (Bell p) n f = tt
