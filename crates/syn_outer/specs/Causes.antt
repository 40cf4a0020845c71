-- When a fault may be answered: only where the count of faults has risen in the call.
use Rattle.std.specs.Prelude.{◌≡◌, ℕ, ◌+◌, ◌-◌, ◌^◌, ◌≤◌, min, ⊤, None, Some, Option, Result, Ok, Err, OnOk, OnErr}

-- a count that stands still at its last value
abbrev pub raised : ℕ → ℕ
raised count = min (count + 1) (2 ^ 64 - 1)

-- a count has risen, or stands at its last value
abbrev pub Rose : ℕ → ℕ → Type 0
Rose before now = raised before ≤ now

-- a count never falls, stands still at `Ok`, and an `Err` comes only where it rose
pub record HasCause {T E : Type 0} (before now : ℕ) (result : Result T E) : Type 0 where
  pub later : before ≤ now
  pub kept : OnOk result (now ≡ before)
  pub failed : OnErr result (Rose before now)

-- the count of faults after an answer: an `Err` is one more
abbrev pub counted_faults : {T E : Type 0} → ℕ → Result T E → ℕ
counted_faults before (Ok _) = before
counted_faults before (Err _) = raised before

-- how many bytes an answer has moved: none at `Err`
abbrev pub moved : {E : Type 0} → Result ℕ E → ℕ
moved (Ok n) = n
moved (Err _) = 0

-- a count of calls, where it is told, is one more after a call
abbrev pub CountsCall : Option ℕ → Option ℕ → Type 0
CountsCall None now = ⊤
CountsCall (Some before) now = now ≡ Some (raised before)

-- at most so many calls were made, where they are counted
abbrev pub CallsAtMost : ℕ → Option ℕ → Option ℕ → Type 0
CallsAtMost most None now = ⊤
CallsAtMost most (Some before) now = (after : ℕ) × (now ≡ Some after) × (after ≤ before + most)
