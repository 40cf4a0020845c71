-- A step and an attempt keep the number of their pass.
use Rattle.std.proofs.Common.{◌≡◌, ℕ, zero, suc, ◌%◌, Bool, true, false, cond, refl}
use Rattle.std.specs.Prelude.{◌==◌, ◌||◌, nat_lt}
use Rattle.shfl_line.specs.declared.events.Mode.{Mode}
use Rattle.shfl_line.specs.declared.events.Mode.TheVariants.{Write, Read}
use Rattle.shfl_line.specs.Words.{held_of, closed_of, ready_of, shuffler_of, batch_of}
use Rattle.shfl_core.specs.declared.phase.Phase.{Phase}
use Rattle.shfl_core.specs.declared.phase.Phase.TheVariants.{Swap, Close, Look, Begin, Next, Decide, After, Peek, Grab, WriteGrab, Take, Late}
use Rattle.shfl_core.specs.declared.phase.Registers.{Registers}
use Rattle.shfl_core.specs.declared.phase.Nap.{Nap}
use Rattle.shfl_core.specs.declared.phase.Nap.TheVariants.{Awake, Doze, Hear, Rouse, Ring}
use Rattle.shfl_core.specs.declared.phase.PassState.{PassState}
use Rattle.shfl_core.specs.declared.phase.Rules.{Rules}
use Rattle.shfl_core.specs.Words.{free_for}
use Rattle.shfl_core.specs.Plan.{round_batch, shares}
use Rattle.shfl_core.specs.Take.{take, take_at, take_by, top, to, looked, begun, decided, stops, attempted}

-- a step keeps the number of its pass
pick : (b : Bool) (x y : PassState) (m : ℕ) → x.reg.me ≡ m → y.reg.me ≡ m → (cond b x y).reg.me ≡ m
pick true x y m a b = a
pick false x y m a b = b

top-number : (r : Registers) → (top r).reg.me ≡ r.me
top-number r = pick ((r.batch == 0) || r.flag) _ _ r.me refl refl

look-number : (t : Rules) (r : Registers) (b : Bool) → (looked t r b).reg.me ≡ r.me
look-number t r true = top-number r
look-number t r false = pick r.flag _ _ r.me refl refl

begun-number : (t : Rules) (p : ℕ) (r : Registers) (b : Bool) → (begun t p r b).reg.me ≡ r.me
begun-number t p r b = pick (nat_lt r.batch t.limit) _ _ r.me refl refl

decided-number : (r : Registers) (a b : Bool) → (decided r a b).reg.me ≡ r.me
decided-number r a b = pick a _ _ r.me refl (pick b _ _ r.me refl refl)

take-number-at : (t : Rules) (p : ℕ) (r : Registers) (n : ℕ) (c : Bool) (f : Phase) → (take_at t p r n c f).reg.me ≡ r.me
take-number-at t p r zero c Swap = refl
take-number-at t p r (suc n) c Swap = refl
take-number-at t p r n c Close = top-number r
take-number-at t p r n c Look = look-number t (record r { batch = batch_of n % 65536; flag = shuffler_of n }) (ready_of n)
take-number-at t p r n c Begin = begun-number t p (record r { batch = round_batch r; flag = false }) c
take-number-at t p r zero c Next = refl
take-number-at t p r (suc n) c Next = refl
take-number-at t p r n c Decide = decided-number r (stops r n) c
take-number-at t p r zero c After = refl
take-number-at t p r (suc n) c After = refl
take-number-at t p r n c Peek = pick (free_for Write n) (to (cond (shares t.form) WriteGrab Grab) (record r { saw = n })) (to Peek r) r.me refl refl
take-number-at t p r n c Grab = pick (held_of n) (top r) (to Take r) r.me (top-number r) refl
take-number-at t p r n c WriteGrab = pick (n == r.saw) (to Take r) (top r) r.me refl (top-number r)
take-number-at t p r zero c Take = refl
take-number-at t p r (suc n) c Take = refl
take-number-at t p r zero c Late = refl
take-number-at t p r (suc n) c Late = refl
take-number-at t p r n c _ = refl

take-number-by : (t : Rules) (p : ℕ) (r : Registers) (n : ℕ) (c : Bool) (z : Nap) (f : Phase) → (take_by t p r n c z f).reg.me ≡ r.me
take-number-by t p r n c Awake f = take-number-at t p r n c f
take-number-by t p r n c Doze f = refl
take-number-by t p r n c Hear f = refl
take-number-by t p r n c Rouse f = refl
take-number-by t p r n c (Ring whom) f = refl

pub take-number : (t : Rules) (p : ℕ) (q : PassState) (n : ℕ) (c : Bool) → (take t p q n c).reg.me ≡ q.reg.me
take-number t p q n c = take-number-by t p q.reg n c q.nap q.phase

pub attempt-number : (mode : Mode) (r : Registers) (n : ℕ) → (attempted mode r n).reg.me ≡ r.me
attempt-number Write r n = pick (n == 0) _ _ r.me refl refl
attempt-number Read r n = pick (held_of n || closed_of n) _ _ r.me refl refl
