-- In a form that doesn't park, a pass that is awake stays awake.
use Rattle.std.proofs.Common.{◌≡◌, ℕ, zero, suc, Bool, true, false, cond, ◌==◌, ◌%◌, refl, sym, subst}
use Rattle.std.specs.Prelude.{◌&&◌, ◌||◌, not, nat_lt}
use Rattle.shfl_line.specs.declared.events.Mode.{Mode}
use Rattle.shfl_line.specs.declared.events.Mode.TheVariants.{Write}
use Rattle.shfl_line.specs.Words.{held_of, ready_of, shuffler_of, parked_of, spin_of, batch_of}
use Rattle.shfl_core.specs.declared.phase.Phase.{Phase}
use Rattle.shfl_core.specs.declared.phase.Phase.TheVariants.{Idle, Swap, Close, Look, Begin, Next, Decide, After, Mark, Give, Peek, Grab, WriteGrab, Take, Cut, Late, Ready, Held}
use Rattle.shfl_core.specs.declared.phase.Registers.{Registers}
use Rattle.shfl_core.specs.declared.phase.Nap.{Nap}
use Rattle.shfl_core.specs.declared.phase.Nap.TheVariants.{Awake, Doze, Ring}
use Rattle.shfl_core.specs.declared.phase.PassState.{PassState}
use Rattle.shfl_core.specs.declared.phase.Rules.{Rules}
use Rattle.shfl_core.specs.Words.{free_for}
use Rattle.shfl_core.specs.Plan.{parks, shares, round_batch, is_idle, is_resting}
use Rattle.shfl_core.specs.Take.{to, seek, top, done, swap_found, looked, next_found, stops, after_found, sleeps, heir_found, take_at, take_by, take, acquired, released, entry, exit}

nap-cond : (b : Bool) (x y : PassState) → x.nap ≡ Awake → y.nap ≡ Awake → (cond b x y).nap ≡ Awake
nap-cond true x y e f = e
nap-cond false x y e f = f

nap-top : (r : Registers) → (top r).nap ≡ Awake
nap-top r = nap-cond ((r.batch == 0) || r.flag) (to Begin (record r { headed = true })) (to (seek r.mode) r) refl refl

nap-swap : (r : Registers) (n : ℕ) → (swap_found r n).nap ≡ Awake
nap-swap r zero = refl
nap-swap r (suc n) = refl

nap-next : (r : Registers) (n : ℕ) → (next_found r n).nap ≡ Awake
nap-next r zero = refl
nap-next r (suc n) = refl

nap-after : (r : Registers) (n : ℕ) → (after_found r n).nap ≡ Awake
nap-after r zero = refl
nap-after r (suc n) = refl

nap-heir : (f : Phase) (r : Registers) (n : ℕ) → (heir_found f r n).nap ≡ Awake
nap-heir f r zero = refl
nap-heir f r (suc n) = refl

module _ (t : Rules) (spins : parks t.form ≡ false) (p : ℕ) (r : Registers) (n : ℕ) (c : Bool) where
  never : sleeps t n ≡ false
  never = λ j. spins j && parked_of n && not (ready_of n) && not (spin_of n)

  look-awake : (z : Registers) (b : Bool) → (looked t z b).nap ≡ Awake
  look-awake z true = nap-top z
  look-awake z false = nap-cond z.flag (to Begin (record z { headed = false })) (record { phase = Look; reg = z; nap = cond (parks t.form && (z.batch == 0)) Doze Awake }) refl (λ j. cond (spins j && (z.batch == 0)) Doze Awake)

  awake-at : (f : Phase) → (take_at t p r n c f).nap ≡ Awake
  awake-at Look = look-awake (record r { batch = batch_of n % 65536; flag = shuffler_of n }) (ready_of n)
  awake-at Mark = λ j. cond (never j) (Ring r.cand) Awake
  awake-at Ready = λ j. cond (never j) (Ring r.heir) Awake
  awake-at Swap = nap-swap r n
  awake-at Close = nap-top r
  awake-at Begin = let z : Registers = record r { batch = round_batch r; flag = false } in nap-cond (nat_lt z.batch t.limit) (to (cond c Give Next) (record z { prev = p; last = p; count = z.batch })) (to (done z) z) refl refl
  awake-at Next = nap-next r n
  awake-at Decide = nap-cond (stops r n) (to Give r) (cond c (to (cond (r.prev == r.last) Mark After) r) (to Next (record r { prev = r.cand }))) refl (nap-cond c (to (cond (r.prev == r.last) Mark After) r) (to Next (record r { prev = r.cand })) refl refl)
  awake-at After = nap-after r n
  awake-at Peek = nap-cond (free_for Write n) (to (cond (shares t.form) WriteGrab Grab) (record r { saw = n })) (to Peek r) refl refl
  awake-at Grab = nap-cond (held_of n) (top r) (to Take r) (nap-top r) refl
  awake-at WriteGrab = nap-cond (n == r.saw) (to Take r) (top r) refl (nap-top r)
  awake-at Take = nap-heir Cut r n
  awake-at Late = nap-heir Late r n
  awake-at Idle = refl
  awake-at Held = refl
  awake-at _ = refl

pub stays-awake : (t : Rules) → parks t.form ≡ false → (p : ℕ) (q : PassState) (n : ℕ) (c : Bool) → q.nap ≡ Awake → (take t p q n c).nap ≡ Awake
stays-awake t spins p q n c e = subst (λ (z : Nap). (take_by t p q.reg n c z q.phase).nap ≡ Awake) (sym e) (awake-at t spins p q.reg n c q.phase)

pub acquired-awake : (mode : Mode) (q : PassState) → q.nap ≡ Awake → (acquired mode q).nap ≡ Awake
acquired-awake mode q e = nap-cond (is_idle q.phase) (record q { phase = entry mode; reg = record q.reg { mode = mode } }) q e e

pub released-awake : (q : PassState) → q.nap ≡ Awake → (released q).nap ≡ Awake
released-awake q e = nap-cond (is_resting q) (record q { phase = exit q.reg.mode }) q e e
