-- The rows of parking, beside the steps of the waiter inside, are those of the form that parks.
use Rattle.std.proofs.Common.{◌≡◌, ℕ, ◌-◌, ◌*◌, ◌/◌, ◌%◌, ◌==◌, Bool, true, false, cond, refl, sym, ap, ◌∙◌, subst, arith}
use Rattle.std.specs.Prelude.{◌≢◌, ◌&&◌, not, nat_lt}
use Rattle.shfl_line.specs.declared.events.Form.{Form}
use Rattle.shfl_line.specs.declared.events.Form.TheVariants.{Spin, Rw, Park, RwPark}
use Rattle.shfl_line.specs.declared.events.Mode.TheVariants.{Write}
use Rattle.shfl_line.specs.Words.{ready_of, shuffler_of, parked_of, spin_of, batch_of}
use Rattle.shfl_core.specs.declared.phase.Phase.{Phase}
use Rattle.shfl_core.specs.declared.phase.Phase.TheVariants.{Idle, Look, Begin, Next, Decide, Mark, Give, Peek, Grab, WriteGrab, Ready, Held}
use Rattle.shfl_core.specs.declared.phase.Registers.{Registers}
use Rattle.shfl_core.specs.declared.phase.Nap.{Nap}
use Rattle.shfl_core.specs.declared.phase.Nap.TheVariants.{Awake, Doze, Hear, Rouse, Ring}
use Rattle.shfl_core.specs.declared.phase.Rules.{Rules}
use Rattle.shfl_core.specs.declared.words.Word.TheVariants.{Lock, State}
use Rattle.shfl_core.specs.Words.{site, free_for}
use Rattle.shfl_core.specs.Plan.{parks, shares, round_batch, plan_at, plan_by}
use Rattle.shfl_core.specs.Take.{to, done, looked, begun, decided, stops, peeked, sleeps, take_at, take_by, take}
use Rattle.shfl_core.specs.Waiting.{Meaning, next_access, takes}
use Rattle.shfl_core.proofs.StaysAwake.{stays-awake}
use Rattle.shfl_park.specs.Parking.{parking, parked, Spins, cleared}

pub parks-now : (f : Form) → parks (parking f) ≡ true
parks-now Spin = refl
parks-now Rw = refl
parks-now Park = refl
parks-now RwPark = refl

shares-same : (f : Form) → shares (parking f) ≡ shares f
shares-same Spin = refl
shares-same Rw = refl
shares-same Park = refl
shares-same RwPark = refl

to-awake : (b : Bool) (f g : Phase) (x y : Registers) → (cond b (to f x) (to g y)).nap ≡ Awake
to-awake true f g x y = refl
to-awake false f g x y = refl

-- two rules that agree on parking lead to the same park states
module _ (s t : Rules) (same : parks s.form ≡ parks t.form) (p : ℕ) (r : Registers) (n : ℕ) (c : Bool) where
  nap-looked : (z : Registers) (b : Bool) → (looked s z b).nap ≡ (looked t z b).nap
  nap-looked z true = refl
  nap-looked z false = λ j. (cond z.flag (to Begin (record z { headed = false })) (record { phase = Look; reg = z; nap = cond (same j && (z.batch == 0)) Doze Awake })).nap

  nap-sleeps : (x : Nap) → cond (sleeps s n) x Awake ≡ cond (sleeps t n) x Awake
  nap-sleeps x = λ j. cond (same j && parked_of n && not (ready_of n) && not (spin_of n)) x Awake

  nap-at : (f : Phase) → (take_at s p r n c f).nap ≡ (take_at t p r n c f).nap
  nap-at Look = nap-looked (record r { batch = batch_of n % 65536; flag = shuffler_of n }) (ready_of n)
  nap-at Mark = nap-sleeps (Ring r.cand)
  nap-at Ready = nap-sleeps (Ring r.heir)
  nap-at Begin = let z : Registers = record r { batch = round_batch r; flag = false } in
      let awake : (u : Rules) → (begun u p z c).nap ≡ Awake = λ u. to-awake (nat_lt z.batch u.limit) (cond c Give Next) (done z) (record z { prev = p; last = p; count = z.batch }) z in awake s ∙ sym (awake t)
  nap-at Peek = let awake : (u : Rules) → (peeked u r n).nap ≡ Awake = λ u. to-awake (free_for Write n) (cond (shares u.form) WriteGrab Grab) Peek (record r { saw = n }) r in awake s ∙ sym (awake t)
  nap-at Idle = refl
  nap-at Held = refl
  nap-at _ = refl

abbrev outer : Rules → Rules
outer t = record t { form = parking t.form }

-- without the two bits of parking a state word says the same of all else
ready-same : (n : ℕ) → ready_of (n - n / 4 % 4 * 4) ≡ ready_of n
ready-same n = ap (λ z. z == 1) (let e : (n - n / 4 % 4 * 4) % 2 ≡ n % 2 = omega arith in e)

shuffler-same : (n : ℕ) → shuffler_of (n - n / 4 % 4 * 4) ≡ shuffler_of n
shuffler-same n = ap (λ z. z == 1) (let e : (n - n / 4 % 4 * 4) / 2 % 2 ≡ n / 2 % 2 = omega arith in e)

batch-same : (n : ℕ) → batch_of (n - n / 4 % 4 * 4) ≡ batch_of n
batch-same n = omega arith

-- but for its park state the waiter inside goes where the form that parks goes
module _ (t : Rules) (p : ℕ) (r : Registers) (n : ℕ) (c : Bool) (x : Nap) where
  inside-looked : (z : Registers) (b : Bool) → record (looked t z b) { nap = x } ≡ record (looked (outer t) z b) { nap = x }
  inside-looked z true = refl
  inside-looked z false = by z.flag (cond (parks t.form && (z.batch == 0)) Doze Awake) (cond (parks (parking t.form) && (z.batch == 0)) Doze Awake)
    where
      by : (k : Bool) (y y' : Nap) → record (cond k (to Begin (record z { headed = false })) (record { phase = Look; reg = z; nap = y })) { nap = x } ≡ record (cond k (to Begin (record z { headed = false })) (record { phase = Look; reg = z; nap = y' })) { nap = x }
      by true y y' = refl
      by false y y' = refl

  inside-stops : (b : Bool) → r.headed ≡ b → stops r (cleared (cond r.headed Lock (State p)) n) ≡ stops r n
  inside-stops true e = λ j. stops r (cleared (cond (e j) Lock (State p)) n)
  inside-stops false e = (λ j. cond (e j) (free_for r.mode (cleared (cond (e j) Lock (State p)) n)) (ready_of (cleared (cond (e j) Lock (State p)) n))) ∙ (ready-same n ∙ sym (λ j. cond (e j) (free_for r.mode n) (ready_of n)))

  inside : (f : Phase) → record (take_at t p r (cleared (site (plan_at t p r f)) n) c f) { nap = x } ≡ record (take_at (outer t) p r n c f) { nap = x }
  inside Look = (λ j. record (looked t (record r { batch = batch-same n j % 65536; flag = shuffler-same n j }) (ready-same n j)) { nap = x }) ∙ inside-looked (record r { batch = batch_of n % 65536; flag = shuffler_of n }) (ready_of n)
  inside Decide = ap (λ b. record (decided r b c) { nap = x }) (inside-stops r.headed refl)
  inside Peek = λ j. record (cond (free_for Write n) (to (cond (sym (shares-same t.form) j) WriteGrab Grab) (record r { saw = n })) (to Peek r)) { nap = x }
  inside Idle = refl
  inside Held = refl
  inside _ = refl

-- the waiter inside doesn't park after its step either
pub spins-on : (a : Meaning) (m : ℕ) (c : Bool) (a' : Meaning) → Spins a → a' ≡ takes a m c → Spins a'
spins-on a m c a' spins after = subst Spins (sym after) (record { form = spins.form; awake = stays-awake a.rules spins.form a.pass.reg.me a.pass m c spins.awake })

-- a step of the park state
pub take-napping : (s : Rules) (a : Meaning) (nap : Nap) (n : ℕ) (c : Bool) → nap ≢ Awake → parked a (take s a.pass.reg.me (record a.pass { nap = nap }) n c).nap ≡ takes (parked a nap) n c
take-napping s a Awake n c d = absurd (d refl)
take-napping s a Doze n c d = refl
take-napping s a Hear n c d = refl
take-napping s a Rouse n c d = refl
take-napping s a (Ring whom) n c d = refl

-- a step of the phase
pub take-awake : (s : Rules) → parks s.form ≡ true → (a : Meaning) (nap : Nap) (n : ℕ) (c : Bool) → Spins a → nap ≡ Awake
    → parked (takes a (cleared (site (next_access a)) n) c) (take s a.pass.reg.me (record a.pass { nap = nap }) n c).nap ≡ takes (parked a nap) n c
take-awake s e a nap n c spins awake = let t : Rules = a.rules in let p : ℕ = a.pass.reg.me in let r : Registers = a.pass.reg in let f : Phase = a.pass.phase in
    let goes : Nap × Nap → Type 0 = λ z. record (take_by t p r (cleared (site (plan_by t p r z.0 f)) n) c z.0 f) { nap = (take_by s p r n c z.1 f).nap } ≡ take_by (outer t) p r n c z.1 f in
    let met : goes (Awake, Awake) = inside t p r n c (take_at s p r n c f).nap f ∙ (λ j. record (take_at (outer t) p r n c f) { nap = nap-at s (outer t) (e ∙ sym (parks-now t.form)) p r n c f j }) in
    ap (λ q. record { attr = a.attr; rules = outer t; pass = q }) (subst goes (λ j. (sym spins.awake j, sym awake j)) met)
