-- A pass that looked in vain, or that sleeps: its next step would change nothing.
use Rattle.std.proofs.Common.{◌≡◌, ◌⊎◌, inl, inr, ℕ, zero, suc, ◌%◌, ◌==◌, ◌&&◌, ◌||◌, Bool, true, false, cond, Some, refl, sym, ap, subst, ◌∙◌, true≢false}
use Rattle.shfl_line.specs.Words.{held_of, ready_of, shuffler_of, batch_of}
use Rattle.shfl_line.specs.declared.events.Mode.{Mode}
use Rattle.shfl_line.specs.declared.events.Mode.TheVariants.{Write, Read}
use Rattle.shfl_core.specs.declared.phase.Phase.{Phase}
use Rattle.shfl_core.specs.declared.phase.Phase.TheVariants as phases
use Rattle.shfl_core.specs.declared.phase.Nap.{Nap}
use Rattle.shfl_core.specs.declared.phase.Nap.TheVariants as naps
use Rattle.shfl_core.specs.declared.phase.PassState.{PassState}
use Rattle.shfl_core.specs.declared.phase.Registers.{Registers}
use Rattle.shfl_core.specs.declared.phase.Rules.{Rules}
use Rattle.shfl_core.specs.declared.words.Word.{Word}
use Rattle.shfl_core.specs.declared.words.Word.TheVariants.{Lock, State, Bell}
use Rattle.shfl_core.specs.Plan.{plan, plan_at, plan_by, parks, shares}
use Rattle.shfl_core.specs.Runner.{is_parked}
use Rattle.shfl_core.specs.Take.{to, seek, looked, heir_found, take, take_at, take_by}
use Rattle.shfl_core.specs.Words.{site, put, free_for}
use Rattle.sim_setup.specs.Places.{rung}
use Rattle.sim_model.specs.Steps.{at_look, at_peek, at_head_look, at_late, is_same_look, is_awake}

-- with n in its word, the step would change neither the word nor the pass
pub record Quiet (t : Rules) (p n : ℕ) (q : PassState) : Type 0 where
  pub word : put (plan t p q) n ≡ n
  pub own : (c : Bool) → take t p q n c ≡ q

-- a pass stays at a phase, awake, with these registers
abbrev pub stays : Phase → Registers → PassState
stays f r = record { phase = f; reg = r; nap = naps.Awake }

not-yes : {A : Type 0} → false ≡ true → A
not-yes e = absurd (true≢false (sym e))

-- each of the four looks: where it was in vain the pass is where it was, but for what it has read

no-seek : (m : Mode) → at_look (seek m) ≡ true → ⊥
no-seek Write e = not-yes e
no-seek Read e = not-yes e

top-no-look : (b : Bool) (r : Registers) → at_look (cond b (to phases.Begin (record r { headed = true })) (to (seek r.mode) r)).phase ≡ true → ⊥
top-no-look true r e = not-yes e
top-no-look false r e = no-seek r.mode e

dozes-or-stays : (b : Bool) (r : Registers) → is_awake (cond b naps.Doze naps.Awake) ≡ true
    → record { phase = phases.Look; reg = r; nap = cond b naps.Doze naps.Awake } ≡ stays phases.Look r
dozes-or-stays true r e = not-yes e
dozes-or-stays false r e = refl

waits-or-begins : (t : Rules) (r : Registers) (flag : Bool)
    → at_look (cond flag (to phases.Begin (record r { headed = false })) (record { phase = phases.Look; reg = r; nap = cond (parks t.form && (r.batch == 0)) naps.Doze naps.Awake })).phase ≡ true
    → is_awake (cond flag (to phases.Begin (record r { headed = false })) (record { phase = phases.Look; reg = r; nap = cond (parks t.form && (r.batch == 0)) naps.Doze naps.Awake })).nap ≡ true
    → cond flag (to phases.Begin (record r { headed = false })) (record { phase = phases.Look; reg = r; nap = cond (parks t.form && (r.batch == 0)) naps.Doze naps.Awake }) ≡ stays phases.Look r
waits-or-begins t r true e a = not-yes e
waits-or-begins t r false e a = dozes-or-stays (parks t.form && (r.batch == 0)) r a

looked-stays : (t : Rules) (r : Registers) (ready : Bool) → at_look (looked t r ready).phase ≡ true → is_awake (looked t r ready).nap ≡ true → looked t r ready ≡ stays phases.Look r
looked-stays t r true e a = absurd (top-no-look ((r.batch == 0) || r.flag) r e)
looked-stays t r false e a = waits-or-begins t r r.flag e a

peeked-by : (b : Bool) (x : Phase) (r r' : Registers) → at_peek x ≡ false → at_peek (cond b (to x r') (to phases.Peek r)).phase ≡ true
    → cond b (to x r') (to phases.Peek r) ≡ stays phases.Peek r
peeked-by true x r r' elsewhere e = absurd (true≢false (sym e ∙ elsewhere))
peeked-by false x r r' elsewhere e = refl

grabs : (b : Bool) → at_peek (cond b phases.WriteGrab phases.Grab) ≡ false
grabs true = refl
grabs false = refl

head-stays : (b : Bool) (r : Registers) → at_head_look (cond b phases.HeadLook phases.Take) ≡ true → to (cond b phases.HeadLook phases.Take) r ≡ stays phases.HeadLook r
head-stays true r e = refl
head-stays false r e = not-yes e

late-stays : (r : Registers) (n : ℕ) → at_late (heir_found phases.Late r n).phase ≡ true → (n ≡ 0) × (heir_found phases.Late r n ≡ stays phases.Late r)
late-stays r zero e = (refl, refl)
late-stays r (suc q) e = not-yes e

-- where a look was in vain, the word is as before, and the next look would be too
pub record Looked (t : Rules) (p n : ℕ) (c : Bool) (f : Phase) (r : Registers) : Type 0 where
  pub same : put (plan_at t p r f) n ≡ n
  pub site_same : site (plan t p (take_at t p r n c f)) ≡ site (plan_at t p r f)
  pub quiet : Quiet t p n (take_at t p r n c f)

-- the pass stays, and its next step is the same again
again : (t : Rules) (p n : ℕ) (c : Bool) (f : Phase) (r r' : Registers) → take_at t p r n c f ≡ stays f r' → put (plan_at t p r f) n ≡ n → put (plan_at t p r' f) n ≡ n
    → site (plan_at t p r' f) ≡ site (plan_at t p r f) → ((d : Bool) → take_at t p r' n d f ≡ stays f r') → Looked t p n c f r
again t p n c f r r' e word word' place next = record {
  same = word;
  site_same = ap (λ (x : PassState). site (plan t p x)) e ∙ place;
  quiet = subst (Quiet t p n) (sym e) (record { word = word'; own = next });
}

pub looked-quiet : (t : Rules) (p n : ℕ) (c : Bool) (f : Phase) (r : Registers) → is_same_look f (take_at t p r n c f).phase ≡ true → is_awake (take_at t p r n c f).nap ≡ true → Looked t p n c f r
looked-quiet t p n c phases.Look r e a =
    let r' : Registers = record r { batch = batch_of n % 65536; flag = shuffler_of n } in
    let s = looked-stays t r' (ready_of n) e a in again t p n c phases.Look r r' s refl refl refl (λ d. s)
looked-quiet t p n c phases.Peek r e a =
    let s = peeked-by (free_for Write n) (cond (shares t.form) phases.WriteGrab phases.Grab) r (record r { saw = n }) (grabs (shares t.form)) e in
    again t p n c phases.Peek r r s refl refl refl (λ d. s)
looked-quiet t p n c phases.HeadLook r e a =
    let s = head-stays (held_of n) r e in again t p n c phases.HeadLook r r s refl refl refl (λ d. s)
looked-quiet t p n c phases.Late r e a =
    let s = late-stays r n e in again t p n c phases.Late r r s.1 (sym s.0) (sym s.0) refl (λ d. s.1)
looked-quiet t p n c _ r e a = not-yes e

-- a pass that was parked and still is

still-parked : (b : Bool) → is_parked (cond b naps.Rouse naps.Hear) ≡ true → b ≡ false
still-parked true e = not-yes e
still-parked false e = refl

-- the pass found its wakeup word unset, and sleeps on: so it will again, with nothing in the word
pub parked-quiet : (t : Rules) (p n : ℕ) (c : Bool) (f : Phase) (r : Registers) → is_parked (take_by t p r n c naps.Hear f).nap ≡ true
    → (take_by t p r n c naps.Hear f ≡ record { phase = f; reg = r; nap = naps.Hear }) × Quiet t p 0 (record { phase = f; reg = r; nap = naps.Hear })
parked-quiet t p n c f r e = let unset : (n == 1) ≡ false = still-parked (n == 1) e in
    (ap (λ b. record { phase = f; reg = r; nap = cond b naps.Rouse naps.Hear }) unset, record { word = refl; own = λ d. refl })

-- only the pass itself and who wakes it touch its wakeup word

no-bell-either : (b : Bool) (v w : Word) (k : ℕ) → (v ≡ Bell k → ⊥) → (w ≡ Bell k → ⊥) → cond b v w ≡ Bell k → ⊥
no-bell-either true v w k a b e = a e
no-bell-either false v w k a b e = b e

no-bell : (t : Rules) (p : ℕ) (r : Registers) (f : Phase) (k : ℕ) → site (plan_at t p r f) ≡ Bell k → ⊥
no-bell t p r phases.Decide k e = no-bell-either r.headed Lock (State p) k (λ h. let no : ⊥ = cc in no) (λ h. let no : ⊥ = cc in no) e
no-bell t p r _ k e = let no : ⊥ = cc in no

bell-by : (t : Rules) (p : ℕ) (r : Registers) (z : Nap) (f : Phase) (k : ℕ) → site (plan_by t p r z f) ≡ Bell k → (p ≡ k) ⊎ (rung (plan_by t p r z f) ≡ Some k)
bell-by t p r naps.Awake f k e = absurd (no-bell t p r f k e)
bell-by t p r naps.Doze f k e = absurd (let no : ⊥ = cc in no)
bell-by t p r naps.Hear f k e = inl (let own : p ≡ k = cc in own)
bell-by t p r naps.Rouse f k e = absurd (let no : ⊥ = cc in no)
bell-by t p r (naps.Ring whom) f k e = inr (let who : whom ≡ k = cc in ap Some who)

-- a step on a wakeup word is that pass's own, or wakes it
pub bell-case : (t : Rules) (p : ℕ) (q : PassState) (k : ℕ) → site (plan t p q) ≡ Bell k → (p ≡ k) ⊎ (rung (plan t p q) ≡ Some k)
bell-case t p q k e = bell-by t p q.reg q.nap q.phase k e
