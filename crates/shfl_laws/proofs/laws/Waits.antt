-- Where no step leads: from waiting or holding to idle, and to the steps that give the lock back.
use Rattle.std.proofs.Common.{◌≡◌, ℕ, zero, suc, ◌+◌, Bool, true, false, cond, refl}
use Rattle.std.specs.Prelude.{◌==◌, ◌||◌, ◌&&◌, ◌%◌, nat_lt}
use Rattle.shfl_line.specs.declared.events.Mode.{Mode}
use Rattle.shfl_core.specs.declared.phase.Phase.{Phase}
use Rattle.shfl_core.specs.declared.phase.Phase.TheVariants.{Idle, Steal, Init, Swap, Close, Look, Begin, Next, Tail, Attr, Decide, After, Mark, Give, Peek, Grab, WriteGrab, Take, Cut, Late, Open, Held, Release, Count, Uncount, TryUncount, HeadCount, HeadLook, ReadRelease}
use Rattle.shfl_core.specs.declared.phase.Registers.{Registers}
use Rattle.shfl_core.specs.declared.phase.Nap.{Nap}
use Rattle.shfl_core.specs.declared.phase.Nap.TheVariants.{Awake, Doze, Hear, Rouse, Ring}
use Rattle.shfl_core.specs.declared.phase.PassState.{PassState}
use Rattle.shfl_core.specs.declared.phase.Rules.{Rules}
use Rattle.shfl_core.specs.Take.{take_at, take_by, attempted, to, top, seek, done, looked, begun, decided, stops}
use Rattle.shfl_line.specs.declared.events.Mode.TheVariants.{Write, Read}
use Rattle.shfl_line.specs.Words.{held_of, closed_of, ready_of, shuffler_of, batch_of}
use Rattle.shfl_core.specs.Words.{free_for}
use Rattle.shfl_core.specs.Plan.{parks, shares, round_batch}
use Rattle.shfl_laws.specs.Holds.{is_releasing, is_ending, NoneLeadsToRelease, WaitsOn}

-- no step of a pass that took the lock, or waits for it, makes it idle: by its phase
pick : (b : Bool) (x y : PassState) → is_ending x.phase ≡ false → is_ending y.phase ≡ false → is_ending (cond b x y).phase ≡ false
pick true x y a b = a
pick false x y a b = b

pick-phase : (b : Bool) (x y : Phase) → is_ending x ≡ false → is_ending y ≡ false → is_ending (cond b x y) ≡ false
pick-phase true x y a b = a
pick-phase false x y a b = b

seek-stays : (m : Mode) → is_ending (seek m) ≡ false
seek-stays Write = refl
seek-stays Read = refl

top-stays : (r : Registers) → is_ending (top r).phase ≡ false
top-stays r = pick ((r.batch == 0) || r.flag) (to Begin (record r { headed = true })) (to (seek r.mode) r) refl (seek-stays r.mode)

done-stays : (r : Registers) → is_ending (done r) ≡ false
done-stays r = pick-phase r.headed (seek r.mode) Look (seek-stays r.mode) refl

look-stays : (t : Rules) (r : Registers) (b : Bool) → is_ending (looked t r b).phase ≡ false
look-stays t r true = top-stays r
look-stays t r false = by r.flag
  where
    by : (b : Bool) → is_ending (cond b (to Begin (record r { headed = false })) (record { phase = Look; reg = r; nap = cond (parks t.form && (r.batch == 0)) Doze Awake })).phase ≡ false
    by true = refl
    by false = refl

begun-stays : (t : Rules) (p : ℕ) (r : Registers) (c : Bool) → is_ending (begun t p r c).phase ≡ false
begun-stays t p r c = pick (nat_lt r.batch t.limit) (to (cond c Give Next) (record r { prev = p; last = p; count = r.batch })) (to (done r) r) (pick-phase c Give Next refl refl) (done-stays r)

decided-stays : (r : Registers) (a c : Bool) → is_ending (decided r a c).phase ≡ false
decided-stays r a c = pick a (to Give r) (cond c (to (cond (r.prev == r.last) Mark After) r) (to Next (record r { prev = r.cand }))) refl
    (pick c (to (cond (r.prev == r.last) Mark After) r) (to Next (record r { prev = r.cand })) (pick-phase (r.prev == r.last) Mark After refl refl) refl)

waits-at : (t : Rules) (p : ℕ) (r : Registers) (n : ℕ) (c : Bool) (f : Phase) → is_ending f ≡ false → is_ending (take_at t p r n c f).phase ≡ false
waits-at t p r n c Steal h = pick-phase (n == 0) Held Init refl refl
waits-at t p r zero c Swap h = refl
waits-at t p r (suc n) c Swap h = refl
waits-at t p r n c Close h = top-stays r
waits-at t p r n c Look h = look-stays t (record r { batch = batch_of n % 65536; flag = shuffler_of n }) (ready_of n)
waits-at t p r n c Begin h = begun-stays t p (record r { batch = round_batch r; flag = false }) c
waits-at t p r zero c Next h = refl
waits-at t p r (suc n) c Next h = refl
waits-at t p r n c Tail h = pick-phase (n == r.cand + 1) Give Attr refl refl
waits-at t p r n c Decide h = decided-stays r (stops r n) c
waits-at t p r zero c After h = refl
waits-at t p r (suc n) c After h = refl
waits-at t p r n c Mark h = pick-phase (nat_lt (r.count + 1) t.limit) Next Give refl refl
waits-at t p r n c Give h = done-stays r
waits-at t p r n c Peek h = pick (free_for Write n) (to (cond (shares t.form) WriteGrab Grab) (record r { saw = n })) (to Peek r) (pick-phase (shares t.form) WriteGrab Grab refl refl) refl
waits-at t p r n c Grab h = pick (held_of n) (top r) (to Take r) (top-stays r) refl
waits-at t p r n c WriteGrab h = pick (n == r.saw) (to Take r) (top r) refl (top-stays r)
waits-at t p r zero c Take h = refl
waits-at t p r (suc n) c Take h = refl
waits-at t p r n c Cut h = pick-phase (n == p + 1) Open Late refl refl
waits-at t p r zero c Late h = refl
waits-at t p r (suc n) c Late h = refl
waits-at t p r n c Count h = pick-phase (held_of n || closed_of n) Uncount Held refl refl
waits-at t p r n c HeadCount h = pick-phase (held_of n) HeadLook Take refl refl
waits-at t p r n c HeadLook h = pick-phase (held_of n) HeadLook Take refl refl
waits-at t p r n c Idle h = absurd (cc)
waits-at t p r n c Release h = absurd (cc)
waits-at t p r n c TryUncount h = absurd (cc)
waits-at t p r n c ReadRelease h = absurd (cc)
waits-at t p r n c _ h = refl

pub waits-on : WaitsOn
waits-on t p q n c h = by q.nap
  where
    by : (z : Nap) → is_ending (take_by t p q.reg n c z q.phase).phase ≡ false
    by Awake = waits-at t p q.reg n c q.phase h
    by Doze = h
    by Hear = h
    by Rouse = h
    by (Ring whom) = h

-- who gives the lock back is idle next
releasing-ends : (f : Phase) → is_ending f ≡ false → is_releasing f ≡ false
releasing-ends Idle h = refl
releasing-ends TryUncount h = refl
releasing-ends Release h = absurd (cc)
releasing-ends ReadRelease h = absurd (cc)
releasing-ends _ h = refl

none-releases : (t : Rules) (p : ℕ) (r : Registers) (n : ℕ) (c : Bool) (f : Phase) → is_releasing (take_at t p r n c f).phase ≡ false
none-releases t p r n c f = by (is_ending f) refl
  where
    over : (f : Phase) → is_ending f ≡ true → is_releasing (take_at t p r n c f).phase ≡ false
    over Idle e = refl
    over Release e = refl
    over TryUncount e = refl
    over ReadRelease e = refl
    over _ e = absurd (cc)

    by : (b : Bool) → is_ending f ≡ b → is_releasing (take_at t p r n c f).phase ≡ false
    by true e = over f e
    by false e = releasing-ends (take_at t p r n c f).phase (waits-at t p r n c f e)

pick-releasing : (b : Bool) (x y : PassState) → is_releasing x.phase ≡ false → is_releasing y.phase ≡ false → is_releasing (cond b x y).phase ≡ false
pick-releasing true x y a b = a
pick-releasing false x y a b = b

attempts-apart : (mode : Mode) (r : Registers) (n : ℕ) → is_releasing (attempted mode r n).phase ≡ false
attempts-apart Write r n = pick-releasing (n == 0) (to Held (record r { mode = Write })) (to Idle (record r { mode = Write; saw = n })) refl refl
attempts-apart Read r n = pick-releasing (held_of n || closed_of n) (to TryUncount (record r { mode = Read; saw = n })) (to Held (record r { mode = Read })) refl refl

pub none-leads-to-release : NoneLeadsToRelease
none-leads-to-release = record { steps = λ t p q n c. still t p q n c q.nap; attempts = attempts-apart }
  where
    still : (t : Rules) (p : ℕ) (q : PassState) (n : ℕ) (c : Bool) (z : Nap) → is_releasing (take_by t p q.reg n c z q.phase).phase ≡ true → (take_by t p q.reg n c z q.phase).phase ≡ q.phase
    still t p q n c Awake e = absurd (let x = none-releases t p q.reg n c q.phase in cc)
    still t p q n c Doze e = refl
    still t p q n c Hear e = refl
    still t p q n c Rouse e = refl
    still t p q n c (Ring whom) e = refl
