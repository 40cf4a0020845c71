-- A round goes on until its last step, and begins by its first question: what a policy was told so far, step by step.
use Rattle.std.proofs.Common.{◌≡◌, ℕ, zero, suc, ◌+◌, ◌%◌, ◌==◌, ◌||◌, Bool, true, false, cond, List, [], ◌∷◌, ◌++◌, Option, refl, sym, ap, ◌∙◌, subst, append-nil}
use Rattle.std.specs.Prelude.{nat_lt}
use Rattle.shfl_line.specs.declared.words.Attr.{Attr}
use Rattle.shfl_line.specs.declared.choosers.Answer.{Answer}
use Rattle.shfl_line.specs.declared.choosers.Told.{Told}
use Rattle.shfl_line.specs.declared.events.Mode.{Mode}
use Rattle.shfl_line.specs.declared.events.Mode.TheVariants.{Write, Read}
use Rattle.shfl_line.specs.Policies.{Adds, skip_answer, should_answer}
use Rattle.shfl_line.specs.Words.{attr_of, held_of, closed_of, ready_of, batch_of, shuffler_of}
use Rattle.shfl_line.proofs.Rounds.{SoFar, so-far-same, so-far-first, so-far-next, so-far-ended}
use Rattle.shfl_core.specs.declared.phase.Phase.{Phase}
use Rattle.shfl_core.specs.declared.phase.Phase.TheVariants.{Idle, Steal, Init, Swap, Link, Close, Look, Begin, Next, Tail, Attr as AttrPhase, Decide, After, Pick, Aim, Place, Mark, Give, Peek, Grab, WriteGrab, Take, Cut, Late, Ready, Open, Held, Release, Count, Uncount, TryUncount, HeadCount, HeadLook, ReadRelease}
use Rattle.shfl_core.specs.declared.phase.Nap.{Nap}
use Rattle.shfl_core.specs.declared.phase.Nap.TheVariants.{Awake, Doze, Hear, Rouse, Ring}
use Rattle.shfl_core.specs.declared.phase.Registers.{Registers}
use Rattle.shfl_core.specs.declared.phase.PassState.{PassState}
use Rattle.shfl_core.specs.declared.phase.Rules.{Rules}
use Rattle.shfl_core.specs.Asking.{answer_of, end_told, is_last_of_round, opens_round, question_told, step_told}
use Rattle.shfl_core.specs.Words.{free_for}
use Rattle.shfl_core.specs.Phases.{is_round}
use Rattle.shfl_core.specs.Plan.{parks, round_batch, shares}
use Rattle.shfl_core.specs.Take.{take, take_at, take_by, stops, swap_found, heir_found, looked, next_found, after_found, seek, top, to, done}
use Rattle.shfl_core.specs.Waiting.{ask, ask_at}
use Rattle.shfl_core.specs.declared.phase.Ask.{Ask}
use Rattle.shfl_core.specs.declared.phase.Ask.TheVariants.{Nothing, Skip, Should}

pick : (b : Bool) {v : Bool} (x y : PassState) → is_round x.phase ≡ v → is_round y.phase ≡ v → is_round (cond b x y).phase ≡ v
pick true x y h k = h
pick false x y h k = k

pick-phase : (b : Bool) {v : Bool} (x y : Phase) → is_round x ≡ v → is_round y ≡ v → is_round (cond b x y) ≡ v
pick-phase true x y h k = h
pick-phase false x y h k = k

next-stays : (r : Registers) (n : ℕ) → is_round (next_found r n).phase ≡ true
next-stays r zero = refl
next-stays r (suc n) = refl

after-stays : (r : Registers) (n : ℕ) → is_round (after_found r n).phase ≡ true
after-stays r zero = refl
after-stays r (suc n) = refl

-- no step but the last one leaves a round
pub round-stays : (t : Rules) (p : ℕ) (r : Registers) (n : ℕ) (c : Bool) (f : Phase) → is_round f ≡ true → is_last_of_round f Awake ≡ false → is_round (take_at t p r n c f).phase ≡ true
round-stays t p r n c Next i l = next-stays r n
round-stays t p r n c Tail i l = pick-phase (n == r.cand + 1) Give AttrPhase refl refl
round-stays t p r n c AttrPhase i l = refl
round-stays t p r n c Decide i l = pick (stops r n) (to Give r) (cond c (to (cond (r.prev == r.last) Mark After) r) (to Next (record r { prev = r.cand }))) refl
    (pick c (to (cond (r.prev == r.last) Mark After) r) (to Next (record r { prev = r.cand })) (pick-phase (r.prev == r.last) Mark After refl refl) refl)
round-stays t p r n c After i l = after-stays r n
round-stays t p r n c Pick i l = refl
round-stays t p r n c Aim i l = refl
round-stays t p r n c Place i l = refl
round-stays t p r n c Mark i l = pick-phase (nat_lt (r.count + 1) t.limit) Next Give refl refl
round-stays t p r n c Give i l = absurd (cc)
round-stays t p r n c _ i l = absurd (cc)

skip-opens : (b : Bool) (k : ℕ) → opens_round (cond b (Skip k) Nothing) ≡ true → b ≡ true
skip-opens true k e = refl
skip-opens false k e = absurd (cc)

-- the question that opens a round is asked by a step that leads into it
pub round-opens : (t : Rules) (p : ℕ) (r : Registers) (n : ℕ) (c : Bool) (f : Phase) → opens_round (ask_at t r f) ≡ true → is_round (take_at t p r n c f).phase ≡ true
round-opens t p r n c Begin e = by (nat_lt (round_batch r) t.limit) (skip-opens (nat_lt (round_batch r) t.limit) (round_batch r) e)
  where
    by : (b : Bool) → b ≡ true → is_round (cond b (to (cond c Give Next) (record r { batch = round_batch r; flag = false; prev = p; last = p; count = round_batch r })) (to (done (record r { batch = round_batch r; flag = false })) (record r { batch = round_batch r; flag = false }))).phase ≡ true
    by true h = pick-phase c Give Next refl refl
    by false h = absurd (cc)
round-opens t p r n c Decide e = absurd (cc)
round-opens t p r n c _ e = absurd (cc)

seek-away : (m : Mode) → is_round (seek m) ≡ false
seek-away Write = refl
seek-away Read = refl

top-away : (r : Registers) → is_round (top r).phase ≡ false
top-away r = pick ((r.batch == 0) || r.flag) (to Begin (record r { headed = true })) (to (seek r.mode) r) refl (seek-away r.mode)

done-away : (r : Registers) → is_round (done r) ≡ false
done-away r = pick-phase r.headed (seek r.mode) Look (seek-away r.mode) refl

swap-away : (r : Registers) (n : ℕ) → is_round (swap_found r n).phase ≡ false
swap-away r zero = refl
swap-away r (suc q) = refl

heir-away : (f : Phase) (r : Registers) (n : ℕ) → is_round f ≡ false → is_round (heir_found f r n).phase ≡ false
heir-away f r zero e = e
heir-away f r (suc q) e = refl

looked-away : (t : Rules) (r : Registers) (b : Bool) → is_round (looked t r b).phase ≡ false
looked-away t r true = top-away r
looked-away t r false = pick r.flag _ _ refl refl

-- and only the first question leads into one
round-else : (t : Rules) (p : ℕ) (r : Registers) (n : ℕ) (c : Bool) (f : Phase) → is_round f ≡ false → opens_round (ask_at t r f) ≡ false → is_round (take_at t p r n c f).phase ≡ false
round-else t p r n c Begin i o = by (nat_lt (round_batch r) t.limit) o
  where
    by : (b : Bool) → opens_round (cond b (Skip (round_batch r)) Nothing) ≡ false → is_round (cond b (to (cond c Give Next) (record r { batch = round_batch r; flag = false; prev = p; last = p; count = round_batch r })) (to (done (record r { batch = round_batch r; flag = false })) (record r { batch = round_batch r; flag = false }))).phase ≡ false
    by true h = absurd (cc)
    by false h = done-away (record r { batch = round_batch r; flag = false })
round-else t p r n c Idle i o = refl
round-else t p r n c Held i o = refl
round-else t p r n c Steal i o = pick-phase (n == 0) Held Init refl refl
round-else t p r n c Init i o = refl
round-else t p r n c Swap i o = swap-away r n
round-else t p r n c Link i o = refl
round-else t p r n c Close i o = top-away r
round-else t p r n c Look i o = looked-away t (record r { batch = batch_of n % 65536; flag = shuffler_of n }) (ready_of n)
round-else t p r n c Peek i o = pick (free_for Write n) (to (cond (shares t.form) WriteGrab Grab) (record r { saw = n })) (to Peek r) (pick-phase (shares t.form) WriteGrab Grab refl refl) refl
round-else t p r n c Grab i o = pick (held_of n) (top r) (to Take r) (top-away r) refl
round-else t p r n c WriteGrab i o = pick (n == r.saw) (to Take r) (top r) refl (top-away r)
round-else t p r n c Take i o = heir-away Cut r n refl
round-else t p r n c Cut i o = pick-phase (n == p + 1) Open Late refl refl
round-else t p r n c Late i o = heir-away Late r n refl
round-else t p r n c Ready i o = refl
round-else t p r n c Open i o = refl
round-else t p r n c Release i o = refl
round-else t p r n c Count i o = pick-phase (held_of n || closed_of n) Uncount Held refl refl
round-else t p r n c Uncount i o = refl
round-else t p r n c TryUncount i o = refl
round-else t p r n c HeadCount i o = pick-phase (held_of n) HeadLook Take refl refl
round-else t p r n c HeadLook i o = pick-phase (held_of n) HeadLook Take refl refl
round-else t p r n c ReadRelease i o = refl
round-else t p r n c _ i o = absurd (cc)

module _ (anchor : Attr) (t : Rules) (n : ℕ) (c : Bool) (xs : List Answer) (old mid new : Option (List Told)) where
  -- a step that asks nothing, in a round or outside
  quiet : (b b' : Bool) → b' ≡ b → SoFar b xs old mid → Adds mid new [] → SoFar b' (xs ++ []) old new
  quiet b b' e s add = subst (λ z. SoFar z (xs ++ []) old new) (sym e) (subst (λ l. SoFar b l old new) (sym (append-nil xs)) (so-far-same b xs old mid new s add))

  begins : (k : ℕ) (b : Bool) (x y : PassState) → is_round x.phase ≡ true → is_round y.phase ≡ false → SoFar false xs old mid → Adds mid new (question_told anchor (cond b (Skip k) Nothing) c ++ [])
      → SoFar (is_round (cond b x y).phase) (xs ++ answer_of anchor (cond b (Skip k) Nothing) c) old new
  begins k true x y in_round away s add = subst (λ z. SoFar z (xs ++ skip_answer anchor k c ∷ []) old new) (sym in_round) (so-far-first xs (skip_answer anchor k c) old mid new s refl add)
  begins k false x y in_round away s add = quiet false (is_round y.phase) away s add

  awake : (p : ℕ) (r : Registers) (f : Phase) → SoFar (is_round f) xs old mid → Adds mid new (question_told anchor (ask_at t r f) c ++ end_told (is_last_of_round f Awake))
      → SoFar (is_round (take_at t p r n c f).phase) (xs ++ answer_of anchor (ask_at t r f) c) old new
  awake p r Begin s add = begins (round_batch r) (nat_lt (round_batch r) t.limit) (to (cond c Give Next) (record r { batch = round_batch r; flag = false; prev = p; last = p; count = round_batch r }))
      (to (done (record r { batch = round_batch r; flag = false })) (record r { batch = round_batch r; flag = false })) (pick-phase c Give Next refl refl) (done-away (record r { batch = round_batch r; flag = false })) s add
  awake p r Decide s add = subst (λ z. SoFar z (xs ++ should_answer anchor (attr_of r.seen) r.count c ∷ []) old new) (sym (round-stays t p r n c Decide refl refl))
      (so-far-next xs (should_answer anchor (attr_of r.seen) r.count c) old mid new s refl add)
  awake p r Give s add = subst (λ z. SoFar z (xs ++ []) old new) (sym (done-away r)) (subst (λ l. SoFar false l old new) (sym (append-nil xs)) (so-far-ended xs old mid new s add))
  awake p r Next s add = quiet true _ (round-stays t p r n c Next refl refl) s add
  awake p r Tail s add = quiet true _ (round-stays t p r n c Tail refl refl) s add
  awake p r AttrPhase s add = quiet true _ refl s add
  awake p r After s add = quiet true _ (round-stays t p r n c After refl refl) s add
  awake p r Pick s add = quiet true _ refl s add
  awake p r Aim s add = quiet true _ refl s add
  awake p r Place s add = quiet true _ refl s add
  awake p r Mark s add = quiet true _ (round-stays t p r n c Mark refl refl) s add
  awake p r f s add = quiet false _ (round-else t p r n c f refl refl) s add

  -- what a policy was told so far, one step later
  pub told-step : (q : PassState) → SoFar (is_round q.phase) xs old mid → Adds mid new (step_told anchor t q c) → SoFar (is_round (take t q.reg.me q n c).phase) (xs ++ answer_of anchor (ask t q) c) old new
  told-step q s = by q.nap
    where
      by : (z : Nap) → Adds mid new (step_told anchor t (record q { nap = z }) c) → SoFar (is_round (take_by t q.reg.me q.reg n c z q.phase).phase) (xs ++ answer_of anchor (ask t (record q { nap = z })) c) old new
      by Awake add = awake q.reg.me q.reg q.phase s add
      by Doze add = quiet (is_round q.phase) _ refl s add
      by Hear add = quiet (is_round q.phase) _ refl s add
      by Rouse add = quiet (is_round q.phase) _ refl s add
      by (Ring whom) add = quiet (is_round q.phase) _ refl s add
