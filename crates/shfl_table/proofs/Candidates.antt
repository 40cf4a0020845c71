-- What a pass asks of a candidate: the attributes that the opening gave that pass.
use Rattle.std.proofs.Common.{◌≡◌, ℕ, zero, suc, ◌+◌, Bool, true, false, cond, List, slice_index, refl, sym, ap, ◌∙◌, arith}
use Rattle.std.specs.Prelude.{◌==◌, ◌||◌, ◌&&◌, ◌%◌, nat_lt}
use mathlib.Core.Logic.{dite}
use native.Mathlib.Decide.{dec_lt}
use Rattle.shfl_line.specs.declared.events.Mode.{Mode}
use Rattle.shfl_line.specs.declared.events.Mode.TheVariants.{Write, Read}
use Rattle.shfl_line.specs.declared.words.Attr.{Attr as Attributes}
use Rattle.shfl_line.specs.Words.{attr_of, held_of, closed_of, ready_of, shuffler_of, batch_of}
use Rattle.shfl_core.specs.declared.phase.Ask.TheVariants.{Nothing, Skip, Should}
use Rattle.shfl_core.specs.declared.phase.Phase.{Phase}
use Rattle.shfl_core.specs.declared.phase.Phase.TheVariants.{Idle, Steal, Init, Swap, Close, Look, Begin, Next, Tail, Attr, Decide, After, Mark, Give, Peek, Grab, WriteGrab, Take, Cut, Late, Open, Held, Count, Uncount, TryUncount, HeadCount, HeadLook}
use Rattle.shfl_core.specs.declared.phase.Registers.{Registers}
use Rattle.shfl_core.specs.declared.phase.Nap.{Nap}
use Rattle.shfl_core.specs.declared.phase.Nap.TheVariants.{Awake, Doze, Hear, Rouse, Ring}
use Rattle.shfl_core.specs.declared.phase.PassState.{PassState}
use Rattle.shfl_core.specs.declared.phase.Rules.{Rules}
use Rattle.shfl_core.specs.declared.words.Word.TheVariants.{Attr as AttrOf}
use Rattle.shfl_core.specs.Words.{free_for, index, is_store, look, site}
use Rattle.shfl_core.specs.Plan.{parks, shares, round_batch, is_idle, is_resting, plan, plan_by}
use Rattle.shfl_core.specs.Take.{take, take_at, take_by, attempted, acquired, released, entry, exit, to, top, seek, done, looked, begun, decided, stops}
use Rattle.shfl_core.specs.Waiting.{ask, ask_at}
use Rattle.shfl_core.specs.Worlds.{World}
use Rattle.shfl_core.specs.Lawful.{Terms, Lawful, count}
use Rattle.std.proofs.lemmas.List.{get_or_past}

asks-at : Phase → Bool
asks-at Decide = true
asks-at _ = false

pick : (b : Bool) (x y : PassState) → asks-at x.phase ≡ false → asks-at y.phase ≡ false → asks-at (cond b x y).phase ≡ false
unfolding asks-at
pick true x y a b = a
pick false x y a b = b

pick-phase : (b : Bool) (x y : Phase) → asks-at x ≡ false → asks-at y ≡ false → asks-at (cond b x y) ≡ false
unfolding asks-at
pick-phase true x y a b = a
pick-phase false x y a b = b

seek-away : (m : Mode) → asks-at (seek m) ≡ false
unfolding asks-at
seek-away Write = refl
seek-away Read = refl

top-away : (r : Registers) → asks-at (top r).phase ≡ false
unfolding asks-at
top-away r = pick ((r.batch == 0) || r.flag) (to Begin (record r { headed = true })) (to (seek r.mode) r) refl (seek-away r.mode)

done-away : (r : Registers) → asks-at (done r) ≡ false
unfolding asks-at
done-away r = pick-phase r.headed (seek r.mode) Look (seek-away r.mode) refl

look-away : (t : Rules) (r : Registers) (b : Bool) → asks-at (looked t r b).phase ≡ false
unfolding asks-at
look-away t r true = top-away r
look-away t r false = by r.flag
  where
    by : (b : Bool) → asks-at (cond b (to Begin (record r { headed = false })) (record { phase = Look; reg = r; nap = cond (parks t.form && (r.batch == 0)) Doze Awake })).phase ≡ false
    by true = refl
    by false = refl

begun-away : (t : Rules) (p : ℕ) (r : Registers) (c : Bool) → asks-at (begun t p r c).phase ≡ false
unfolding asks-at
begun-away t p r c = pick (nat_lt r.batch t.limit) (to (cond c Give Next) (record r { prev = p; last = p; count = r.batch })) (to (done r) r) (pick-phase c Give Next refl refl) (done-away r)

decided-away : (r : Registers) (a c : Bool) → asks-at (decided r a c).phase ≡ false
unfolding asks-at
decided-away r a c = pick a (to Give r) (cond c (to (cond (r.prev == r.last) Mark After) r) (to Next (record r { prev = r.cand }))) refl
    (pick c (to (cond (r.prev == r.last) Mark After) r) (to Next (record r { prev = r.cand })) (pick-phase (r.prev == r.last) Mark After refl refl) refl)

is-attr : Phase → Bool
is-attr Attr = true
is-attr _ = false

-- no other step leads to the question of a candidate than the look at its attributes
away-at : (t : Rules) (p : ℕ) (r : Registers) (n : ℕ) (c : Bool) (f : Phase) → is-attr f ≡ false → asks-at (take_at t p r n c f).phase ≡ false
unfolding asks-at is-attr
away-at t p r n c Attr h = absurd (cc)
away-at t p r n c Steal h = pick-phase (n == 0) Held Init refl refl
away-at t p r zero c Swap h = refl
away-at t p r (suc n) c Swap h = refl
away-at t p r n c Close h = top-away r
away-at t p r n c Look h = look-away t (record r { batch = batch_of n % 65536; flag = shuffler_of n }) (ready_of n)
away-at t p r n c Begin h = begun-away t p (record r { batch = round_batch r; flag = false }) c
away-at t p r zero c Next h = refl
away-at t p r (suc n) c Next h = refl
away-at t p r n c Tail h = pick-phase (n == r.cand + 1) Give Attr refl refl
away-at t p r n c Decide h = decided-away r (stops r n) c
away-at t p r zero c After h = refl
away-at t p r (suc n) c After h = refl
away-at t p r n c Mark h = pick-phase (nat_lt (r.count + 1) t.limit) Next Give refl refl
away-at t p r n c Give h = done-away r
away-at t p r n c Peek h = pick (free_for Write n) (to (cond (shares t.form) WriteGrab Grab) (record r { saw = n })) (to Peek r) (pick-phase (shares t.form) WriteGrab Grab refl refl) refl
away-at t p r n c Grab h = pick (held_of n) (top r) (to Take r) (top-away r) refl
away-at t p r n c WriteGrab h = pick (n == r.saw) (to Take r) (top r) refl (top-away r)
away-at t p r zero c Take h = refl
away-at t p r (suc n) c Take h = refl
away-at t p r zero c Late h = refl
away-at t p r (suc n) c Late h = refl
away-at t p r n c Cut h = pick-phase (n == p + 1) Open Late refl refl
away-at t p r n c Count h = pick-phase (held_of n || closed_of n) Uncount Held refl refl
away-at t p r n c HeadCount h = pick-phase (held_of n) HeadLook Take refl refl
away-at t p r n c HeadLook h = pick-phase (held_of n) HeadLook Take refl refl
away-at t p r n c _ h = refl

-- a step that leads to the question has looked at the candidate's attributes, or the pass parks there
pub asks-after : (t : Rules) (p : ℕ) (q : PassState) (n : ℕ) (c : Bool) (attrs : List ℕ) → (q.phase ≡ Decide → q.reg.seen ≡ slice_index attrs q.reg.cand)
    → (is_store (plan t p q) ≡ false → (k : ℕ) → site (plan t p q) ≡ AttrOf k → n ≡ slice_index attrs k)
    → (take t p q n c).phase ≡ Decide → (take t p q n c).reg.seen ≡ slice_index attrs (take t p q n c).reg.cand
unfolding asks-at is-attr
asks-after t p q n c attrs kept found = by q.nap found
  where
    at : (f : Phase) (b : Bool) → is-attr f ≡ b → (is_store (plan_by t p q.reg Awake f) ≡ false → (k : ℕ) → site (plan_by t p q.reg Awake f) ≡ AttrOf k → n ≡ slice_index attrs k)
        → (take_at t p q.reg n c f).phase ≡ Decide → (take_at t p q.reg n c f).reg.seen ≡ slice_index attrs (take_at t p q.reg n c f).reg.cand
    at Attr b e look-at d = look-at refl q.reg.cand refl
    at f false e look-at d = absurd (let x : asks-at (take_at t p q.reg n c f).phase ≡ true = ap asks-at d in let y = away-at t p q.reg n c f e in let z : true ≡ false = sym x ∙ y in cc)
    at f true e look-at d = absurd (cc)

    by : (z : Nap) → (is_store (plan_by t p q.reg z q.phase) ≡ false → (k : ℕ) → site (plan_by t p q.reg z q.phase) ≡ AttrOf k → n ≡ slice_index attrs k)
        → (take_by t p q.reg n c z q.phase).phase ≡ Decide → (take_by t p q.reg n c z q.phase).reg.seen ≡ slice_index attrs (take_by t p q.reg n c z q.phase).reg.cand
    by Awake look-at = at q.phase (is-attr q.phase) refl look-at
    by Doze look-at = kept
    by Hear look-at = kept
    by Rouse look-at = kept
    by (Ring whom) look-at = kept

-- no attempt leads to a question
pub asks-nobody : (mode : Mode) (r : Registers) (n : ℕ) → (attempted mode r n).phase ≡ Decide → ⊥
unfolding asks-at
asks-nobody mode r n d = let x : asks-at (attempted mode r n).phase ≡ true = ap asks-at d in let y = away mode in let z : true ≡ false = sym x ∙ y in cc
  where
    away : (mode : Mode) → asks-at (attempted mode r n).phase ≡ false
    away Write = pick (n == 0) (to Held (record r { mode = Write })) (to Idle (record r { mode = Write; saw = n })) refl refl
    away Read = pick (held_of n || closed_of n) (to TryUncount (record r { mode = Read; saw = n })) (to Held (record r { mode = Read })) refl refl

-- an acquire and a release lead to none
pub asks-entered : (m : Mode) (q : PassState) (attrs : List ℕ) → (q.phase ≡ Decide → q.reg.seen ≡ slice_index attrs q.reg.cand)
    → (acquired m q).phase ≡ Decide → (acquired m q).reg.seen ≡ slice_index attrs (acquired m q).reg.cand
unfolding asks-at
asks-entered m q attrs kept = by (is_idle q.phase) m
  where
    by : (b : Bool) (m : Mode) → (cond b (record q { phase = entry m; reg = record q.reg { mode = m } }) q).phase ≡ Decide
        → (cond b (record q { phase = entry m; reg = record q.reg { mode = m } }) q).reg.seen ≡ slice_index attrs (cond b (record q { phase = entry m; reg = record q.reg { mode = m } }) q).reg.cand
    by true Write d = absurd (let x : false ≡ true = ap asks-at d in cc)
    by true Read d = absurd (let x : false ≡ true = ap asks-at d in cc)
    by false m d = kept d

pub asks-left : (q : PassState) (attrs : List ℕ) → (q.phase ≡ Decide → q.reg.seen ≡ slice_index attrs q.reg.cand)
    → (released q).phase ≡ Decide → (released q).reg.seen ≡ slice_index attrs (released q).reg.cand
unfolding asks-at
asks-left q attrs kept = by (is_resting q) q.reg.mode
  where
    by : (b : Bool) (m : Mode) → (cond b (record q { phase = exit m }) q).phase ≡ Decide → (cond b (record q { phase = exit m }) q).reg.seen ≡ slice_index attrs (cond b (record q { phase = exit m }) q).reg.cand
    by true Write d = absurd (let x : false ≡ true = ap asks-at d in cc)
    by true Read d = absurd (let x : false ≡ true = ap asks-at d in cc)
    by false m d = kept d

-- what is asked of a candidate tells its attributes
pub asks-now : (t : Rules) (q : PassState) (attrs : List ℕ) → (q.phase ≡ Decide → q.reg.seen ≡ slice_index attrs q.reg.cand)
    → (w : Attributes) (b : ℕ) → ask t q ≡ Should w b → w ≡ attr_of (slice_index attrs q.reg.cand)
asks-now t q attrs kept w b = by q.nap q.phase kept
  where
    of-round : (c : Bool) (n : ℕ) → cond c (Skip n) Nothing ≡ Should w b → ⊥
    of-round true n e = cc
    of-round false n e = cc

    at : (f : Phase) → (f ≡ Decide → q.reg.seen ≡ slice_index attrs q.reg.cand) → ask_at t q.reg f ≡ Should w b → w ≡ attr_of (slice_index attrs q.reg.cand)
    at Decide kept e = let s : attr_of q.reg.seen ≡ w = cc in sym s ∙ ap attr_of (kept refl)
    at Begin kept e = absurd (of-round (nat_lt (round_batch q.reg) t.limit) (round_batch q.reg) e)
    at _ kept e = absurd (cc)

    by : (z : Nap) (f : Phase) → (f ≡ Decide → q.reg.seen ≡ slice_index attrs q.reg.cand) → ask t (record { phase = f; reg = q.reg; nap = z }) ≡ Should w b → w ≡ attr_of (slice_index attrs q.reg.cand)
    by Awake f kept e = at f kept e
    by Doze f kept e = absurd (cc)
    by Hear f kept e = absurd (cc)
    by Rouse f kept e = absurd (cc)
    by (Ring whom) f kept e = absurd (cc)

-- the attribute words of a lawful world are those of its opening
pub attr-told : (t : Terms) (w : World) (p : ℕ) → Lawful t w → look w.words (AttrOf p) ≡ slice_index t.attrs p
attr-told t w p ok = dite (dec_lt p (count t))
    (λ small. ok.attrs p small)
    (λ large. get_or_past w.words (index (AttrOf p)) 0 (let l = ok.room in omega arith) ∙ sym (get_or_past t.attrs p 0 (omega arith)))
