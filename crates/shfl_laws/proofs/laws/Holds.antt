-- Holds: who writes holds alone, a pass holds as it is seen to hold, a step keeps the mode, and only a step that gives the lock back ends a hold.
use Rattle.std.proofs.Common.{◌≡◌, ℕ, zero, suc, ◌+◌, ◌%◌, Bool, true, false, cond, Some, None, refl, sym, ap, ◌∙◌}
use Rattle.std.specs.Prelude.{◌==◌, ◌||◌, nat_lt}
use Rattle.shfl_line.specs.declared.events.Form.{Form}
use Rattle.shfl_line.specs.declared.events.Mode.{Mode}
use Rattle.shfl_line.specs.declared.events.Mode.TheVariants.{Write, Read}
use Rattle.shfl_core.specs.declared.phase.Phase.{Phase}
use Rattle.shfl_core.specs.declared.phase.Phase.TheVariants.{Swap, Close, Look, Begin, Next, Decide, After, Peek, Grab, WriteGrab, Take, Cut, Late, Ready, Open, Held, Release, ReadRelease}
use Rattle.shfl_core.specs.declared.phase.Registers.{Registers}
use Rattle.shfl_core.specs.declared.phase.Nap.{Nap}
use Rattle.shfl_core.specs.declared.phase.Nap.TheVariants.{Awake, Doze, Hear, Rouse, Ring}
use Rattle.shfl_core.specs.declared.phase.PassState.{PassState}
use Rattle.shfl_core.specs.declared.phase.Rules.{Rules}
use Rattle.shfl_core.specs.Phases.{is_holding}
use Rattle.shfl_line.specs.Words.{held_of, ready_of, shuffler_of, batch_of}
use Rattle.shfl_core.specs.Words.{free_for}
use Rattle.shfl_core.specs.Plan.{round_batch, shares}
use Rattle.shfl_core.specs.Take.{take, take_at, take_by, top, to, entry, exit, looked, begun, decided, stops}
use Rattle.shfl_core.specs.Worlds.{known}
use Rattle.shfl_core.specs.Lawful.{Terms}
use Rattle.shfl_laws.specs.Seen.{Alike, Enters, Leaves}
use Rattle.shfl_laws.specs.Headline.{Holders, HoldsAs, OneWriter, ReadersAlone, Nobody}
use Rattle.shfl_laws.proofs.plain.HoldersPlain.{holders}
use Rattle.shfl_laws.proofs.laws.MoveLaws.{resting-is}
use Rattle.shfl_laws.specs.Holds.{hold_of, is_releasing, WriterAlone, HoldsAsSeen, StepKeepsMode, OnlyReleaseFrees}

-- a step keeps the mode of its pass
pick : (b : Bool) (x y : PassState) (m : Mode) → x.reg.mode ≡ m → y.reg.mode ≡ m → (cond b x y).reg.mode ≡ m
pick true x y m a b = a
pick false x y m a b = b

top-mode : (r : Registers) → (top r).reg.mode ≡ r.mode
top-mode r = pick ((r.batch == 0) || r.flag) _ _ r.mode refl refl

look-mode : (t : Rules) (r : Registers) (b : Bool) → (looked t r b).reg.mode ≡ r.mode
look-mode t r true = top-mode r
look-mode t r false = pick r.flag _ _ r.mode refl refl

begun-mode : (t : Rules) (p : ℕ) (r : Registers) (b : Bool) → (begun t p r b).reg.mode ≡ r.mode
begun-mode t p r b = pick (nat_lt r.batch t.limit) _ _ r.mode refl refl

decided-mode : (r : Registers) (a b : Bool) → (decided r a b).reg.mode ≡ r.mode
decided-mode r a b = pick a _ _ r.mode refl (pick b _ _ r.mode refl refl)

take-mode-at : (t : Rules) (p : ℕ) (r : Registers) (n : ℕ) (c : Bool) (f : Phase) → (take_at t p r n c f).reg.mode ≡ r.mode
take-mode-at t p r zero c Swap = refl
take-mode-at t p r (suc n) c Swap = refl
take-mode-at t p r n c Close = top-mode r
take-mode-at t p r n c Look = look-mode t (record r { batch = batch_of n % 65536; flag = shuffler_of n }) (ready_of n)
take-mode-at t p r n c Begin = begun-mode t p (record r { batch = round_batch r; flag = false }) c
take-mode-at t p r zero c Next = refl
take-mode-at t p r (suc n) c Next = refl
take-mode-at t p r n c Decide = decided-mode r (stops r n) c
take-mode-at t p r zero c After = refl
take-mode-at t p r (suc n) c After = refl
take-mode-at t p r n c Peek = pick (free_for Write n) (to (cond (shares t.form) WriteGrab Grab) (record r { saw = n })) (to Peek r) r.mode refl refl
take-mode-at t p r n c Grab = pick (held_of n) (top r) (to Take r) r.mode (top-mode r) refl
take-mode-at t p r n c WriteGrab = pick (n == r.saw) (to Take r) (top r) r.mode refl (top-mode r)
take-mode-at t p r zero c Take = refl
take-mode-at t p r (suc n) c Take = refl
take-mode-at t p r zero c Late = refl
take-mode-at t p r (suc n) c Late = refl
take-mode-at t p r n c _ = refl

take-mode-by : (t : Rules) (p : ℕ) (r : Registers) (n : ℕ) (c : Bool) (z : Nap) (f : Phase) → (take_by t p r n c z f).reg.mode ≡ r.mode
take-mode-by t p r n c Awake f = take-mode-at t p r n c f
take-mode-by t p r n c Doze f = refl
take-mode-by t p r n c Hear f = refl
take-mode-by t p r n c Rouse f = refl
take-mode-by t p r n c (Ring whom) f = refl

pub take-mode : StepKeepsMode
take-mode t p q n c = take-mode-by t p q.reg n c q.nap q.phase

pub hold-seen : (form : Form) → HoldsAsSeen form
hold-seen form own seen (Alike e) = ap hold_of e
hold-seen form own seen (Enters m may f e) = ap hold_of e ∙ (out m ∙ sym (ap (λ x. cond (is_holding x) (Some seen.reg.mode) None) f))
  where
    out : (m : Mode) → hold_of (record seen { phase = entry m; reg = record seen.reg { mode = m } }) ≡ None
    out Write = refl
    out Read = refl
hold-seen form own seen (Leaves r e) = ap hold_of e ∙ (out seen.reg.mode ∙ sym (ap (λ x. cond (is_holding x) (Some seen.reg.mode) None) (resting-is seen r).0))
  where
    out : (m : Mode) → hold_of (record seen { phase = exit m }) ≡ Some seen.reg.mode
    out Write = refl
    out Read = refl

pub alone : (t : Terms) → WriterAlone t
alone t w ok p q e ne = by (is_holding (known w.passes q).phase) refl
  where
    by : (b : Bool) → is_holding (known w.passes q).phase ≡ b → hold_of (known w.passes q) ≡ None
    by false h = ap (λ x. cond x (Some (known w.passes q).reg.mode) None) h
    by true h = absurd (only (holders t w ok))
      where
        mine : HoldsAs w Write p
        mine = writes (is_holding (known w.passes p).phase) (known w.passes p).reg.mode refl refl e
          where
            writes : (b : Bool) (m : Mode) → is_holding (known w.passes p).phase ≡ b → (known w.passes p).reg.mode ≡ m → cond b (Some m) None ≡ Some Write → HoldsAs w Write p
            writes true Write a b z = record { holds = a; mode = b }
            writes true Read a b z = absurd (cc)
            writes false m a b z = absurd (cc)

        only : Holders w → ⊥
        only (OneWriter r a f) = ne (f q h ∙ sym (f p mine.holds))
        only (ReadersAlone r a f) = let x : Write ≡ Read = sym mine.mode ∙ (f p mine.holds).mode in cc
        only (Nobody f) = f q h

-- a step that ends a hold gives the lock back: by its phase, and by its park state
frees-at : (t : Rules) (p : ℕ) (r : Registers) (n : ℕ) (c : Bool) (f : Phase) → is_holding f ≡ true → is_holding (take_at t p r n c f).phase ≡ false → is_releasing f ≡ true
frees-at t p r n c Release h e = refl
frees-at t p r n c ReadRelease h e = refl
frees-at t p r zero c Take h e = absurd (cc)
frees-at t p r (suc n) c Take h e = absurd (cc)
frees-at t p r n c Cut h e = absurd (both (n == p + 1) e)
  where
    both : (b : Bool) → is_holding (cond b Open Late) ≡ false → ⊥
    both true e = cc
    both false e = cc
frees-at t p r zero c Late h e = absurd (cc)
frees-at t p r (suc n) c Late h e = absurd (cc)
frees-at t p r n c Ready h e = absurd (cc)
frees-at t p r n c Open h e = absurd (cc)
frees-at t p r n c Held h e = absurd (cc)
frees-at t p r n c _ h e = absurd (cc)

frees-by : (t : Rules) (p : ℕ) (r : Registers) (n : ℕ) (c : Bool) (z : Nap) (f : Phase) → is_holding f ≡ true → is_holding (take_by t p r n c z f).phase ≡ false → is_releasing f ≡ true
frees-by t p r n c Awake f h e = frees-at t p r n c f h e
frees-by t p r n c Doze f h e = absurd (cc)
frees-by t p r n c Hear f h e = absurd (cc)
frees-by t p r n c Rouse f h e = absurd (cc)
frees-by t p r n c (Ring whom) f h e = absurd (cc)

holding-is : (b : Bool) (m x : Mode) → cond b (Some m) None ≡ Some x → b ≡ true
holding-is true m x e = refl
holding-is false m x e = absurd (cc)

holding-not : (b : Bool) (m : Mode) → cond b (Some m) None ≡ None → b ≡ false
holding-not true m e = absurd (cc)
holding-not false m e = refl

pub frees-only : OnlyReleaseFrees
frees-only t p q n c x h e = frees-by t p q.reg n c q.nap q.phase (holding-is (is_holding q.phase) q.reg.mode x h) (holding-not (is_holding (take t p q n c).phase) (take t p q n c).reg.mode e)
