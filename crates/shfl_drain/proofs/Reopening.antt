-- Each move keeps that stealing will be enabled again.
use Rattle.std.proofs.Common.{◌≡◌, ◌≢◌, ℕ, zero, suc, ◌+◌, ◌-◌, ◌*◌, ◌/◌, ◌%◌, ◌^◌, ◌<◌, ◌≤◌, ◌⊎◌, List, [], ◌∷◌, Bool, true, false, cond, ◌==◌, length, set, get_or-set_other, refl, sym, ap, ◌∙◌, inl, inr, subst, ⊎_elim, arith}
use Rattle.std.specs.Prelude.{◌||◌, ◌&&◌, not, bit_or, bit_and}
use Rattle.std.proofs.lemmas.Bool.Decides.{nat_tests}
use prog.Atomic.{either}
use Rattle.shfl_line.specs.declared.words.TheConstants.{HELD, CLOSED}
use Rattle.shfl_line.specs.declared.words.Attr.{Attr}
use Rattle.shfl_line.specs.Words.{held_of, closed_of}
use Rattle.shfl_line.specs.Passes.{first}
use Rattle.shfl_line.proofs.Chain
use Rattle.shfl_core.specs.declared.phase.Phase.{Phase}
use Rattle.shfl_core.specs.declared.phase.Phase.TheVariants as phase
use Rattle.shfl_core.specs.declared.phase.Nap.{Nap}
use Rattle.shfl_core.specs.declared.phase.Nap.TheVariants.{Awake, Doze, Hear, Rouse, Ring}
use Rattle.shfl_core.specs.declared.phase.PassState.{PassState}
use Rattle.shfl_core.specs.declared.words.Word.{Word}
use Rattle.shfl_core.specs.declared.words.Word.TheVariants.{Lock, Tail as TailWord, Next as NextOf, State as StateOf, Attr as AttrOf, Bell}
use Rattle.shfl_core.specs.Words.{look, index, site, put}
use Rattle.shfl_core.specs.Phases.{queued_rank, rank, fore_rank}
use Rattle.shfl_core.specs.Plan.{plan, plan_by, all_but, moving, is_idle, is_held, is_awake, is_resting}
use Rattle.shfl_core.specs.Take.{take, take_by, acquired, released}
use Rattle.shfl_core.specs.Waiting.{idle}
use Rattle.shfl_core.specs.Worlds.{World, known, opening, stepped, placed_at, after_access, Move, Acquire, Release, Step, after_move}
use Rattle.shfl_core.specs.Owed.{fits}
use Rattle.shfl_core.specs.View.{view}
use Rattle.shfl_core.specs.Order.{Order as Ordered, Walks}
use Rattle.shfl_core.specs.Lawful.{Terms, count, Lawful}
use Rattle.shfl_core.proofs.Lists.{set-read}
use Rattle.shfl_laws.proofs.words.Frame.{known-set, look-else, look-same}
use Rattle.shfl_laws.proofs.words.LockBits.{lock-or-held, lock-and-held, lock-and-closed}
use Rattle.shfl_drain.specs.GoingOn.{IsAtRest}
use Rattle.shfl_drain.specs.Reopening.{WillReopen, Reopens}
use Rattle.shfl_drain.proofs.Bools.{true-or, not-true, true-not-false}
use Rattle.shfl_drain.proofs.NeverStuck.{free-at-rest}
use Rattle.shfl_drain.proofs.DrainNumber.{moving-below}

-- counting a reader in or out, and holding, leave whether stealing is disabled
closed-add : (n : ℕ) → closed_of ((n + 4294967296) % 2 ^ 64) ≡ closed_of n
closed-add n = let e : (n + 4294967296) % 2 ^ 64 / 256 % 2 ≡ n / 256 % 2 = omega arith in ap (λ z. z == 1) e

closed-sub : (n : ℕ) → closed_of ((n + (2 ^ 64 - 4294967296)) % 2 ^ 64) ≡ closed_of n
closed-sub n = let e : (n + (2 ^ 64 - 4294967296)) % 2 ^ 64 / 256 % 2 ≡ n / 256 % 2 = omega arith in ap (λ z. z == 1) e

closed-grab : (n : ℕ) → held_of n ≡ false → closed_of ((n + 1) % 2 ^ 64) ≡ closed_of n
closed-grab n h = let d : n % 2 ≢ 1 = grind (arith, nat_tests, h) in let e : (n + 1) % 2 ^ 64 / 256 % 2 ≡ n / 256 % 2 = omega arith in ap (λ z. z == 1) e

module _ (t : Terms) (w : World) (ok : Lawful t w) (q : ℕ) (below : q < length w.passes) (c : Bool) where
  -- the world after the step of q, at this park state and phase
  abbrev pub step_to : Nap → Phase → World
  step_to x f = after_access w q (plan_by t.rules q (known w.passes q).reg x f) (take_by t.rules q (known w.passes q).reg (look w.words (site (plan_by t.rules q (known w.passes q).reg x f))) c x f)

  -- stealing isn't disabled anew, and nobody leaves the queue or enables it
  same : (x : Nap) (f : Phase) → (known w.passes q).phase ≡ f → (f ≡ phase.Open → ⊥) → (closed_of (look (step_to x f).words Lock) ≡ closed_of (look w.words Lock)) → look (step_to x f).words TailWord ≡ look w.words TailWord → WillReopen w → WillReopen (step_to x f)
  same x f at n closed tail will e = ⊎_elim
      (λ h. inl (subst (λ z. 0 < z) (sym tail) h))
      (λ o. inr (o.0, ap (λ (z : PassState). z.phase) (get_or-set_other w.passes q o.0 (take_by t.rules q (known w.passes q).reg (look w.words (site (plan_by t.rules q (known w.passes q).reg x f))) c x f) (idle o.0) (λ i. n (sym at ∙ (ap (λ z. (known w.passes z).phase) (sym i) ∙ o.1)))) ∙ o.1))
      (will (sym closed ∙ e))

  untouched : (u : Word) (k : ℕ) → index Lock ≢ index u → (closed_of (look (set w.words (index u) k) Lock) ≡ closed_of (look w.words Lock))
  untouched u k d = ap closed_of (look-else w.words u Lock k d)

  tail-same : (u : Word) (k : ℕ) → index TailWord ≢ index u → look (set w.words (index u) k) TailWord ≡ look w.words TailWord
  tail-same u k d = look-else w.words u TailWord k d

  loaded : (u x : Word) → look (set w.words (index u) (look w.words u)) x ≡ look w.words x
  loaded u x = ap (λ (z : List ℕ). look z x) (set-read w.words (index u) 0)

  room : (0 < length w.words) × (10 < length w.words)
  room = let r = ok.room in (omega arith, omega arith)

  lock-is : (k : ℕ) → look (set w.words (index Lock) k) Lock ≡ k
  lock-is k = look-same w.words Lock k room.0

  tail-else : (k : ℕ) → look (set w.words (index Lock) k) TailWord ≡ look w.words TailWord
  tail-else k = look-else w.words Lock TailWord k (λ e. omega arith)

  -- a pass that disables stealing is queued
  close : (known w.passes q).phase ≡ phase.Close → 0 < look w.words TailWord
  close e = by ok.shown.line refl (ok.agrees.order.fronted.only q (ap (λ f. queued_rank (rank f)) e) (ap (λ f. fore_rank (rank f) (known w.passes q).reg.headed || ((view w).node q).ready) e)).0
    where
      by : (l : List ℕ) → ok.shown.line ≡ l → first l ≡ suc q → 0 < look w.words TailWord
      by [] i h = absurd (omega arith)
      by (x ∷ xs) i h = let k = (subst (Walks (view w)) i ok.agrees.order.walks).2 in omega arith

  by-phase : (f : Phase) → (known w.passes q).phase ≡ f → is_idle f ≡ false → is_held f ≡ false → WillReopen w → WillReopen (step_to Awake f)
  by-phase phase.Idle at i h = absurd (cc)
  by-phase phase.Held at i h = absurd (cc)
  by-phase phase.Steal at i h = by (look w.words Lock == 0) refl
    where
      by : (b : Bool) → (look w.words Lock == 0) ≡ b → WillReopen w → WillReopen (step_to Awake phase.Steal)
      by true e will d = absurd (true-not-false (closed_of HELD) (sym (ap closed_of (lock-is (either (look w.words Lock == 0) HELD (look w.words Lock)) ∙ ap (λ z. either z HELD (look w.words Lock)) e)) ∙ d) refl)
      by false e will d = same Awake phase.Steal at (λ z. (cc)) (ap closed_of (lock-is (either (look w.words Lock == 0) HELD (look w.words Lock)) ∙ ap (λ z. either z HELD (look w.words Lock)) e)) (tail-else (either (look w.words Lock == 0) HELD (look w.words Lock))) will d
  by-phase phase.WriteGrab at i h = by (look w.words Lock == (known w.passes q).reg.saw) refl
    where
      n : ℕ
      n = look w.words Lock

      by : (b : Bool) → (look w.words Lock == (known w.passes q).reg.saw) ≡ b → WillReopen w → WillReopen (step_to Awake phase.WriteGrab)
      by true e = same Awake phase.WriteGrab at (λ z. (cc)) (ap closed_of (lock-is (either (look w.words Lock == (known w.passes q).reg.saw) (((known w.passes q).reg.saw + 1) % 2 ^ 64) (look w.words Lock)) ∙ ap (λ z. either z (((known w.passes q).reg.saw + 1) % 2 ^ 64) (look w.words Lock)) e)
          ∙ (closed-grab (known w.passes q).reg.saw (ok.agrees.registered.saw q at).0 ∙ ap closed_of (let z : (known w.passes q).reg.saw ≡ look w.words Lock = grind (arith, nat_tests, e) in z))) (tail-else (either (look w.words Lock == (known w.passes q).reg.saw) (((known w.passes q).reg.saw + 1) % 2 ^ 64) (look w.words Lock)))
      by false e = same Awake phase.WriteGrab at (λ z. (cc)) (ap closed_of (lock-is (either (look w.words Lock == (known w.passes q).reg.saw) (((known w.passes q).reg.saw + 1) % 2 ^ 64) (look w.words Lock)) ∙ ap (λ z. either z (((known w.passes q).reg.saw + 1) % 2 ^ 64) (look w.words Lock)) e))
          (tail-else (either (look w.words Lock == (known w.passes q).reg.saw) (((known w.passes q).reg.saw + 1) % 2 ^ 64) (look w.words Lock)))
  by-phase phase.Close at i h = λ will e. inl (subst (λ z. 0 < z) (sym (tail-else (bit_or (look w.words Lock) CLOSED))) (close at))
  by-phase phase.Open at i h = λ will e. absurd (true-not-false (closed_of (look (step_to Awake phase.Open).words Lock)) e (ap closed_of (lock-is (bit_and (look w.words Lock) (all_but CLOSED))) ∙ (lock-and-closed (look w.words Lock) (ok.formed Lock)).closed))
  by-phase phase.Grab at i h = same Awake phase.Grab at (λ z. (cc)) (ap closed_of (lock-is (bit_or (look w.words Lock) HELD)) ∙ (lock-or-held (look w.words Lock) (ok.formed Lock)).closed) (tail-else (bit_or (look w.words Lock) HELD))
  by-phase phase.Release at i h = same Awake phase.Release at (λ z. (cc)) (ap closed_of (lock-is (bit_and (look w.words Lock) (all_but HELD))) ∙ (lock-and-held (look w.words Lock) (ok.formed Lock)).closed) (tail-else (bit_and (look w.words Lock) (all_but HELD)))
  by-phase phase.Count at i h = same Awake phase.Count at (λ z. (cc)) (ap closed_of (lock-is ((look w.words Lock + 4294967296) % 2 ^ 64)) ∙ closed-add (look w.words Lock)) (tail-else ((look w.words Lock + 4294967296) % 2 ^ 64))
  by-phase phase.HeadCount at i h = same Awake phase.HeadCount at (λ z. (cc)) (ap closed_of (lock-is ((look w.words Lock + 4294967296) % 2 ^ 64)) ∙ closed-add (look w.words Lock)) (tail-else ((look w.words Lock + 4294967296) % 2 ^ 64))
  by-phase phase.Uncount at i h = same Awake phase.Uncount at (λ z. (cc)) (ap closed_of (lock-is ((look w.words Lock + (2 ^ 64 - 4294967296)) % 2 ^ 64)) ∙ closed-sub (look w.words Lock)) (tail-else ((look w.words Lock + (2 ^ 64 - 4294967296)) % 2 ^ 64))
  by-phase phase.TryUncount at i h = same Awake phase.TryUncount at (λ z. (cc)) (ap closed_of (lock-is ((look w.words Lock + (2 ^ 64 - 4294967296)) % 2 ^ 64)) ∙ closed-sub (look w.words Lock)) (tail-else ((look w.words Lock + (2 ^ 64 - 4294967296)) % 2 ^ 64))
  by-phase phase.ReadRelease at i h = same Awake phase.ReadRelease at (λ z. (cc)) (ap closed_of (lock-is ((look w.words Lock + (2 ^ 64 - 4294967296)) % 2 ^ 64)) ∙ closed-sub (look w.words Lock)) (tail-else ((look w.words Lock + (2 ^ 64 - 4294967296)) % 2 ^ 64))
  by-phase phase.Peek at i h = same Awake phase.Peek at (λ z. (cc)) (ap closed_of (loaded Lock Lock)) (loaded Lock TailWord)
  by-phase phase.HeadLook at i h = same Awake phase.HeadLook at (λ z. (cc)) (ap closed_of (loaded Lock Lock)) (loaded Lock TailWord)
  by-phase phase.Tail at i h = same Awake phase.Tail at (λ z. (cc)) (ap closed_of (loaded TailWord Lock)) (loaded TailWord TailWord)
  by-phase phase.Decide at i h = same Awake phase.Decide at (λ z. (cc)) (ap closed_of (loaded (cond (known w.passes q).reg.headed Lock (StateOf q)) Lock)) (loaded (cond (known w.passes q).reg.headed Lock (StateOf q)) TailWord)
  by-phase phase.Swap at i h = λ will e. inl (subst (λ z. 0 < z) (sym (look-same w.words TailWord (q + 1) room.1)) (omega arith))
  by-phase phase.Cut at i h = by (look w.words TailWord == q + 1) refl
    where
      by : (b : Bool) → (look w.words TailWord == q + 1) ≡ b → WillReopen w → WillReopen (step_to Awake phase.Cut)
      by true e will d = inr (q, ap (λ (z : PassState). z.phase) (known-set w.passes q (take_by t.rules q (known w.passes q).reg (look w.words TailWord) c Awake phase.Cut) below q ∙ Chain.updated-same (known w.passes) q (take_by t.rules q (known w.passes q).reg (look w.words TailWord) c Awake phase.Cut)) ∙ ap (λ z. cond z phase.Open phase.Late) e)
      by false e will d = same Awake phase.Cut at (λ z. (cc)) (untouched TailWord (either (look w.words TailWord == q + 1) 0 (look w.words TailWord)) (λ z. omega arith))
          (look-same w.words TailWord (either (look w.words TailWord == q + 1) 0 (look w.words TailWord)) room.1 ∙ ap (λ z. either z 0 (look w.words TailWord)) e) will d
  by-phase phase.Init at i h = same Awake phase.Init at (λ z. (cc)) (untouched (StateOf q) _ (λ z. omega arith)) (tail-same (StateOf q) _ (λ z. omega arith))
  by-phase phase.Link at i h = same Awake phase.Link at (λ z. (cc)) (untouched (NextOf (known w.passes q).reg.before) _ (λ z. omega arith)) (tail-same (NextOf (known w.passes q).reg.before) _ (λ z. omega arith))
  by-phase phase.Look at i h = same Awake phase.Look at (λ z. (cc)) (untouched (StateOf q) _ (λ z. omega arith)) (tail-same (StateOf q) _ (λ z. omega arith))
  by-phase phase.Begin at i h = same Awake phase.Begin at (λ z. (cc)) (untouched (StateOf q) _ (λ z. omega arith)) (tail-same (StateOf q) _ (λ z. omega arith))
  by-phase phase.Next at i h = same Awake phase.Next at (λ z. (cc)) (untouched (NextOf (known w.passes q).reg.prev) _ (λ z. omega arith)) (tail-same (NextOf (known w.passes q).reg.prev) _ (λ z. omega arith))
  by-phase phase.Attr at i h = same Awake phase.Attr at (λ z. (cc)) (untouched (AttrOf (known w.passes q).reg.cand) _ (λ z. omega arith)) (tail-same (AttrOf (known w.passes q).reg.cand) _ (λ z. omega arith))
  by-phase phase.After at i h = same Awake phase.After at (λ z. (cc)) (untouched (NextOf (known w.passes q).reg.cand) _ (λ z. omega arith)) (tail-same (NextOf (known w.passes q).reg.cand) _ (λ z. omega arith))
  by-phase phase.Pick at i h = same Awake phase.Pick at (λ z. (cc)) (untouched (NextOf (known w.passes q).reg.prev) _ (λ z. omega arith)) (tail-same (NextOf (known w.passes q).reg.prev) _ (λ z. omega arith))
  by-phase phase.Aim at i h = same Awake phase.Aim at (λ z. (cc)) (untouched (NextOf (known w.passes q).reg.cand) _ (λ z. omega arith)) (tail-same (NextOf (known w.passes q).reg.cand) _ (λ z. omega arith))
  by-phase phase.Place at i h = same Awake phase.Place at (λ z. (cc)) (untouched (NextOf (known w.passes q).reg.last) _ (λ z. omega arith)) (tail-same (NextOf (known w.passes q).reg.last) _ (λ z. omega arith))
  by-phase phase.Mark at i h = same Awake phase.Mark at (λ z. (cc)) (untouched (StateOf (known w.passes q).reg.cand) _ (λ z. omega arith)) (tail-same (StateOf (known w.passes q).reg.cand) _ (λ z. omega arith))
  by-phase phase.Give at i h = same Awake phase.Give at (λ z. (cc)) (untouched (StateOf (known w.passes q).reg.last) _ (λ z. omega arith)) (tail-same (StateOf (known w.passes q).reg.last) _ (λ z. omega arith))
  by-phase phase.Take at i h = same Awake phase.Take at (λ z. (cc)) (untouched (NextOf q) _ (λ z. omega arith)) (tail-same (NextOf q) _ (λ z. omega arith))
  by-phase phase.Late at i h = same Awake phase.Late at (λ z. (cc)) (untouched (NextOf q) _ (λ z. omega arith)) (tail-same (NextOf q) _ (λ z. omega arith))
  by-phase phase.Ready at i h = same Awake phase.Ready at (λ z. (cc)) (untouched (StateOf (known w.passes q).reg.heir) _ (λ z. omega arith)) (tail-same (StateOf (known w.passes q).reg.heir) _ (λ z. omega arith))

  -- a pass that isn't awake isn't about to enable stealing
  not-open : (x : Nap) → is_awake x ≡ false → fits x phase.Open ≡ true → ⊥
  not-open Awake e f = cc
  not-open Doze e f = cc
  not-open Hear e f = cc
  not-open Rouse e f = cc
  not-open (Ring whom) e f = cc

  asleep : (x : Nap) → (known w.passes q).nap ≡ x → is_awake x ≡ false → ((known w.passes q).phase ≡ phase.Open → ⊥)
  asleep x e a f = not-open x a ((λ j. fits (sym e j) (sym f j)) ∙ ok.agrees.owed.places q)

  both-off : (a b : Bool) → (not a && not b) ≡ true → (a ≡ false) × (b ≡ false)
  both-off true b e = absurd (cc)
  both-off false true e = absurd (cc)
  both-off false false e = (refl, refl)

  held-off : (a b : Bool) → (a && b) ≡ false → b ≡ true → a ≡ false
  held-off true true e f = e
  held-off true false e f = absurd (cc)
  held-off false b e f = refl

  pub by-nap : moving (known w.passes q) ≡ true → (x : Nap) → (known w.passes q).nap ≡ x → WillReopen w → WillReopen (step_to x (known w.passes q).phase)
  by-nap m Awake e = let o = both-off (is_idle (known w.passes q).phase) (is_resting (known w.passes q)) m in
      by-phase (known w.passes q).phase refl o.0 (held-off (is_held (known w.passes q).phase) (is_awake (known w.passes q).nap) o.1 (ap is_awake e))
  by-nap m Doze e = same Doze (known w.passes q).phase refl (asleep Doze e refl) (untouched (StateOf q) _ (λ z. omega arith)) (tail-same (StateOf q) _ (λ z. omega arith))
  by-nap m Hear e = same Hear (known w.passes q).phase refl (asleep Hear e refl) (untouched (Bell q) _ (λ z. omega arith)) (tail-same (Bell q) _ (λ z. omega arith))
  by-nap m Rouse e = same Rouse (known w.passes q).phase refl (asleep Rouse e refl) (untouched (StateOf q) _ (λ z. omega arith)) (tail-same (StateOf q) _ (λ z. omega arith))
  by-nap m (Ring whom) e = same (Ring whom) (known w.passes q).phase refl (asleep (Ring whom) e refl) (untouched (Bell whom) _ (λ z. omega arith)) (tail-same (Bell whom) _ (λ z. omega arith))

-- an acquire and a release write no word, and are none of a pass that is about to enable stealing
placed : (w : World) (q : ℕ) (v : PassState) → ((known w.passes q).phase ≡ phase.Open → ⊥) → WillReopen w → WillReopen (placed_at w q v)
placed w q v n will e = ⊎_elim (λ h. inl h)
    (λ o. inr (o.0, ap (λ (z : PassState). z.phase) (get_or-set_other w.passes q o.0 v (idle o.0) (λ i. n (ap (λ z. (known w.passes z).phase) (sym i) ∙ o.1))) ∙ o.1))
    (will e)

idle-open : (f : Phase) → is_idle f ≡ true → f ≡ phase.Open → ⊥
idle-open phase.Idle e i = cc
idle-open _ e i = cc

resting-open : (f : Phase) (b : Bool) → (is_held f && b) ≡ true → f ≡ phase.Open → ⊥
resting-open phase.Held b e i = cc
resting-open _ b e i = cc

keeps : (t : Terms) (w : World) → Lawful t w → (m : Move) → WillReopen w → WillReopen (after_move t.rules w m)
keeps t w ok (Acquire q mode) = by (is_idle (known w.passes q).phase) refl
  where
    by : (b : Bool) → is_idle (known w.passes q).phase ≡ b → WillReopen w → WillReopen (cond b (placed_at w q (acquired mode (known w.passes q))) w)
    by true e = placed w q (acquired mode (known w.passes q)) (idle-open (known w.passes q).phase e)
    by false e = λ will. will
keeps t w ok (Release q) = by (is_resting (known w.passes q)) refl
  where
    by : (b : Bool) → is_resting (known w.passes q) ≡ b → WillReopen w → WillReopen (cond b (placed_at w q (released (known w.passes q))) w)
    by true e = placed w q (released (known w.passes q)) (resting-open (known w.passes q).phase (is_awake (known w.passes q).nap) e)
    by false e = λ will. will
keeps t w ok (Step q c) = by (moving (known w.passes q)) refl
  where
    by : (b : Bool) → moving (known w.passes q) ≡ b → WillReopen w → WillReopen (cond b (stepped t.rules w q (known w.passes q) c) w)
    by true e = by-nap t w ok q (moving-below t w ok q e) c e (known w.passes q).nap refl
    by false e = λ will. will

at-rest : (t : Terms) (w : World) → Lawful t w → IsAtRest w → WillReopen w → closed_of (look w.words Lock) ≡ false
at-rest t w ok rest will = not-true (closed_of (look w.words Lock)) (λ e. ⊎_elim
    (λ h. (let z = (free-at-rest t w ok rest).tail in omega arith))
    (λ o. idle-open phase.Idle refl (sym (rest o.0) ∙ o.1))
    (will e))

-- an opening has a lock word of 0
opens : (attrs : List Attr) → WillReopen (opening attrs)
opens attrs e = absurd (true-not-false (closed_of (look (opening attrs).words Lock)) e refl)

pub reopens : (t : Terms) → Reopens t
reopens t = record { opens = opens; keeps = keeps t; at_rest = at-rest t }
