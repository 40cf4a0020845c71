-- A round is short: what is left where it begins bounds its steps.
use Rattle.std.proofs.Common.{◌≡◌, ℕ, suc, ◌+◌, ◌*◌, ◌<◌, ◌≤◌, List, [], ◌∷◌, Bool, true, false, cond, ◌==◌, length, refl, sym, ap, ◌∙◌, subst, ⊎_elim, arith}
use Rattle.std.specs.Prelude.{nat_lt}
use Rattle.std.proofs.lemmas.Bool.Decides.{nat_tests}
use Rattle.shfl_line.specs.declared.events.Mode.{Mode}
use Rattle.shfl_line.specs.declared.events.Mode.TheVariants.{Write, Read}
use Rattle.shfl_line.specs.declared.events.LineEvent.{LineEvent}
use Rattle.shfl_line.specs.declared.events.LineEvent.TheVariants as event
use Rattle.shfl_line.specs.Line.{Line, mark_of}
use Rattle.shfl_line.specs.Passes.{times, first}
use Rattle.shfl_line.specs.Steps.{Admits, MayBegin, after}
use Rattle.shfl_line.proofs.Behind.{last-inside}
use Rattle.shfl_line.proofs.Chain
use Rattle.shfl_core.specs.declared.phase.Phase.{Phase}
use Rattle.shfl_core.specs.declared.phase.Phase.TheVariants.{Next, Tail, Attr, Decide, After, Pick, Aim, Place, Mark, Give, Begin, Look}
use Rattle.shfl_core.specs.declared.phase.Registers.{Registers as Regs}
use Rattle.shfl_core.specs.declared.phase.Nap.{Nap}
use Rattle.shfl_core.specs.declared.phase.Nap.TheVariants.{Awake, Doze, Hear, Rouse, Ring}
use Rattle.shfl_core.specs.declared.phase.PassState.{PassState}
use Rattle.shfl_core.specs.Words.{look, site}
use Rattle.shfl_core.specs.Plan.{plan, is_awake, moving, round_batch}
use Rattle.shfl_core.specs.Take.{take, take_by, done, seek}
use Rattle.shfl_core.specs.Waiting.{idle}
use Rattle.shfl_core.specs.Worlds.{World, known, stepped, Move, Acquire, Release, Step, after_move}
use Rattle.shfl_core.specs.Events.{event_at}
use Rattle.shfl_core.specs.Phases.{is_round}
use Rattle.shfl_core.specs.View.{view}
use Rattle.shfl_core.specs.Lawful.{Terms, count, Lawful, Advances, LawOf}
use Rattle.shfl_core.proofs.Lists.{past, below-or}
use Rattle.shfl_laws.specs.Moves.{EachMayMove, move_event}
use Rattle.shfl_laws.specs.RoundMeasure.{upto, stretch, phase_measure, round_measure}
use Rattle.shfl_laws.specs.Rounds.{in_round, left, is_own, round_steps, OwnStepLowers, OtherMoveKeeps, BeginBounds, RoundIsShort}
use Rattle.shfl_laws.proofs.words.Advance.{below-count}
use Rattle.shfl_laws.proofs.words.Frame.{known-set}
use Rattle.shfl_laws.proofs.rounds.MeasureMoves.{own, others, taken-apart}
use Rattle.shfl_laws.proofs.laws.MoveLaws.{move-law}
use Rattle.shfl_laws.proofs.rounds.Stretch.{from-hit, from-miss}
use Rattle.shfl_laws.proofs.shown.WellFormed.{agrees-well-formed}

stretch-self : (p : ℕ) (xs : List ℕ) → 0 < times p xs → length (stretch p p xs) ≡ 1
stretch-self p [] m = absurd (omega arith)
stretch-self p (x ∷ xs) m = Chain.by_eq x p
    (λ e. ap (λ l. length (upto p l)) (from-hit p x xs e) ∙ hit x e)
    (λ n. ap (λ l. length (upto p l)) (from-miss p x xs n) ∙ stretch-self p xs (grind (arith, nat_tests)))
  where
    hit : (x : ℕ) → x ≡ p → length (upto p (x ∷ xs)) ≡ 1
    hit x e = by (x == p) (grind (arith, nat_tests))
      where
        by : (b : Bool) → b ≡ true → length (cond b (x ∷ []) (x ∷ upto p xs)) ≡ 1
        by true e = refl
        by false e = absurd (cc)

module _ (t : Terms) (w : World) (p : ℕ) (ok : Lawful t w) (f : (known w.passes p).phase ≡ Begin) where
  in-lock : p < length w.passes
  in-lock = ⊎_elim (λ h. h) (λ h. absurd (let e : (known w.passes p).phase ≡ (idle p).phase = ap (λ (z : PassState). z.phase) (past w.passes p (idle p) h) in cc)) (below-or p (length w.passes))

  moves : moving (known w.passes p) ≡ true
  moves = grind (arith, f)

  waits : MayBegin ok.shown p → 0 < times p ok.shown.line
  waits m = ⊎_elim
      (λ e. (last-inside (mark_of ok.shown) p ok.shown.line ((agrees-well-formed t (view w) ok.shown ok.giver ok.of_passes ok.agrees).idle p e)).0)
      (λ u. inside ok.shown.line u.0) m.may
    where
      inside : (l : List ℕ) → first l ≡ suc p → 0 < times p l
      inside [] e = absurd (omega arith)
      inside (x ∷ xs) e = grind (arith, nat_tests)

  not-done : (r : Regs) → is_round (done r) ≡ false
  not-done r = by r.headed r.mode
    where
      by : (b : Bool) (m : Mode) → is_round (cond b (seek m) Look) ≡ false
      by true Write = refl
      by true Read = refl
      by false m = refl

  abbrev r : Regs
  r = record (known w.passes p).reg { batch = round_batch (known w.passes p).reg; flag = false }

  abbrev begins : Bool → Bool → PassState
  begins true c = record { phase = cond c Give Next; reg = record r { prev = p; last = p; count = r.batch }; nap = Awake }
  begins false c = record { phase = done r; reg = r; nap = Awake }

  begins-is : (b c : Bool) → begins b c ≡ cond b (record { phase = cond c Give Next; reg = record r { prev = p; last = p; count = r.batch }; nap = Awake }) (record { phase = done r; reg = r; nap = Awake })
  begins-is true c = refl
  begins-is false c = refl

  bound : (b c : Bool) → Admits t.rules.limit ok.shown (cond b (event.Begin p) (event.Rest p))
      → is_round (begins b c).phase ≡ true
      → round_measure (count t) (after ok.shown (cond b (event.Begin p) (event.Rest p))) p (begins b c) ≤ 9 * count t + 2
  bound false c a i = absurd (let z = not-done r in cc)
  bound true true a i = let m = stretch-self p ok.shown.line (waits a.0) in let b = below-count t w ok p in-lock in omega arith
  bound true false a i = let m = stretch-self p ok.shown.line (waits a.0) in let b = below-count t w ok p in-lock in omega arith

  pub begin-bounds : (c : Bool) (a : Advances t w ok (move_event t.rules w (Step p c)) (after_move t.rules w (Step p c))) → (known w.passes p).nap ≡ Awake → in_round (after_move t.rules w (Step p c)) p ≡ true
      → left t (after_move t.rules w (Step p c)) a.lawful p ≤ 9 * count t + 2
  begin-bounds c a nap = let q : PassState = known w.passes p in let n : ℕ = look w.words (site (plan t.rules p q)) in let b : Bool = nat_lt (round_batch q.reg) t.rules.limit in
      let e : LineEvent = cond b (event.Begin p) (event.Rest p) in
      let is : move_event t.rules w (Step p c) ≡ e = (λ j. cond (moves j) (cond (is_awake (nap j)) (event_at t.rules p q.reg n (f j)) event.Nothing) event.Nothing) in
      let v : PassState = begins b c in
      let shows : a.lawful.shown ≡ after ok.shown e = a.shown ∙ ap (after ok.shown) is in
      let stands : known (after_move t.rules w (Step p c)).passes p ≡ v = ap (λ (z : Bool). known (cond z (stepped t.rules w p q c) w).passes p) moves
      ∙ (known-set w.passes p (take t.rules p q n c) in-lock p ∙ (Chain.updated-same (known w.passes) p (take t.rules p q n c) ∙ ((λ j. take_by t.rules p q.reg n c (nap j) (f j)) ∙ sym (begins-is b c)))) in
      subst (λ (z : Line × PassState). is_round z.1.phase ≡ true → round_measure (count t) z.0 p z.1 ≤ 9 * count t + 2) (λ j. (sym shows j, sym stands j))
      (bound b c (subst (λ (z : LineEvent). Admits t.rules.limit ok.shown z) is a.admitted))

positive : (g : Regs) (f : Phase) → is_round f ≡ true → 0 < phase_measure g f
positive g Next e = omega arith
positive g Tail e = omega arith
positive g Attr e = omega arith
positive g Decide e = omega arith
positive g After e = omega arith
positive g Pick e = omega arith
positive g Aim e = omega arith
positive g Place e = omega arith
positive g Mark e = by (g.prev == g.last)
  where
    by : (b : Bool) → 0 < cond b 3 8
    by true = omega arith
    by false = omega arith
positive g Give e = omega arith
positive g _ e = absurd (cc)

awake-is : (x : Nap) → is_awake x ≡ true → x ≡ Awake
awake-is Awake e = refl
awake-is Doze e = absurd (cc)
awake-is Hear e = absurd (cc)
awake-is Rouse e = absurd (cc)
awake-is (Ring q) e = absurd (cc)

pub own-lowers : (t : Terms) → OwnStepLowers t
own-lowers t w ok p m a i o j = own t w p ok i m a o j

pub others-keep : (t : Terms) → OtherMoveKeeps t
others-keep t w ok p m a i o = others t w p ok i m a o

pub begins-bounded : (t : Terms) → BeginBounds t
begins-bounded t w ok p (Acquire q mode) a f o i = absurd (cc)
begins-bounded t w ok p (Release q) a f o i = absurd (cc)
begins-bounded t w ok p (Step q c) a f o i =
    let d : ((q == p) ≡ true) × (is_awake (known w.passes p).nap ≡ true) = taken-apart (q == p) (is_awake (known w.passes p).nap) o in
    let e : q ≡ p = (let x = d.0 in grind (arith, nat_tests)) in
    subst (λ z. (b : Advances t w ok (move_event t.rules w (Step z c)) (after_move t.rules w (Step z c))) → in_round (after_move t.rules w (Step z c)) p ≡ true → left t (after_move t.rules w (Step z c)) b.lawful p ≤ 9 * count t + 2) (sym e)
    (λ b j. begin-bounds t w p ok f c b (awake-is (known w.passes p).nap d.1) j) a i

module _ (t : Terms) (laws : (f : Phase) → LawOf t f) (p : ℕ) where
  -- no step counts past the round's end
  ended : (w : World) (ms : List Move) → in_round w p ≡ false → round_steps t.rules w p ms ≡ 0
  ended w [] e = refl
  ended w (m ∷ rest) e = λ j. cond (e j) (cond (is_own w p m) 1 0 + round_steps t.rules (after_move t.rules w m) p rest) 0

  counts : (ms : List Move) (w : World) (ok : Lawful t w) → EachMayMove t.rules.form ms → round_steps t.rules w p ms ≤ left t w ok p
  counts [] w ok may = omega arith
  counts (m ∷ rest) w ok may = let a = move-law t laws m w ok may.0 in by (in_round w p) refl (is_own w p m) refl a (counts rest (after_move t.rules w m) a.lawful may.1)
    where
      by : (b : Bool) → in_round w p ≡ b → (o : Bool) → is_own w p m ≡ o → (a : Advances t w ok (move_event t.rules w m) (after_move t.rules w m))
          → round_steps t.rules (after_move t.rules w m) p rest ≤ left t (after_move t.rules w m) a.lawful p
          → cond b (cond o 1 0 + round_steps t.rules (after_move t.rules w m) p rest) 0 ≤ left t w ok p
      by false i o k a ih = omega arith
      by true i false k a ih = let u = (others-keep t w ok p m a i k).1 in omega arith
      by true i true k a ih = inner (in_round (after_move t.rules w m) p) refl
        where
          inner : (c : Bool) → in_round (after_move t.rules w m) p ≡ c → 1 + round_steps t.rules (after_move t.rules w m) p rest ≤ left t w ok p
          inner true j = let u = own-lowers t w ok p m a i k j in omega arith
          inner false j = let z = ended (after_move t.rules w m) rest j in let u = positive (known w.passes p).reg (known w.passes p).phase i in omega arith

pub rounds-short : ((t : Terms) (f : Phase) → LawOf t f) → (t : Terms) → RoundIsShort t
rounds-short laws t w ok p m ms may each f o = let a = move-law t (laws t) m w ok may in by (in_round (after_move t.rules w m) p) refl a
  where
    by : (b : Bool) → in_round (after_move t.rules w m) p ≡ b → (a : Advances t w ok (move_event t.rules w m) (after_move t.rules w m)) → 1 + round_steps t.rules (after_move t.rules w m) p ms ≤ 9 * count t + 3
    by false i a = let z = ended t (laws t) p (after_move t.rules w m) ms i in omega arith
    by true i a = let u = counts t (laws t) p ms (after_move t.rules w m) a.lawful each in let b = begins-bounded t w ok p m a f o i in omega arith
