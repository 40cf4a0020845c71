-- Each own step of a round lowers what is left of it, as the line is shown before and after.
use Rattle.std.proofs.Common.{◌≡◌, ◌≢◌, ℕ, zero, suc, ◌+◌, ◌-◌, ◌*◌, ◌<◌, ◌≤◌, List, Bool, true, false, cond, ◌==◌, length, refl, sym, ap, ◌∙◌, subst, ⊎_elim, arith}
use Rattle.std.specs.Prelude.{nat_lt}
use Rattle.std.proofs.lemmas.Bool.Decides.{nat_tests}
use Rattle.shfl_line.specs.declared.events.Mode.{Mode}
use Rattle.shfl_line.specs.declared.events.Mode.TheVariants.{Write, Read}
use Rattle.shfl_line.specs.Line.{Line, mark_of, active_shuffler, IsWellFormed}
use Rattle.shfl_line.specs.Words.{link_word}
use Rattle.shfl_line.specs.Passes.{times, follower, last_marked, without, put_behind}
use Rattle.shfl_line.specs.Steps.{after, batch_end}
use Rattle.shfl_line.proofs.Batches.{stands-behind}
use Rattle.shfl_line.proofs.Pigeons.{distinct-length}
use Rattle.shfl_core.specs.declared.phase.Phase.{Phase}
use Rattle.shfl_core.specs.declared.phase.Phase.TheVariants.{Next, Tail, Attr, Decide, After, Pick, Aim, Place, Mark, Give, Look}
use Rattle.shfl_core.specs.declared.phase.Registers.{Registers as Regs}
use Rattle.shfl_core.specs.declared.phase.PassState.{PassState}
use Rattle.shfl_core.specs.declared.words.Word.TheVariants.{Next as NextOf}
use Rattle.shfl_core.specs.Words.{look, site}
use Rattle.shfl_core.specs.Plan.{plan_at}
use Rattle.shfl_core.specs.Take.{take_at, seek, decided}
use Rattle.shfl_core.specs.Worlds.{World, known}
use Rattle.shfl_core.specs.Events.{event_at}
use Rattle.shfl_core.specs.Phases.{is_round}
use Rattle.shfl_core.specs.View.{view}
use Rattle.shfl_core.specs.Order.{Round}
use Rattle.shfl_core.specs.Lawful.{Terms, count, Lawful}
use Rattle.shfl_laws.specs.RoundMeasure.{from, stretch, phase_measure, measure_at}
use Rattle.shfl_laws.proofs.rows.Order as Orders
use Rattle.shfl_laws.proofs.rounds.Stretch.{stretch-next, stretch-pick, stretch-place, upto-length, from-length, last-from, unmarked-from, follower-apart}
use Rattle.shfl_laws.proofs.shown.WellFormed.{agrees-well-formed, last-number}

module _ (t : Terms) (w : World) (p : ℕ) (ok : Lawful t w) (r : is_round (known w.passes p).phase ≡ true) where
  abbrev q : PassState
  q = known w.passes p

  abbrev s : Line
  s = ok.shown

  round : Round (view w).next (mark_of ok.shown) (view w).tail ok.shown.line (link_word ok.shown.hand) (known w.passes p)
  round = ok.agrees.order.round p r

  wf : IsWellFormed t.rules.limit ok.shown
  wf = agrees-well-formed t (view w) ok.shown ok.giver ok.of_passes ok.agrees

  pub walks : active_shuffler ok.shown.role ≡ suc p
  walks = ok.agrees.grouping.walks p r

  marked : 0 < mark_of ok.shown p
  marked = (ok.agrees.grouping.walker p walks).1

  pub inside : 0 < times p ok.shown.line
  inside = wf.in_line p marked

  once : (z : ℕ) → times z ok.shown.line ≤ 1
  once z = let a = ok.of_passes.once z in omega arith

  last-is : last_marked (mark_of ok.shown) ok.shown.line ≡ suc q.reg.last
  last-is = last-number (mark_of ok.shown) q.reg.last ok.shown.line ok.agrees.grouping.prefix once (ok.agrees.grouping.last p r).0

  last-after : 0 < times q.reg.last (from p ok.shown.line)
  last-after = last-from (mark_of ok.shown) p q.reg.last ok.shown.line inside marked last-is

  pub prev-after : 0 < times q.reg.prev (from p ok.shown.line)
  prev-after = ⊎_elim (λ e. subst (λ z. 0 < times z (from p ok.shown.line)) (sym e) last-after)
      (λ e. unmarked-from (mark_of ok.shown) p q.reg.prev ok.shown.line ok.agrees.grouping.prefix inside marked round.prev_in e) round.prev_free

  -- the successor by the next word is the one directly behind in the line
  follows : (a c : ℕ) → 0 < times a ok.shown.line → look w.words (NextOf a) ≡ suc c → follower a ok.shown.line ≡ suc c
  follows a c m e = let v = Orders.scene (view w) ok.shown ok.giver a ok.agrees.order m in
      ap (follower a) v.2.line ∙ Orders.follower-next (view w) v.0 v.1 a c v.2.walks v.2.stop v.2.once (subst (λ (l : List ℕ). 0 < times a l) v.2.line m) e

  cand-follows : look w.words (NextOf q.reg.prev) ≡ suc q.reg.cand → follower q.reg.prev ok.shown.line ≡ suc q.reg.cand
  cand-follows e = follows q.reg.prev q.reg.cand round.prev_in e

  few : (z : ℕ) → length (stretch p z ok.shown.line) ≤ count t
  few z = let a = upto-length z (from p ok.shown.line) in let b = from-length p ok.shown.line in let c = distinct-length (count t) ok.shown.line ok.of_passes.line once in omega arith

  no-hand : link_word ok.shown.hand ≡ 0 → cond {A = ℕ} (link_word ok.shown.hand == 0) 0 1 ≡ 0
  no-hand e = grind (arith, nat_tests)

  -- what is left where the round stands behind one pass more
  one-more : follower q.reg.prev ok.shown.line ≡ suc q.reg.cand → link_word ok.shown.hand ≡ 0
      → (count t - (length (stretch p q.reg.cand ok.shown.line) + cond (link_word ok.shown.hand == 0) 0 1)) + 1 ≡ count t - (length (stretch p q.reg.prev ok.shown.line) + cond (link_word ok.shown.hand == 0) 0 1)
  one-more e h = let a = stretch-next p q.reg.prev q.reg.cand ok.shown.line once prev-after e in let b = no-hand h in let c = few q.reg.cand in omega arith

  hand-none : (f : Phase) → q.phase ≡ f → (f ≡ Aim → ⊥) → (f ≡ Place → ⊥) → is_round f ≡ true → link_word ok.shown.hand ≡ 0
  hand-none f e a b c = let h = round.hand_is in grind (arith, e, h)

  -- what a step must show
  abbrev Falls : Bool → Phase → Type 0
  Falls choice f = is_round (take_at t.rules p q.reg (look w.words (site (plan_at t.rules p q.reg f))) choice f).phase ≡ true
      → measure_at (count t) (after ok.shown (event_at t.rules p q.reg (look w.words (site (plan_at t.rules p q.reg f))) f)) p
      (take_at t.rules p q.reg (look w.words (site (plan_at t.rules p q.reg f))) choice f).reg (take_at t.rules p q.reg (look w.words (site (plan_at t.rules p q.reg f))) choice f).phase
      < measure_at (count t) ok.shown p q.reg f

  falls-next : (choice : Bool) → Falls choice Next
  falls-next choice _ = by (look w.words (NextOf q.reg.prev))
    where
      by : (n : ℕ) → measure_at (count t) ok.shown p (take_at t.rules p q.reg n choice Next).reg (take_at t.rules p q.reg n choice Next).phase < measure_at (count t) ok.shown p q.reg Next
      by zero = omega arith
      by (suc c) = omega arith

  falls-tail : (choice : Bool) → Falls choice Tail
  falls-tail choice _ = by (look w.words (site (plan_at t.rules p q.reg Tail)) == q.reg.cand + 1)
    where
      by : (b : Bool) → measure_at (count t) ok.shown p q.reg (cond b Give Attr) < measure_at (count t) ok.shown p q.reg Tail
      by true = omega arith
      by false = omega arith

  falls-after : (choice : Bool) → Falls choice After
  falls-after choice _ = by (look w.words (NextOf q.reg.cand))
    where
      by : (n : ℕ) → measure_at (count t) ok.shown p (take_at t.rules p q.reg n choice After).reg (take_at t.rules p q.reg n choice After).phase < measure_at (count t) ok.shown p q.reg After
      by zero = omega arith
      by (suc c) = omega arith

  falls-decide : (choice : Bool) → q.phase ≡ Decide → Falls choice Decide
  falls-decide choice f _ = let m = one-more (cand-follows (round.cand_next (grind (arith, f)))) (hand-none Decide f (λ e. absurd (cc)) (λ e. absurd (cc)) refl) in by _ choice (q.reg.prev == q.reg.last) refl m
    where
      by : (stop c b : Bool) → (q.reg.prev == q.reg.last) ≡ b
          → (count t - (length (stretch p q.reg.cand ok.shown.line) + cond (link_word ok.shown.hand == 0) 0 1)) + 1 ≡ count t - (length (stretch p q.reg.prev ok.shown.line) + cond (link_word ok.shown.hand == 0) 0 1)
          → measure_at (count t) ok.shown p (decided q.reg stop c).reg (decided q.reg stop c).phase
          < measure_at (count t) ok.shown p q.reg Decide
      by true c b e m = omega arith
      by false false b e m = omega arith
      by false true true e m = (let a : phase_measure q.reg (cond (q.reg.prev == q.reg.last) Mark After) ≡ 3 = (λ j. phase_measure q.reg (cond (e j) Mark After)) ∙ (λ j. cond (e j) 3 8) in omega arith)
      by false true false e m = (let a : phase_measure q.reg (cond (q.reg.prev == q.reg.last) Mark After) ≡ 3 = (λ j. phase_measure q.reg (cond (e j) Mark After)) in omega arith)

  falls-pick : (choice : Bool) → q.phase ≡ Pick → Falls choice Pick
  falls-pick choice f _ = let e = cand-follows (round.cand_next (grind (arith, f))) in let h = no-hand (hand-none Pick f (λ i. absurd (cc)) (λ i. absurd (cc)) refl) in
      let a : length (stretch p q.reg.prev (without q.reg.cand ok.shown.line)) ≡ length (stretch p q.reg.prev ok.shown.line) = ap length (stretch-pick p q.reg.prev q.reg.cand ok.shown.line once (follower-apart p q.reg.prev q.reg.cand ok.shown.line once prev-after e) prev-after e) in
      let b = stretch-next p q.reg.prev q.reg.cand ok.shown.line once prev-after e in let c = few q.reg.cand in
      let d : cond {A = ℕ} (suc q.reg.cand == 0) 0 1 ≡ 1 = grind (arith, nat_tests) in omega arith

  falls-place : (choice : Bool) → q.phase ≡ Place → Falls choice Place
  falls-place choice f _ =
      let hand : link_word ok.shown.hand ≡ suc q.reg.cand = (let h = round.hand_is in grind (arith, f, h)) in
      let cand-is : link_word ok.shown.hand - 1 ≡ q.reg.cand = omega arith in
      let end-is : batch_end ok.shown ≡ q.reg.last = (let l = last-is in omega arith) in
      let out : times q.reg.cand ok.shown.line ≡ 0 = (let u = ok.of_passes.once q.reg.cand in grind (arith, nat_tests)) in
      let apart : q.reg.prev ≢ q.reg.cand = λ i. (let m = round.prev_in in let v : 0 < times q.reg.cand ok.shown.line = subst (λ z. 0 < times z ok.shown.line) i m in omega arith) in
      let free = ⊎_elim (λ i. absurd (round.apart (grind (arith, f)) i)) (λ i. i) round.prev_free in
      let back = stands-behind (mark_of ok.shown) q.reg.last q.reg.prev ok.shown.line ok.agrees.grouping.prefix last-is round.prev_in free in
      let a : length (stretch p q.reg.prev (put_behind q.reg.last q.reg.cand ok.shown.line)) ≡ length (stretch p q.reg.prev ok.shown.line) + 1 = stretch-place p q.reg.prev q.reg.last q.reg.cand ok.shown.line once apart last-after back in
      let a' : length (stretch p q.reg.prev (put_behind (batch_end ok.shown) (link_word ok.shown.hand - 1) ok.shown.line)) ≡ length (stretch p q.reg.prev ok.shown.line) + 1 =
      (λ j. length (stretch p q.reg.prev (put_behind (end-is j) (cand-is j) ok.shown.line))) ∙ a in
      let d : cond {A = ℕ} (link_word ok.shown.hand == 0) 0 1 ≡ 1 = grind (arith, nat_tests) in
      let e : phase_measure q.reg Mark ≤ 8 = most (q.reg.prev == q.reg.last) in omega arith
    where
      most : (b : Bool) → cond {A = ℕ} b 3 8 ≤ 8
      most true = omega arith
      most false = omega arith

  falls-mark : (choice : Bool) → q.phase ≡ Mark → Falls choice Mark
  falls-mark choice f _ = by (q.reg.prev == q.reg.last) refl (nat_lt (q.reg.count + 1) t.rules.limit)
    where
      hand : link_word ok.shown.hand ≡ 0
      hand = hand-none Mark f (λ i. absurd (cc)) (λ i. absurd (cc)) refl

      by : (b : Bool) → (q.reg.prev == q.reg.last) ≡ b → (c : Bool)
          → 9 * (count t - (length (stretch p (cond b q.reg.cand q.reg.prev) ok.shown.line) + cond (link_word ok.shown.hand == 0) 0 1)) + phase_measure (take_at t.rules p q.reg (look w.words (site (plan_at t.rules p q.reg Mark))) choice Mark).reg (cond c Next Give)
          < 9 * (count t - (length (stretch p q.reg.prev ok.shown.line) + cond (link_word ok.shown.hand == 0) 0 1)) + cond b 3 8
      by true e c = let i : q.reg.prev ≡ q.reg.last = grind (arith, nat_tests) in
          let n : look w.words (NextOf q.reg.prev) ≡ suc q.reg.cand = subst (λ z. look w.words (NextOf z) ≡ suc q.reg.cand) (sym i) (round.marking f).0 in
          let m = one-more (cand-follows n) hand in more c m
        where
          more : (c : Bool) → (count t - (length (stretch p q.reg.cand ok.shown.line) + cond (link_word ok.shown.hand == 0) 0 1)) + 1 ≡ count t - (length (stretch p q.reg.prev ok.shown.line) + cond (link_word ok.shown.hand == 0) 0 1)
              → 9 * (count t - (length (stretch p q.reg.cand ok.shown.line) + cond (link_word ok.shown.hand == 0) 0 1)) + phase_measure (take_at t.rules p q.reg (look w.words (site (plan_at t.rules p q.reg Mark))) choice Mark).reg (cond c Next Give)
              < 9 * (count t - (length (stretch p q.reg.prev ok.shown.line) + cond (link_word ok.shown.hand == 0) 0 1)) + 3
          more true m = omega arith
          more false m = omega arith
      by false e true = omega arith
      by false e false = omega arith

  -- no step leads from the end of a round into it
  after-give : (r : Regs) → is_round (cond r.headed (seek r.mode) Look) ≡ false
  after-give r = by r.headed r.mode
    where
      by : (b : Bool) (m : Mode) → is_round (cond b (seek m) Look) ≡ false
      by true Write = refl
      by true Read = refl
      by false m = refl

  pub falls : (choice : Bool) (f : Phase) → q.phase ≡ f → is_round f ≡ true → Falls choice f
  falls choice Next e i = falls-next choice
  falls choice Tail e i = falls-tail choice
  falls choice Attr e i = λ _. omega arith
  falls choice Decide e i = falls-decide choice e
  falls choice After e i = falls-after choice
  falls choice Pick e i = falls-pick choice e
  falls choice Aim e i = λ _. omega arith
  falls choice Place e i = falls-place choice e
  falls choice Mark e i = falls-mark choice e
  falls choice Give e i = λ h. absurd (let a = after-give q.reg in cc)
  falls choice _ e i = absurd (cc)
