-- The law of Mark, over words, and who is then to be woken.
use Rattle.std.proofs.Common.{◌≡◌, ◌≢◌, ℕ, suc, ◌+◌, ◌-◌, ◌*◌, ◌%◌, ◌<◌, ◌==◌, Bool, true, false, cond, ◌∷◌, length, set, refl, sym, ap, ◌∙◌, subst, arith}
use Rattle.std.specs.Prelude.{◌||◌, ◌&&◌, not, bit_or, nat_lt, slice_set}
use Rattle.shfl_line.specs.declared.events.LineEvent.TheVariants.{Keep}
use Rattle.shfl_line.specs.declared.words.NodeState.{NodeState}
use Rattle.shfl_line.specs.Line.{Line, mark_of}
use Rattle.shfl_line.specs.Steps.{batch_end}
use Rattle.shfl_line.specs.Words.{state_of, ready_of, parked_of, spin_of}
use Rattle.shfl_line.specs.Passes.{updated, times, last_marked, follower}
use Rattle.shfl_line.proofs.Chain
use Rattle.shfl_line.proofs.Batches.{mark-set}
use Rattle.shfl_core.specs.declared.phase.Phase.TheVariants.{Mark, Next, Give}
use Rattle.shfl_core.specs.declared.phase.Nap.{Nap}
use Rattle.shfl_core.specs.declared.phase.Nap.TheVariants.{Awake, Ring}
use Rattle.shfl_core.specs.declared.phase.PassState.{PassState}
use Rattle.shfl_core.specs.declared.words.Word.TheVariants.{State as StateOf}
use Rattle.shfl_core.specs.Words.{look, index}
use Rattle.shfl_core.specs.Plan.{parks}
use Rattle.shfl_core.specs.Take as T
use Rattle.shfl_core.specs.Take.{sleeps}
use Rattle.shfl_core.specs.Worlds.{World, known}
use Rattle.shfl_core.specs.Phases.{is_round, is_queued, has_hand, decide_to_pick}
use Rattle.shfl_core.specs.View.{View, view}
use Rattle.shfl_core.specs.Owed.{fits, announces}
use Rattle.shfl_core.specs.Lawful.{Terms, count, Agrees, Lawful, Advances, LawOf}
use Rattle.shfl_laws.proofs.rows.Order
use Rattle.shfl_laws.proofs.rows.Rows.{marked}
use Rattle.shfl_laws.proofs.rows.MarkRow.{kept, mark-grouping}
use Rattle.shfl_laws.proofs.rows.MarkOrder.{mark-order, quiet, still-round}
use Rattle.shfl_laws.proofs.words.MarkBits.{or-mark}
use Rattle.shfl_laws.proofs.laws.NextRows.{batch-last}
use Rattle.shfl_laws.proofs.rows.RoundLoads.{in-round}
use Rattle.shfl_laws.proofs.kept.Registered.{registered-set}
use Rattle.shfl_laws.proofs.kept.OwedCall.{Calls, asleep, owed-call}
use Rattle.shfl_laws.proofs.words.Advance.{at-phase, advance-state, below-count}
use Rattle.shfl_laws.proofs.words.Frame.{written_state}
use Rattle.shfl_laws.proofs.rows.Holding.{stay}

-- what the old state word says of a sleeper
pub sleeps-is : (t : Terms) (n : ℕ) → (parks t.rules.form ≡ false → parked_of n ≡ false) → sleeps t.rules n ≡ asleep (state_of n)
sleeps-is t n h = by (parks t.rules.form) (parked_of n) h
  where
    by : (b c : Bool) → (b ≡ false → c ≡ false) → (b && c && not (ready_of n) && not (spin_of n)) ≡ (c && not (ready_of n) && not (spin_of n))
    by true c h = refl
    by false true h = absurd (let z = h refl in cc)
    by false false h = refl

pub wakes-if : (a b c : Bool) → (a && not b && not c) ≡ false → a ≡ true → (b || c) ≡ true
wakes-if true true c e i = refl
wakes-if true false true e i = refl
wakes-if true false false e i = absurd (cc)
wakes-if false b c e i = absurd (cc)

module _ (t : Terms) (w : World) (p : ℕ) (ok : Lawful t w) (below : p < length w.passes) (nap : (known w.passes p).nap ≡ Awake) (f : (known w.passes p).phase ≡ Mark) where
  abbrev q : PassState
  q = known w.passes p

  abbrev c : ℕ
  c = q.reg.cand

  abbrev n : ℕ
  n = look w.words (StateOf c)

  abbrev old : NodeState
  old = state_of n

  abbrev more : ℕ
  more = q.reg.count + 1

  abbrev new : NodeState
  new = record old { batch = more; spin = parks t.rules.form }

  rp : is_round q.phase ≡ true
  rp = ap is_round f

  abbrev last-in : 0 < times q.reg.last ok.shown.line
  last-in = (ok.agrees.grouping.last p rp).0.inside

  -- what is known at Mark
  record At : Type 0 where
    inside : 0 < times c ok.shown.line
    unmarked : mark_of ok.shown c ≡ 0
    follows : follower q.reg.last ok.shown.line ≡ suc c
    few : q.reg.count < t.rules.limit

  at : At
  at = let a = ok.agrees in let r = a.order.round p rp in let m = r.marking f in let z = Order.scene (view w) ok.shown ok.giver q.reg.last a.order last-in in let v = z.2 in
      let l : 0 < times q.reg.last (z.0 ∷ z.1) = subst (λ l. 0 < times q.reg.last l) v.line last-in in
      let i = Order.succ-in (view w) z.0 z.1 q.reg.last c v.walks v.stop l m.0 in record {
        inside = subst (λ l. 0 < times c l) (sym v.line) (let y = i.0 in let x : 0 < times c (z.0 ∷ z.1) = omega arith in x);
        unmarked = m.1;
        follows = subst (λ l. follower q.reg.last l ≡ suc c) (sym v.line) (Order.follower-next (view w) z.0 z.1 q.reg.last c v.walks v.stop v.once l m.0);
        few = (a.grouping.last p rp).2 (λ e. grind (arith, f, e));
      }

  cand-queued : is_queued (known w.passes c) ≡ true
  cand-queued = Order.queued-in (view w) ok.shown c ok.agrees.order.stands at.inside

  no-batch : old.batch ≡ 0
  no-batch = let a = ok.agrees.grouping.mark c in let b = at.unmarked in let e = cand-queued in by (is_queued (known w.passes c)) e (sym a ∙ b)
    where
      by : (b : Bool) → b ≡ true → cond b old.batch 0 ≡ 0 → old.batch ≡ 0
      by true e h = h
      by false e h = absurd (cc)

  no-spin : old.spin ≡ false
  no-spin = by old.spin refl
    where
      by : (b : Bool) → old.spin ≡ b → old.spin ≡ false
      by false e = e
      by true e = absurd (let a = ok.agrees.owed.told c cand-queued e in let b = no-batch in omega arith)

  not-own : c ≢ p
  not-own e = let a = (ok.agrees.grouping.walker p (ok.agrees.grouping.walks p rp)).1 in let b = at.unmarked in let m : mark_of ok.shown p ≡ 0 = subst (λ z. mark_of ok.shown z ≡ 0) e b in omega arith

  count-small : more < 65536
  count-small = let a = at.few in let b = ok.limit.1 in omega arith

  abbrev ring : Nap
  ring = cond (sleeps t.rules n) (Ring c) Awake

  -- the pass after the row
  v-is : marked t.rules.limit q ring ≡ T.marked t.rules q.reg n
  v-is = λ j. record { phase = cond (nat_lt more t.rules.limit) Next Give; reg = record q.reg { prev = cond (q.reg.prev == q.reg.last) c q.reg.prev; last = c; count = same j }; nap = ring }
    where
      same : more ≡ more % 65536
      same = let a = count-small in omega arith

  abbrev v : PassState
  v = marked t.rules.limit q ring

  unparked : parks t.rules.form ≡ false → parked_of n ≡ false
  unparked s = ok.agrees.owed.parked c ∙ ap announces (ok.agrees.owed.spinning s c).0

  calls : Calls t.rules.form (view w) p c new v
  calls = let own = in-round v (still-round t.rules.limit (view w) ok.shown ok.giver p ok.agrees.order ok.agrees.grouping f ring (parks t.rules.form) at.inside) in
      let k = quiet t.rules.limit (view w) ok.shown ok.giver p ok.agrees.order ok.agrees.grouping f ring (parks t.rules.form) at.inside in record {
        awake = nap;
        other = not-own;
        parked = refl;
        keeps = λ e. keeps old.ready old.spin no-spin e;
        wakes = λ e. wakes (parks t.rules.form) refl e;
        rings = ap (λ b. cond b (Ring c) Awake) (sleeps-is t n unparked);
        same = λ e h i. wakes-if old.parked old.ready old.spin e i;
        places = places (sleeps t.rules n) (nat_lt more t.rules.limit);
        spinning = λ s. s;
        told = λ a b. omega arith;
        grouped = λ s a b d. s;
        fresh = λ e. absurd (let z = cand-queued in grind (arith, e, z));
        own_told = λ a. ok.agrees.owed.told p (sym k.queued ∙ a);
        own_grouped = λ s a b. ok.agrees.owed.grouped s p (sym k.queued ∙ a) (sym k.fore ∙ b);
        own_fresh = λ e. absurd (own.swap e);
      }
    where
      keeps : (r s : Bool) → s ≡ false → (r || s) ≡ true → (r || parks t.rules.form) ≡ true
      keeps true s e h = refl
      keeps false true e h = absurd (cc)
      keeps false false e h = absurd (cc)

      wakes : (b : Bool) → parks t.rules.form ≡ b → asleep old ≡ true → (old.ready || parks t.rules.form) ≡ true
      wakes true e h = turn old.ready (parks t.rules.form) e
        where
          turn : (r s : Bool) → s ≡ true → (r || s) ≡ true
          turn true s e = refl
          turn false s e = e
      wakes false e h = absurd (let z = unparked e in none old.parked old.ready old.spin z h)
        where
          none : (a b c : Bool) → a ≡ false → (a && not b && not c) ≡ true → ⊥
          none true b c e h = cc
          none false b c e h = cc

      places : (a b : Bool) → fits (cond a (Ring c) Awake) (cond b Next Give) ≡ true
      places true true = refl
      places true false = refl
      places false b = refl

  abbrev s' : Line
  s' = kept t.rules.limit (view w) ok.shown p

  in-marks : c < length ok.shown.mark
  in-marks = let a = ok.of_passes.line c at.inside in let b = ok.of_passes.marks in omega arith

  abbrev w' : View
  w' = record (view w) { node = updated (view w).node c new; pass = updated (view w).pass p v }

  agrees : Agrees t w' s' ok.giver
  agrees = let a = ok.agrees in let z = Order.scene (view w) ok.shown ok.giver q.reg.last a.order last-in in
      let own = in-round v (still-round t.rules.limit (view w) ok.shown ok.giver p a.order a.grouping f ring (parks t.rules.form) at.inside) in let was = in-round q rp in record {
        order = mark-order t.rules.limit (view w) ok.shown ok.giver p a.order a.grouping f ring (parks t.rules.form) at.inside (slice_set ok.shown.mark c more) (λ i d. mark-set ok.shown.mark c more i in-marks ∙ Chain.updated-else (mark_of ok.shown) c i more d);
        grouping = mark-grouping t.rules.limit (view w) ok.shown ok.giver p z.0 z.1 a.order a.grouping z.2 f in-marks ring (parks t.rules.form);
        holding = stay (count t) (view w).held (view w).readers (known w.passes) ok.shown.hold a.holding p v (below-count t w ok p below) (view w).readers (own.holding ∙ sym was.holding) refl (let x = was.backing in let y = own.backing in omega arith);
        registered = registered-set t.rules.form (view w) w' p v refl refl (λ z i h. a.registered.late z h) a.registered (record {
          writing = λ e. absurd (let z = own.writing in cc);
          reading = λ e. absurd (let z = own.reading in cc);
          writers = λ x i. a.registered.writers x p was.idle;
          no_compare = λ x. own.compare;
          no_or = λ x. own.grab;
          saw = λ e. absurd (own.compare e);
          late = λ e. absurd (own.late e);
          seen = λ e. absurd (picks (nat_lt more t.rules.limit) e);
        });
        owed = owed-call t.rules.form (view w) p c new v a.owed calls;
      }
    where
      picks : (b : Bool) → decide_to_pick (cond b Next Give) ≡ true → ⊥
      picks true e = cc
      picks false e = cc

  pub law-mark : Advances t w ok (Keep p) (record { words = set w.words (index (StateOf c)) (bit_or n (65536 * (q.reg.count + 1) + cond (parks t.rules.form) 8 0)); passes = set w.passes p (T.marked t.rules q.reg n) })
  law-mark = let a = ok.agrees in let m = or-mark n (ok.formed (StateOf c)) more (parks t.rules.form) (let x = at.few in let y = ok.limit.1 in omega arith) no-spin no-batch in
      let marked = batch-last t.rules.limit (view w) ok.shown ok.giver p a.order a.grouping rp in
      let last_is : batch_end ok.shown ≡ q.reg.last = (let x : last_marked (mark_of ok.shown) ok.shown.line - 1 ≡ q.reg.last = omega arith in x) in
      let number = (a.grouping.last p rp).1 in
      let follows = at.follows in
      let cand_is : follower (batch_end ok.shown) ok.shown.line - 1 ≡ c = ap (λ l. follower l ok.shown.line - 1) last_is ∙ (let x : follower q.reg.last ok.shown.line - 1 ≡ c = omega arith in x) in
      let number_is : mark_of ok.shown (batch_end ok.shown) + 1 ≡ more = ap (λ l. mark_of ok.shown l + 1) last_is ∙ ap (λ l. l + 1) number in
      subst (λ (z : PassState). Advances t w ok (Keep p) (record { words = set w.words (index (StateOf c)) (bit_or n (65536 * more + cond (parks t.rules.form) 8 0)); passes = set w.passes p z })) v-is
      (advance-state t w ok p below v (Keep p) ok.giver refl
      (q.reg.last, record { active = a.grouping.walks p rp; last = marked }, (a.order.round p rp).hand_is ∙ (λ j. cond (ap has_hand f j) (suc c) 0), (let x = at.few in let y : mark_of ok.shown q.reg.last < t.rules.limit = omega arith in y), (let y : 0 < follower q.reg.last ok.shown.line = omega arith in y))
      (below-count t w ok p below) c (bit_or n (65536 * more + cond (parks t.rules.form) 8 0)) (ok.of_passes.line c at.inside) m.form
      (subst (λ (z : Line). Agrees t (written_state (view w) c (bit_or n (65536 * more + cond (parks t.rules.form) 8 0)) p v) z ok.giver) (λ j. record ok.shown { mark = slice_set ok.shown.mark (sym cand_is j) (sym number_is j) })
      (subst (λ (z : NodeState). Agrees t (record (view w) { node = updated (view w).node c z; pass = updated (view w).pass p v }) s' ok.giver) (sym m.is) agrees)))

pub mark-law : (t : Terms) → LawOf t Mark
mark-law t = at-phase t Mark (λ w p c ok below nap f. law-mark t w p ok below nap f)
