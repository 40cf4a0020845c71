-- The law of Begin, from its bits, its order and its grouping.
use Rattle.std.proofs.Common.{◌≡◌, ◌≢◌, ℕ, zero, suc, ◌+◌, ◌<◌, ◌≤◌, ◌==◌, Bool, true, false, cond, List, length, set, refl, sym, ap, ◌∙◌, inl, subst, arith}
use Rattle.std.specs.Prelude.{bit_xor, nat_lt, max, slice_set, slice_index}
use Rattle.std.proofs.lemmas.Bool.Decides.{nat_tests}
use Rattle.shfl_line.specs.declared.events.Role.{Role}
use Rattle.shfl_line.specs.declared.events.Role.TheVariants.{Nobody, Walk}
use Rattle.shfl_line.specs.declared.events.LineEvent.{LineEvent}
use Rattle.shfl_line.specs.declared.events.LineEvent.TheVariants.{Begin as BeginEvent, Rest}
use Rattle.shfl_line.specs.declared.words.NodeState.{NodeState}
use Rattle.shfl_line.specs.Line.{Line, mark_of, idle_shuffler}
use Rattle.shfl_line.specs.Steps.{Admits, after, NamesBelow, MayBegin, begun_mark}
use Rattle.shfl_line.specs.Words.{link_word, state_of}
use Rattle.shfl_line.specs.Passes.{updated, times}
use Rattle.shfl_line.proofs.Chain
use Rattle.shfl_line.proofs.Batches.{mark-set}
use Rattle.shfl_core.specs.declared.phase.Phase.{Phase}
use Rattle.shfl_core.specs.declared.phase.Phase.TheVariants.{Begin, Next, Give}
use Rattle.shfl_core.specs.declared.phase.Registers.{Registers as Regs}
use Rattle.shfl_core.specs.declared.phase.Nap.TheVariants.{Awake}
use Rattle.shfl_core.specs.declared.phase.PassState.{PassState}
use Rattle.shfl_core.specs.declared.words.Word.TheVariants.{State as StateOf}
use Rattle.shfl_core.specs.Words.{look, index}
use Rattle.shfl_core.specs.Plan.{parks, round_batch}
use Rattle.shfl_core.specs.Take.{to, done}
use Rattle.shfl_core.specs.Worlds.{World, known}
use Rattle.shfl_core.specs.Phases.{is_round, is_queued, is_fore, is_holding, knows, decide_to_pick}
use Rattle.shfl_core.specs.View.{view}
use Rattle.shfl_core.specs.Order.{Round}
use Rattle.shfl_core.specs.Holding.{backs}
use Rattle.shfl_core.specs.Order.{Order as Ordered}
use Rattle.shfl_core.specs.Grouping.{Grouping}
use Rattle.shfl_core.specs.Lawful.{Terms, count, Agrees, Lawful, Advances, LawOf}
use Rattle.shfl_laws.proofs.rows.Quiet.{Quiet, moved}
use Rattle.shfl_laws.proofs.kept.Registered.{Registers, registered-set}
use Rattle.shfl_laws.proofs.kept.OwedFrames.{owed-awake}
use Rattle.shfl_laws.proofs.kept.OwedBatch.{SameCall, owed-batch}
use Rattle.shfl_laws.proofs.words.BeginBits.{xor-begin}
use Rattle.shfl_laws.proofs.rows.BeginRow.{Start, Flagged, Fresh, start, begins-from, hand-empty, in-line}
use Rattle.shfl_laws.proofs.rows.BeginGroup.{begin-order, walk-grouping, full-grouping}
use Rattle.shfl_laws.proofs.rows.RoundApart.{at-next, at-give}
use Rattle.shfl_laws.proofs.rows.RoundLoads.{in-round}
use Rattle.shfl_laws.proofs.rows.GiveRow.{ended}
use Rattle.shfl_laws.proofs.rows.Counts.{not-holding}
use Rattle.shfl_laws.proofs.words.Advance.{at-phase, advance-state, below-count}
use Rattle.shfl_laws.proofs.words.Frame.{written_state}
use Rattle.shfl_laws.proofs.rows.Holding.{stay}

module _ (t : Terms) (w : World) (p : ℕ) (ok : Lawful t w) (below : p < length w.passes) (nap : (known w.passes p).nap ≡ Awake) (f : (known w.passes p).phase ≡ Begin) where
  abbrev q : PassState
  q = known w.passes p

  abbrev n : ℕ
  n = look w.words (StateOf p)

  abbrev num : ℕ
  num = max 1 q.reg.batch

  abbrev rest : Regs
  rest = record q.reg { batch = num; flag = false }

  abbrev new : NodeState
  new = record (state_of n) { shuffler = false; batch = num }

  queued : is_queued q ≡ true
  queued = grind (arith, f)

  started : Start (view w) ok.shown p
  started = start t.rules.limit (view w) ok.shown ok.giver p ok.agrees.order ok.agrees.grouping f

  knowing : (q.reg.batch ≡ (state_of n).batch) × (q.reg.flag ≡ (state_of n).shuffler)
  knowing = ok.agrees.grouping.known p (ap knows f)

  mark-is : mark_of ok.shown p ≡ q.reg.batch
  mark-is = ok.agrees.grouping.mark p ∙ ((λ j. cond (queued j) (state_of n).batch 0) ∙ sym knowing.0)

  number-is : begun_mark (mark_of ok.shown p) ≡ num
  number-is = ap begun_mark mark-is ∙ by q.reg.batch
    where
      by : (b : ℕ) → begun_mark b ≡ max 1 b
      by zero = omega arith
      by (suc b) = let z : (suc b == 0) ≡ false = grind (arith, nat_tests) in (λ j. cond (z j) 1 (suc b)) ∙ (let y : suc b ≡ max 1 (suc b) = omega arith in y)

  abbrev mark : List ℕ
  mark = slice_set ok.shown.mark p (begun_mark (mark_of ok.shown p))

  in-marks : p < length ok.shown.mark
  in-marks = let a = ok.of_passes.marks in let b = below-count t w ok p below in omega arith

  mark-own : slice_index mark p ≡ num
  mark-own = mark-set ok.shown.mark p (begun_mark (mark_of ok.shown p)) p in-marks ∙ (Chain.updated-same (mark_of ok.shown) p (begun_mark (mark_of ok.shown p)) ∙ number-is)

  mark-else : (i : ℕ) → i ≢ p → slice_index mark i ≡ mark_of ok.shown i
  mark-else i d = mark-set ok.shown.mark p (begun_mark (mark_of ok.shown p)) i in-marks ∙ Chain.updated-else (mark_of ok.shown) p i (begun_mark (mark_of ok.shown p)) d

  most : num ≤ t.rules.limit
  most = let a = ok.agrees.grouping.within p in let b = mark-is in let c = ok.limit.0 in omega arith

  -- the pass goes on, and the state word is written: what the two cases share
  begins : (v : PassState) (e : LineEvent) (role : Role) → v.nap ≡ Awake → Quiet q v → v.reg.me ≡ q.reg.me → v.reg.mode ≡ q.reg.mode → is_holding v.phase ≡ false → backs v ≡ 0 → Registers t.rules.form (view w).tail (view w).attr p v
      → Admits t.rules.limit ok.shown e → NamesBelow (count t) e → after ok.shown e ≡ record ok.shown { mark = mark; role = role }
      → Ordered (moved (view w) (view w).held (view w).closed (view w).readers (updated (view w).node p new) p v) (record ok.shown { mark = mark; role = role }) ok.giver
      → Grouping t.rules.limit (moved (view w) (view w).held (view w).closed (view w).readers (updated (view w).node p new) p v) (record ok.shown { mark = mark; role = role })
      → Advances t w ok e (record { words = set w.words (index (StateOf p)) (bit_xor n (cond (q.reg.batch == 0) 65536 0 + cond q.reg.flag 2 0)); passes = set w.passes p v })
  begins v e role awake quiet me mode holding backing registers may names same order grouping = let s = xor-begin n (ok.formed (StateOf p)) q.reg.batch q.reg.flag knowing.0 knowing.1 in let a = ok.agrees in
      advance-state t w ok p below v e ok.giver me may names p (bit_xor n (cond (q.reg.batch == 0) 65536 0 + cond q.reg.flag 2 0)) (below-count t w ok p below) s.form
      (subst (λ (z : Line). Agrees t (written_state (view w) p (bit_xor n (cond (q.reg.batch == 0) 65536 0 + cond q.reg.flag 2 0)) p v) z ok.giver) (sym same)
      (subst (λ (z : NodeState). Agrees t (record (view w) { node = updated (view w).node p z; pass = updated (view w).pass p v }) (record ok.shown { mark = mark; role = role }) ok.giver) (sym s.is) (record {
        order = order;
        grouping = grouping;
        holding = stay (count t) (view w).held (view w).readers (known w.passes) ok.shown.hold a.holding p v (below-count t w ok p below) (view w).readers (holding ∙ sym (ap is_holding f)) mode (let x : backs q ≡ 0 = grind (arith, f) in let y = backing in omega arith);
        registered = registered-set t.rules.form (view w) (record (view w) { node = updated (view w).node p new; pass = updated (view w).pass p v }) p v refl refl (λ z i h. a.registered.late z h) a.registered registers;
        owed = owed-batch t.rules.form (record (view w) { pass = updated (view w).pass p v }) (updated (view w).node p new)
            (Chain.updated-all (λ i z. SameCall ((view w).node i) z) (view w).node p new (record { ready = refl; parked = refl; spin = refl }) (λ i d. record { ready = refl; parked = refl; spin = refl }))
            (λ i h x. told i (sym (queued-same i) ∙ h) x)
            (λ y i h r x. grouped y i (sym (queued-same i) ∙ h) (sym (fore-same i) ∙ r) x)
            (owed-awake t.rules.form (view w) (record (view w) { pass = updated (view w).pass p v }) p v refl refl refl nap a.owed (record {
              awake = awake;
              told = λ i. a.owed.told p (sym quiet.queued ∙ i);
              grouped = λ x i r. a.owed.grouped x p (sym quiet.queued ∙ i) (sym quiet.fore ∙ r);
              fresh = λ h. absurd (quiet.no_swap h);
            }));
      })))
    where
      queued-same : (i : ℕ) → is_queued (updated (view w).pass p v i) ≡ is_queued ((view w).pass i)
      queued-same = Chain.updated-all (λ i z. is_queued z ≡ is_queued ((view w).pass i)) (view w).pass p v quiet.queued (λ i d. refl)

      fore-same : (i : ℕ) → is_fore (updated (view w).pass p v i) ≡ is_fore ((view w).pass i)
      fore-same = Chain.updated-all (λ i z. is_fore z ≡ is_fore ((view w).pass i)) (view w).pass p v quiet.fore (λ i d. refl)

      told : (i : ℕ) → is_queued ((view w).pass i) ≡ true → (updated (view w).node p new i).spin ≡ true → 0 < (updated (view w).node p new i).batch
      told = Chain.updated-all (λ i z. is_queued ((view w).pass i) ≡ true → z.spin ≡ true → 0 < z.batch) (view w).node p new (λ h x. omega arith) (λ i d. ok.agrees.owed.told i)

      -- a pass that begins without a number is the queue's head
      grouped : parks t.rules.form ≡ true → (i : ℕ) → is_queued ((view w).pass i) ≡ true → is_fore ((view w).pass i) ≡ false → 0 < (updated (view w).node p new i).batch → (updated (view w).node p new i).spin ≡ true
      grouped y = Chain.updated-all (λ i z. is_queued ((view w).pass i) ≡ true → is_fore ((view w).pass i) ≡ false → 0 < z.batch → z.spin ≡ true) (view w).node p new
          (λ h r x. ok.agrees.owed.grouped y p h r (some started r)) (λ i d. ok.agrees.owed.grouped y i)
        where
          some : Start (view w) ok.shown p → is_fore q ≡ false → 0 < (state_of n).batch
          some (Flagged i m) r = let a = mark-is in let b = knowing.0 in omega arith
          some (Fresh e z x) r = absurd (let k = ok.agrees.grouping.known p (ap knows f) in headed q.reg.flag refl)
            where
              headed : (b : Bool) → q.reg.flag ≡ b → ⊥
              headed true e = let i = ok.agrees.grouping.flagged p queued (sym knowing.1 ∙ e) in let j : idle_shuffler ok.shown.role ≡ 0 = ap idle_shuffler x in absurd (omega arith)
              headed false e = let h = (ok.agrees.grouping.begins p f e).0 in absurd (grind (arith, f, h, r))

  -- the modes and registers of the pass where the round begins
  may : (e : LineEvent) → MayBegin ok.shown p
  may e = record { waits = not-holding (count t) (view w).held (view w).readers (known w.passes) ok.shown.hold ok.agrees.holding p (grind (arith, f)); may = begins-from t.rules.limit (view w) ok.shown ok.giver p ok.agrees.order ok.agrees.grouping started }

  walks : (g : Phase) → is_round g ≡ true → (g ≢ Begin) → decide_to_pick g ≡ false → num < t.rules.limit → ((m : ℕ → ℕ) → Round (view w).next m (view w).tail ok.shown.line (link_word ok.shown.hand) (to g (record rest { prev = p; last = p; count = num })))
      → Advances t w ok (BeginEvent p) (record { words = set w.words (index (StateOf p)) (bit_xor n (cond (q.reg.batch == 0) 65536 0 + cond q.reg.flag 2 0)); passes = set w.passes p (to g (record rest { prev = p; last = p; count = num })) })
  walks g r nb np few round = let v : PassState = to g (record rest { prev = p; last = p; count = num }) in let b = in-round v r in
      let quiet : Quiet q v = record { queued = b.queued ∙ sym queued; fore = b.fore ∙ sym (grind (arith, f)); no_link = (grind (arith, f), b.link); no_ready = (λ i. grind (arith, f, i), b.ready); no_swap = b.swap } in
      let some : 0 < num = omega arith in
      begins v (BeginEvent p) (Walk p) refl quiet refl refl b.holding b.backing (record {
        writing = λ e. absurd (let z = b.writing in cc);
        reading = λ e. absurd (let z = b.reading in cc);
        writers = λ x i. ok.agrees.registered.writers x p (λ y. grind (arith, f, y));
        no_compare = λ x. b.compare;
        no_or = λ x. b.grab;
        saw = λ e. absurd (b.compare e);
        late = λ e. absurd (b.late e);
        seen = λ e. absurd (let z = np in cc);
      })
      (may (BeginEvent p), subst (λ z. z < t.rules.limit) (sym number-is) few) (below-count t w ok p below) refl
      (begin-order t.rules.limit (view w) ok.shown ok.giver p ok.agrees.order ok.agrees.grouping started queued num some most v quiet refl refl nb mark mark-own mark-else (Walk p) (λ _ m. round m))
      (walk-grouping t.rules.limit (view w) ok.shown ok.giver p ok.agrees.order ok.agrees.grouping started queued num some most v quiet refl refl nb mark mark-own mark-else r refl refl few)

  here : 0 < times p ok.shown.line
  here = in-line t.rules.limit (view w) ok.shown ok.giver p ok.agrees.order ok.agrees.grouping started queued

  no-hand : link_word ok.shown.hand ≡ 0
  no-hand = hand-empty t.rules.limit (view w) ok.shown ok.giver p ok.agrees.order ok.agrees.grouping started

  next-round : (m : ℕ → ℕ) → Round (view w).next m (view w).tail ok.shown.line (link_word ok.shown.hand) (to Next (record rest { prev = p; last = p; count = num }))
  next-round m = at-next (view w).next m (view w).tail ok.shown.line (link_word ok.shown.hand) (record rest { prev = p; last = p; count = num }) Awake here (inl refl) no-hand (λ d. absurd (d refl))

  give-round : (m : ℕ → ℕ) → Round (view w).next m (view w).tail ok.shown.line (link_word ok.shown.hand) (to Give (record rest { prev = p; last = p; count = num }))
  give-round m = at-give (view w).next m (view w).tail ok.shown.line (link_word ok.shown.hand) (record rest { prev = p; last = p; count = num }) Awake here (inl refl) no-hand

  -- the batch has reached the limit: the pass goes on without a round
  full : t.rules.limit ≤ num → Advances t w ok (Rest p) (record { words = set w.words (index (StateOf p)) (bit_xor n (cond (q.reg.batch == 0) 65536 0 + cond q.reg.flag 2 0)); passes = set w.passes p (to (done rest) rest) })
  full many = let v : PassState = to (done rest) rest in let b = ended q rest refl in
      let quiet : Quiet q v = record { queued = b.queued ∙ sym queued; fore = b.fore ∙ sym (grind (arith, f)); no_link = (grind (arith, f), b.link); no_ready = (λ i. grind (arith, f, i), b.ready); no_swap = b.swap } in
      let some : 0 < num = omega arith in
      begins v (Rest p) Nobody refl quiet refl refl b.holding b.backing (record {
        writing = b.writing;
        reading = b.reading;
        writers = λ x i. ok.agrees.registered.writers x p (λ y. grind (arith, f, y));
        no_compare = λ x. b.compare;
        no_or = λ x. b.grab;
        saw = λ e. absurd (b.compare e);
        late = λ e. absurd (b.late e);
        seen = λ e. absurd (let z = b.picks in cc);
      })
      (may (Rest p), subst (λ z. t.rules.limit ≤ z) (sym number-is) many) (below-count t w ok p below) refl
      (begin-order t.rules.limit (view w) ok.shown ok.giver p ok.agrees.order ok.agrees.grouping started queued num some most v quiet refl refl b.begin mark mark-own mark-else Nobody (λ e m. absurd (let z = b.round in cc)))
      (full-grouping t.rules.limit (view w) ok.shown ok.giver p ok.agrees.order ok.agrees.grouping started queued num some most v quiet refl refl b.begin mark mark-own mark-else b.round)

  pub law-begin : (b : Bool) → nat_lt num t.rules.limit ≡ b → (skip : Bool) → Advances t w ok (cond b (BeginEvent p) (Rest p)) (record { words = set w.words (index (StateOf p)) (bit_xor n (cond (q.reg.batch == 0) 65536 0 + cond q.reg.flag 2 0)); passes = set w.passes p (cond b (to (cond skip Give Next) (record rest { prev = p; last = p; count = num })) (to (done rest) rest)) })
  law-begin true e true = walks Give refl (λ i. grind arith) refl (grind (arith, nat_tests, e)) give-round
  law-begin true e false = walks Next refl (λ i. grind arith) refl (grind (arith, nat_tests, e)) next-round
  law-begin false e skip = full (grind (arith, nat_tests, e))

pub begin-law : (t : Terms) → LawOf t Begin
begin-law t = at-phase t Begin (λ w p c ok below nap f. law-begin t w p ok below nap f (nat_lt (round_batch (known w.passes p).reg) t.rules.limit) refl c)
