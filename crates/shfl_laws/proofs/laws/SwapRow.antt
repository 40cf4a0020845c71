-- The law of Swap: a pass joins the line by exchanging the tail word.
use Rattle.std.proofs.Common.{◌≡◌, ◌≢◌, ℕ, zero, suc, ◌+◌, ◌<◌, List, [], ◌∷◌, ◌++◌, true, false, cond, length, set, refl, sym, ap, ◌∙◌, subst, add-one, arith}
use Rattle.std.specs.Prelude.{slice_index, slice_set}
use Rattle.shfl_line.specs.declared.events.LineEvent.TheVariants.{Join}
use Rattle.shfl_line.specs.Line.{Line, mark_of, active_shuffler, idle_shuffler}
use Rattle.shfl_line.specs.Passes.{updated, end, IsLastMarked}
use Rattle.shfl_line.specs.Steps.{after}
use Rattle.shfl_line.proofs.Chain
use Rattle.shfl_line.proofs.Batches.{mark-set, prefix-push, prefix-cong}
use Rattle.shfl_core.specs.declared.phase.Phase.TheVariants.{Swap, Begin, Give, Late, WriteGrab, Grab}
use Rattle.shfl_core.specs.declared.phase.Nap.TheVariants.{Awake}
use Rattle.shfl_core.specs.declared.phase.PassState.{PassState}
use Rattle.shfl_core.specs.declared.words.Word.TheVariants.{Tail}
use Rattle.shfl_core.specs.Words.{look, index}
use Rattle.shfl_core.specs.Take.{swap_found}
use Rattle.shfl_core.specs.Worlds.{World, known}
use Rattle.shfl_core.specs.Phases.{is_round, is_queued, knows, is_holding, is_writing, is_reading, decide_to_pick}
use Rattle.shfl_core.specs.View.{View, view}
use Rattle.shfl_core.specs.Order.{Order as Ordered, Walks}
use Rattle.shfl_core.specs.Grouping.{Grouping}
use Rattle.shfl_core.specs.Holding.{backs}
use Rattle.shfl_core.specs.Lawful.{Terms, count, Lawful, Agrees, Advances, LawOf}
use Rattle.shfl_laws.proofs.words.Advance.{at-phase, advance-tail, below-count}
use Rattle.shfl_laws.proofs.rows.Counts.{not-holding, away}
use Rattle.shfl_laws.proofs.words.Frame.{written_tail}
use Rattle.shfl_laws.proofs.rows.Holding.{stay}
use Rattle.shfl_laws.proofs.rows.Join.{joined, first-order, behind-order}
use Rattle.shfl_laws.proofs.rows.Order as Orders
use Rattle.shfl_laws.proofs.kept.OwedFrames.{owed-awake}
use Rattle.shfl_laws.proofs.kept.Registered.{registered-set}
use Rattle.shfl_laws.proofs.rows.Remark.{order-lower, last-same, last-joined}
use Rattle.shfl_laws.proofs.rows.Rows.{row_swap}

-- into an empty line, or behind its last
swap-order : (limit : ℕ) (w : View) (s : Line) (g p : ℕ) → Ordered w s g → Grouping limit w s → (w.pass p).phase ≡ Swap → Ordered (row_swap w p) (joined s p) g
swap-order limit w s g p o k f = by s.line refl
  where
    by : (l : List ℕ) → s.line ≡ l → Ordered (row_swap w p) (joined s p) g
    by [] e = first-order limit w s g p o k f (subst (λ (l : List ℕ). Walks w l) e o.walks) e
    by (x ∷ xs) e = let v = Orders.scene-at w s g x xs o e in behind-order limit w s g p o k f (end x xs) x xs v.tail v

-- the pass was away, without a batch number, and its state word says nothing
module _ (limit : ℕ) (w : View) (s : Line) (g p : ℕ) (o : Ordered w s g) (k : Grouping limit w s) (f : (w.pass p).phase ≡ Swap) (room : p < length s.mark) where
  gone : is_queued (w.pass p) ≡ false
  gone = grind (arith, f)

  none : mark_of s p ≡ 0
  none = k.mark p ∙ (λ j. cond (gone j) (w.node p).batch 0)

  abbrev marks : ℕ → ℕ
  marks = slice_index (slice_set s.mark p 0)

  same : (q : ℕ) → marks q ≡ mark_of s q
  same q = mark-set s.mark p 0 q room ∙ Chain.updated-all (λ z n. n ≡ mark_of s z) (mark_of s) p 0 (sym none) (λ z n. refl) q

  module _ (v : PassState) (queued : is_queued v ≡ true) (calm : is_round v.phase ≡ false) (plain : v.phase ≢ Begin)
      (knows-v : (v.reg.batch ≡ 0) × (v.reg.flag ≡ false)) (tail : ℕ) where
    abbrev then : View
    then = record w { tail = tail; pass = updated w.pass p v }

    other : (q : ℕ) → is_queued (w.pass q) ≡ true → q ≢ p
    other q h i = let a : is_queued (w.pass p) ≡ true = subst (λ z. is_queued (w.pass z) ≡ true) i h in let b = gone in cc

    pass-else : (q : ℕ) → q ≢ p → then.pass q ≡ w.pass q
    pass-else q n = Chain.updated-else w.pass p q v n

    rounds-queued : (q : PassState) → is_round q.phase ≡ true → is_queued q ≡ true
    rounds-queued q h = grind (arith, h)

    pub join-grouping : Grouping limit then (after s (Join p))
    join-grouping = let i = (o.clean p).init f in record {
      mark = λ q. same q ∙ Chain.updated-all (λ z t. mark_of s z ≡ cond (is_queued t) (w.node z).batch 0) w.pass p v
          (none ∙ (sym i.0 ∙ (λ j. cond (sym queued j) (w.node p).batch 0))) (λ z n. k.mark z) q;
      hand = λ q e. same q ∙ k.hand q e;
      within = λ q. (let a = same q in let b = k.within q in omega arith);
      walks = Chain.updated-all (λ q t. is_round t.phase ≡ true → active_shuffler s.role ≡ suc q) w.pass p v (λ e. absurd (cc)) (λ q n. k.walks q);
      walker = λ q e. (let t = k.walker q e in let n = other q (rounds-queued (w.pass q) t.0) in (ap (λ (z : PassState). is_round z.phase) (pass-else q n) ∙ t.0, (let a = same q in let b = t.1 in omega arith)));
      flagged = Chain.updated-all (λ q t. is_queued t ≡ true → (w.node q).shuffler ≡ true → idle_shuffler s.role ≡ suc q) w.pass p v (λ _ e. absurd (let a = i.1 in cc)) (λ q n. k.flagged q);
      rester = λ q e. (let t = k.rester q e in (ap is_queued (pass-else q (other q t.0)) ∙ t.0, t.1));
      prefix = prefix-cong (mark_of s) marks (s.line ++ p ∷ []) (λ q _. sym (same q)) (prefix-push (mark_of s) p s.line none k.prefix);
      rests = λ q e. last-same (mark_of s) marks (s.line ++ p ∷ []) q (λ z _. sym (same z)) (last-joined (mark_of s) s.line q p none (k.rests q e));
      last = Chain.updated-all (λ q t. is_round t.phase ≡ true → IsLastMarked marks (s.line ++ p ∷ []) t.reg.last × (marks t.reg.last ≡ t.reg.count) × (t.phase ≢ Give → t.reg.count < limit)) w.pass p v
          (λ e. absurd (cc))
          (λ q n e. let t = k.last q e in (last-same (mark_of s) marks (s.line ++ p ∷ []) (w.pass q).reg.last (λ z _. sym (same z)) (last-joined (mark_of s) s.line (w.pass q).reg.last p none t.0), same (w.pass q).reg.last ∙ t.1, t.2));
      known = Chain.updated-all (λ q t. knows t.phase ≡ true → (t.reg.batch ≡ (w.node q).batch) × (t.reg.flag ≡ (w.node q).shuffler)) w.pass p v
          (λ _. (knows-v.0 ∙ sym i.0, knows-v.1 ∙ sym i.1)) (λ q n. k.known q);
      begins = Chain.updated-all (λ q t. t.phase ≡ Begin → t.reg.flag ≡ false → (t.reg.headed ≡ true) × (t.reg.batch ≡ 0)) w.pass p v (λ e. absurd (plain e)) (λ q n. k.begins q);
    }

  join-order : Ordered (row_swap w p) (after s (Join p)) g
  join-order = order-lower (row_swap w p) (joined s p) g s.role (slice_set s.mark p 0) (λ q e. same q ∙ e) o.still (swap-order limit w s g p o k f)

-- the pass after the step, at the head of an empty queue or behind a pass
record Joins (q v : PassState) : Type 0 where
  awake : v.nap ≡ Awake
  me : v.reg.me ≡ q.reg.me
  queued : is_queued v ≡ true
  calm : is_round v.phase ≡ false
  begin : v.phase ≢ Begin
  swap : v.phase ≢ Swap
  batch : v.reg.batch ≡ q.reg.batch
  flag : v.reg.flag ≡ q.reg.flag
  mode : v.reg.mode ≡ q.reg.mode
  holding : is_holding v.phase ≡ false
  backing : backs v ≡ 0
  writing : is_writing v.phase ≡ false
  reading : is_reading v.phase ≡ false
  compare : v.phase ≢ WriteGrab
  grab : v.phase ≢ Grab
  late : v.phase ≢ Late
  picks : decide_to_pick v.phase ≡ false

joins : (q : PassState) (n : ℕ) → Joins q (swap_found q.reg n)
joins q zero = record { awake = refl; me = refl; queued = refl; calm = refl; begin = λ e. absurd (cc); swap = λ e. absurd (cc); batch = refl; flag = refl; mode = refl; holding = refl; backing = refl; writing = refl; reading = refl; compare = λ e. absurd (cc); grab = λ e. absurd (cc); late = λ e. absurd (cc); picks = refl }
joins q (suc b) = record { awake = refl; me = refl; queued = refl; calm = refl; begin = λ e. absurd (cc); swap = λ e. absurd (cc); batch = refl; flag = refl; mode = refl; holding = refl; backing = refl; writing = refl; reading = refl; compare = λ e. absurd (cc); grab = λ e. absurd (cc); late = λ e. absurd (cc); picks = refl }

module _ (t : Terms) (w : World) (p : ℕ) (ok : Lawful t w) (below : p < length w.passes) (nap : (known w.passes p).nap ≡ Awake) (f : (known w.passes p).phase ≡ Swap) where
  abbrev q : PassState
  q = known w.passes p

  abbrev v : PassState
  v = swap_found (known w.passes p).reg (look w.words Tail)

  j : Joins q v
  j = joins q (look w.words Tail)

  room : p < length ok.shown.mark
  room = let a = ok.of_passes.marks in let b = below-count t w ok p below in omega arith

  joined-agrees : Agrees t (written_tail (view w) (suc p) p v) (after ok.shown (Join p)) ok.giver
  joined-agrees = record {
    order = join-order t.rules.limit (view w) ok.shown ok.giver p ok.agrees.order ok.agrees.grouping f room;
    grouping = join-grouping t.rules.limit (view w) ok.shown ok.giver p ok.agrees.order ok.agrees.grouping f room v j.queued j.calm j.begin (j.batch ∙ ((ok.agrees.order.clean p).init f).3, j.flag ∙ ((ok.agrees.order.clean p).init f).4) (suc p);
    holding = stay (count t) (view w).held (view w).readers (known w.passes) ok.shown.hold ok.agrees.holding p v (below-count t w ok p below) (view w).readers
        (j.holding ∙ (let e : is_holding q.phase ≡ false = grind (arith, f) in sym e)) j.mode (let a = j.backing in let b : backs q ≡ 0 = grind (arith, f) in omega arith);
    registered = registered-set t.rules.form (view w) (written_tail (view w) (suc p) p v) p v refl refl (λ z n _ e. n (omega arith)) ok.agrees.registered (record {
      writing = λ e. absurd (let z = j.writing in cc);
      reading = λ e. absurd (let z = j.reading in cc);
      writers = λ x _. j.mode ∙ ok.agrees.registered.writers x p (λ i. absurd (cc));
      no_compare = λ x e. absurd (j.compare e);
      no_or = λ x e. absurd (j.grab e);
      saw = λ e. absurd (j.compare e);
      late = λ e. absurd (j.late e);
      seen = λ e. absurd (let z = j.picks in cc);
    });
    owed = owed-awake t.rules.form (view w) (written_tail (view w) (suc p) p v) p v refl refl refl nap ok.agrees.owed (record {
      awake = j.awake;
      told = λ _ e. absurd (let z = ok.agrees.owed.fresh p f in cc);
      grouped = λ _ _ _ e. absurd (let z = ((ok.agrees.order.clean p).init f).0 in omega arith);
      fresh = λ e. absurd (j.swap e);
    });
  }

  law-swap : Advances t w ok (Join p) (record { words = set w.words (index Tail) (p + 1); passes = set w.passes p v })
  law-swap = advance-tail t w ok p below v (Join p) ok.giver j.me
      (away (view w) ok.shown p ok.agrees.order.stands (grind (arith, f)), not-holding (count t) (view w).held (view w).readers (known w.passes) ok.shown.hold ok.agrees.holding p (grind (arith, f)))
      (below-count t w ok p below) (p + 1) (let a = ok.few in let b = below-count t w ok p below in omega arith)
      (subst (λ n. Agrees t (written_tail (view w) n p v) (after ok.shown (Join p)) ok.giver) (sym (add-one p)) joined-agrees)

pub swap-law : (t : Terms) → LawOf t Swap
swap-law t = at-phase t Swap (λ w p c ok below nap f. law-swap t w p ok below nap f)
