-- The laws of the steps that store a next word, over words: Link, Pick, Aim and Place.
use Rattle.std.proofs.Common.{◌≡◌, ◌≢◌, ℕ, suc, ◌+◌, ◌-◌, ◌<◌, ◌≤◌, Bool, true, false, cond, List, ◌∷◌, length, set, refl, sym, ap, ◌∙◌, subst, ⊎_elim, add-one, arith}
use Rattle.std.specs.Prelude.{None}
use Rattle.shfl_line.specs.declared.events.LineEvent.{LineEvent}
use Rattle.shfl_line.specs.declared.events.LineEvent.TheVariants.{Nothing, Pick as PickEvent, Place as PlaceEvent}
use Rattle.shfl_line.specs.Line.{Line, mark_of}
use Rattle.shfl_line.specs.Steps.{Admits, after, NamesBelow, batch_end}
use Rattle.shfl_line.specs.Words.{link_word}
use Rattle.shfl_line.specs.Passes.{updated, times, EachPair, MarkedFirst, StopsAt, last_marked, put_behind}
use Rattle.shfl_line.proofs.Marks
use Rattle.shfl_line.proofs.Behind.{behind-inside}
use Rattle.shfl_core.specs.declared.phase.Phase.{Phase}
use Rattle.shfl_core.specs.declared.phase.Phase.TheVariants.{Idle, Link, Look, Pick, Aim, Place, Mark, Swap, WriteGrab, Grab, Late}
use Rattle.shfl_core.specs.declared.phase.Nap.TheVariants.{Awake}
use Rattle.shfl_core.specs.declared.phase.PassState.{PassState}
use Rattle.shfl_core.specs.declared.words.Word.TheVariants.{Next as NextOf}
use Rattle.shfl_core.specs.Words.{look, index}
use Rattle.shfl_core.specs.Take.{to}
use Rattle.shfl_core.specs.Waiting.{idle}
use Rattle.shfl_core.specs.Worlds.{World, known}
use Rattle.shfl_core.specs.Phases.{is_round, is_queued, is_fore, has_hand, is_holding, is_backing, is_writing, is_reading, decide_to_pick}
use Rattle.shfl_core.specs.View.{View, view}
use Rattle.shfl_core.specs.Order.{Order as Ordered}
use Rattle.shfl_core.specs.Grouping.{Grouping}
use Rattle.shfl_core.specs.Holding.{Holding, backs}
use Rattle.shfl_core.specs.Lawful.{Terms, count, Agrees, Lawful, Advances, LawOf}
use Rattle.shfl_core.proofs.Lists.{past, below-or}
use Rattle.shfl_laws.proofs.rows.Order
use Rattle.shfl_laws.proofs.rows.Leave.{law_link, link-room}
use Rattle.shfl_laws.proofs.rows.Pick.{picked, law_pick, admits-pick}
use Rattle.shfl_laws.proofs.rows.Place.{placed, law_aim, law_place}
use Rattle.shfl_laws.proofs.kept.Registered.{registered-set}
use Rattle.shfl_laws.proofs.kept.OwedFrames.{owed-awake}
use Rattle.shfl_laws.proofs.words.Advance.{at-phase, advance-next, below-count}
use Rattle.shfl_laws.proofs.words.Frame.{written_next}
use Rattle.shfl_laws.proofs.rows.Holding.{stay}

-- a queued pass is one of the world's
pub queued-below : (l : List PassState) (q : ℕ) → is_queued (known l q) ≡ true → q < length l
queued-below l q h = ⊎_elim (λ b. b) (λ b. absurd (let e : known l q ≡ idle q = past l q (idle q) b in let f : is_queued (idle q) ≡ true = subst (λ (z : PassState). is_queued z ≡ true) e h in cc)) (below-or q (length l))

-- the batch's last, as the line gives it
pub batch-last : (limit : ℕ) (w : View) (s : Line) (g p : ℕ) → Ordered w s g → Grouping limit w s → is_round (w.pass p).phase ≡ true → last_marked (mark_of s) s.line ≡ suc (w.pass p).reg.last
batch-last limit w s g p o k rp = let l = k.last p rp in let t = Order.scene w s g (w.pass p).reg.last o l.0.inside in let v = t.2 in
    subst (λ l. last_marked (mark_of s) l ≡ suc (w.pass p).reg.last) (sym v.line)
    (Marks.last-is (mark_of s) t.0 (w.pass p).reg.last t.1 (subst (λ l. EachPair (MarkedFirst (mark_of s)) l) v.line k.prefix) (subst (λ l. EachPair (StopsAt (mark_of s) (w.pass p).reg.last) l) v.line l.0.stops) v.once
    (subst (λ l. 0 < times (w.pass p).reg.last l) v.line l.0.inside) l.0.marked)

-- what the pass keeps from one phase to the next
record Keeps (f g : Phase) : Type 0 where
  fore : (headed : Bool) → (q : PassState) → q.phase ≡ f → is_fore (to g q.reg) ≡ is_fore q
  queued : (q : PassState) → q.phase ≡ f → (is_queued q ≡ true) × (is_queued (to g q.reg) ≡ true)
  holding : (is_holding f ≡ false) × (is_holding g ≡ false)
  backing : (is_backing f ≡ false) × (is_backing g ≡ false)
  swap : g ≢ Swap
  quiet : (is_writing g ≡ false) × (is_reading g ≡ false) × (decide_to_pick g ≡ false)
  other : (g ≢ WriteGrab) × (g ≢ Grab) × (g ≢ Late)
  idle : f ≢ Idle

module _ (t : Terms) (w : World) (p : ℕ) (ok : Lawful t w) (below : p < length w.passes) (nap : (known w.passes p).nap ≡ Awake) where
  abbrev q : PassState
  q = known w.passes p

  stored : (f g : Phase) → q.phase ≡ f → Keeps f g → (i u : ℕ) (e : LineEvent) → i < count t → u ≤ count t → Admits t.rules.limit ok.shown e → NamesBelow (count t) e
      → (s' : Line) → after ok.shown e ≡ s' → s'.hold ≡ ok.shown.hold
      → Ordered (written_next (view w) i u p (to g q.reg)) s' ok.giver → Grouping t.rules.limit (written_next (view w) i u p (to g q.reg)) s'
      → Advances t w ok e (record { words = set w.words (index (NextOf i)) u; passes = set w.passes p (to g q.reg) })
  stored f g was k i u e near small may names s' same hold order grouping = let few = ok.few in let c = k.queued q was in
      advance-next t w ok p below (to g q.reg) e ok.giver refl may names i u near (let z : u ≤ 4294967296 = omega arith in z)
      (subst (λ (z : Line). Agrees t (written_next (view w) i u p (to g q.reg)) z ok.giver) (sym same) (record {
        order = order;
        grouping = grouping;
        holding = subst (λ z. Holding (count t) (view w).held (view w).readers (updated (known w.passes) p (to g q.reg)) z) (sym hold)
            (stay (count t) (view w).held (view w).readers (known w.passes) ok.shown.hold ok.agrees.holding p (to g q.reg) (below-count t w ok p below) (view w).readers (k.holding.1 ∙ sym (ap is_holding was ∙ k.holding.0)) refl
            (let a : backs q ≡ 0 = (λ j. cond ((ap is_backing was ∙ k.backing.0) j) 1 0) in let b : backs (to g q.reg) ≡ 0 = (λ j. cond (k.backing.1 j) 1 0) in omega arith));
        registered = registered-set t.rules.form (view w) (written_next (view w) i u p (to g q.reg)) p (to g q.reg) refl refl (λ z n h. ok.agrees.registered.late z h) ok.agrees.registered (record {
          writing = λ h. absurd (let z = k.quiet.0 in cc);
          reading = λ h. absurd (let z = k.quiet.1 in cc);
          writers = λ x h. ok.agrees.registered.writers x p (λ y. k.idle (sym was ∙ y));
          no_compare = λ x. k.other.0;
          no_or = λ x. k.other.1;
          saw = λ h. absurd (k.other.0 h);
          late = λ h. absurd (k.other.2 h);
          seen = λ h. absurd (let z = k.quiet.2 in cc);
        });
        owed = owed-awake t.rules.form (view w) (written_next (view w) i u p (to g q.reg)) p (to g q.reg) refl refl refl nap ok.agrees.owed (record {
          awake = refl;
          told = λ h. ok.agrees.owed.told p c.0;
          grouped = λ x h r. ok.agrees.owed.grouped x p c.0 (sym (k.fore q.reg.headed q was) ∙ r);
          fresh = λ h. absurd (k.swap h);
        });
      }))

  law-link : q.phase ≡ Link → Advances t w ok Nothing (record { words = set w.words (index (NextOf q.reg.before)) (p + 1); passes = set w.passes p (to Look q.reg) })
  law-link f = let a = ok.agrees in let laws = law_link t.rules.limit (view w) ok.shown ok.giver p a.order a.grouping f in
      let b = queued-below w.passes q.reg.before (link-room t.rules.limit (view w) ok.shown ok.giver p a.order a.grouping f) in let c = below-count t w ok p below in let s = ok.seats in
      stored Link Look f
      (record { fore = λ b z e. grind (arith, e); queued = λ z e. (grind (arith, e), refl); holding = (refl, refl); backing = (refl, refl); swap = λ i. grind arith; quiet = (refl, refl, refl); other = (λ i. grind arith, λ i. grind arith, λ i. grind arith); idle = λ i. grind arith })
      q.reg.before (p + 1) Nothing (omega arith) (omega arith) tt tt ok.shown refl refl
      (subst (λ n. Ordered (written_next (view w) q.reg.before n p (to Look q.reg)) ok.shown ok.giver) (sym (add-one p)) laws.0)
      (subst (λ n. Grouping t.rules.limit (written_next (view w) q.reg.before n p (to Look q.reg)) ok.shown) (sym (add-one p)) laws.1)

  -- what a next word of the line names is a pass of the line
  pub named : (a b : ℕ) → 0 < times a ok.shown.line → look w.words (NextOf a) ≡ suc b → b < count t
  named a b h e = let z = Order.scene (view w) ok.shown ok.giver a ok.agrees.order h in let v = z.2 in
      let i = Order.succ-in (view w) z.0 z.1 a b v.walks v.stop (subst (λ l. 0 < times a l) v.line h) e in
      ok.of_passes.line b (subst (λ l. 0 < times b l) (sym v.line) (let y = i.0 in let x : 0 < times b (z.0 ∷ z.1) = omega arith in x))

  in-line : (a : ℕ) → 0 < times a ok.shown.line → a < count t
  in-line a h = ok.of_passes.line a h

  -- the detached waiter is a pass that is there
  pub hand-there : is_round q.phase ≡ true → has_hand q.phase ≡ true → (link_word ok.shown.hand ≡ suc q.reg.cand) × (q.reg.cand < count t)
  hand-there a b = let e : link_word ok.shown.hand ≡ suc q.reg.cand = (ok.agrees.order.round p a).hand_is ∙ (λ j. cond (b j) (suc q.reg.cand) 0) in (e, ok.of_passes.hand q.reg.cand e)

  law-pick-row : q.phase ≡ Pick → Advances t w ok (PickEvent p q.reg.cand) (record { words = set w.words (index (NextOf q.reg.prev)) (q.reg.after + 1); passes = set w.passes p (to Aim q.reg) })
  law-pick-row f = let a = ok.agrees in let laws = law_pick t.rules.limit (view w) ok.shown ok.giver p a.order a.grouping f in let may = admits-pick t.rules.limit (view w) ok.shown ok.giver p a.order a.grouping f in
      let r = a.order.round p (ap is_round f) in let c = may.4 in
      let cand_in : 0 < times q.reg.cand ok.shown.line = behind-inside q.reg.cand may.0 ok.shown.line c.behind in
      let b = named q.reg.cand q.reg.after cand_in (r.after_next f) in
      stored Pick Aim f
      (record { fore = λ b z e. grind (arith, e); queued = λ z e. (grind (arith, e), refl); holding = (refl, refl); backing = (refl, refl); swap = λ i. grind arith; quiet = (refl, refl, refl); other = (λ i. grind arith, λ i. grind arith, λ i. grind arith); idle = λ i. grind arith })
      q.reg.prev (q.reg.after + 1) (PickEvent p q.reg.cand) (in-line q.reg.prev r.prev_in) (omega arith) may (below-count t w ok p below, in-line q.reg.cand cand_in) (picked ok.shown q.reg.cand) refl refl
      (subst (λ n. Ordered (written_next (view w) q.reg.prev n p (to Aim q.reg)) (picked ok.shown q.reg.cand) ok.giver) (sym (add-one q.reg.after)) laws.0)
      (subst (λ n. Grouping t.rules.limit (written_next (view w) q.reg.prev n p (to Aim q.reg)) (picked ok.shown q.reg.cand)) (sym (add-one q.reg.after)) laws.1)

  law-aim-row : q.phase ≡ Aim → Advances t w ok Nothing (record { words = set w.words (index (NextOf q.reg.cand)) (q.reg.first + 1); passes = set w.passes p (to Place q.reg) })
  law-aim-row f = let a = ok.agrees in let laws = law_aim t.rules.limit (view w) ok.shown ok.giver p a.order a.grouping f in
      let r = a.order.round p (ap is_round f) in let l = (a.grouping.last p (ap is_round f)).0 in
      let b = named q.reg.last q.reg.first l.inside (r.first_next (grind (arith, f)) (r.apart (grind (arith, f)))) in
      stored Aim Place f
      (record { fore = λ b z e. grind (arith, e); queued = λ z e. (grind (arith, e), refl); holding = (refl, refl); backing = (refl, refl); swap = λ i. grind arith; quiet = (refl, refl, refl); other = (λ i. grind arith, λ i. grind arith, λ i. grind arith); idle = λ i. grind arith })
      q.reg.cand (q.reg.first + 1) Nothing (hand-there (ap is_round f) (ap has_hand f)).1 (omega arith) tt tt ok.shown refl refl
      (subst (λ n. Ordered (written_next (view w) q.reg.cand n p (to Place q.reg)) ok.shown ok.giver) (sym (add-one q.reg.first)) laws.0)
      (subst (λ n. Grouping t.rules.limit (written_next (view w) q.reg.cand n p (to Place q.reg)) ok.shown) (sym (add-one q.reg.first)) laws.1)

  law-place-row : q.phase ≡ Place → Advances t w ok (PlaceEvent p) (record { words = set w.words (index (NextOf q.reg.last)) (q.reg.cand + 1); passes = set w.passes p (to Mark q.reg) })
  law-place-row f = let a = ok.agrees in let laws = law_place t.rules.limit (view w) ok.shown ok.giver p a.order a.grouping f in
      let l = (a.grouping.last p (ap is_round f)).0 in let hand = hand-there (ap is_round f) (ap has_hand f) in
      let marked = batch-last t.rules.limit (view w) ok.shown ok.giver p a.order a.grouping (ap is_round f) in
      let b = hand.1 in let h = hand.0 in
      let end_is : batch_end ok.shown ≡ q.reg.last = (let x : last_marked (mark_of ok.shown) ok.shown.line - 1 ≡ q.reg.last = omega arith in x) in
      let hand_is : link_word ok.shown.hand - 1 ≡ q.reg.cand = omega arith in
      stored Place Mark f
      (record { fore = λ b z e. grind (arith, e); queued = λ z e. (grind (arith, e), refl); holding = (refl, refl); backing = (refl, refl); swap = λ i. grind arith; quiet = (refl, refl, refl); other = (λ i. grind arith, λ i. grind arith, λ i. grind arith); idle = λ i. grind arith })
      q.reg.last (q.reg.cand + 1) (PlaceEvent p) (in-line q.reg.last l.inside) (omega arith)
      (q.reg.last, record { active = a.grouping.walks p (ap is_round f); last = marked }, (let x : 0 < link_word ok.shown.hand = omega arith in x)) (below-count t w ok p below) (placed ok.shown q.reg.last q.reg.cand)
      (λ j. record ok.shown { line = put_behind (end_is j) (hand_is j) ok.shown.line; hand = None }) refl
      (subst (λ n. Ordered (written_next (view w) q.reg.last n p (to Mark q.reg)) (placed ok.shown q.reg.last q.reg.cand) ok.giver) (sym (add-one q.reg.cand)) laws.0)
      (subst (λ n. Grouping t.rules.limit (written_next (view w) q.reg.last n p (to Mark q.reg)) (placed ok.shown q.reg.last q.reg.cand)) (sym (add-one q.reg.cand)) laws.1)

pub link-law : (t : Terms) → LawOf t Link
link-law t = at-phase t Link (λ w p c ok below nap f. law-link t w p ok below nap f)

pub pick-law : (t : Terms) → LawOf t Pick
pick-law t = at-phase t Pick (λ w p c ok below nap f. law-pick-row t w p ok below nap f)

pub aim-law : (t : Terms) → LawOf t Aim
aim-law t = at-phase t Aim (λ w p c ok below nap f. law-aim-row t w p ok below nap f)

pub place-law : (t : Terms) → LawOf t Place
place-law t = at-phase t Place (λ w p c ok below nap f. law-place-row t w p ok below nap f)
