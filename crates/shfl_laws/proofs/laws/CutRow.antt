-- The law of Cut: the head takes its own number out of the tail word, and leaves an empty queue or has a pass joining behind it.
use Rattle.std.proofs.Common.{◌≡◌, ◌≢◌, ℕ, zero, suc, ◌+◌, ◌<◌, List, [], ◌∷◌, Bool, true, false, cond, ◌==◌, length, set, refl, sym, ap, ◌∙◌, subst, add-one, arith}
use Rattle.std.specs.Prelude.{None}
use Rattle.std.proofs.lemmas.Bool.Decides.{nat_tests}
use prog.Atomic.{either}
use Rattle.shfl_line.specs.declared.events.LineEvent.TheVariants.{Leave, Nothing}
use Rattle.shfl_line.specs.Line.{Line, active_shuffler, IsWellFormed}
use Rattle.shfl_line.specs.Words.{link_word}
use Rattle.shfl_line.specs.Passes.{updated, times, first, without, end}
use Rattle.shfl_line.specs.Steps.{after}
use Rattle.shfl_line.proofs.Chain
use Rattle.shfl_line.proofs.KeptLine.{tail-of}
use Rattle.shfl_core.specs.declared.phase.Phase.TheVariants.{Cut, Late, Open, Ready, Swap}
use Rattle.shfl_core.specs.declared.phase.Nap.TheVariants.{Awake}
use Rattle.shfl_core.specs.declared.phase.PassState.{PassState}
use Rattle.shfl_core.specs.declared.words.Word.TheVariants.{Tail}
use Rattle.shfl_core.specs.Words.{look, index}
use Rattle.shfl_core.specs.Take.{to}
use Rattle.shfl_core.specs.Worlds.{World, known}
use Rattle.shfl_core.specs.Phases.{is_round, is_queued, is_linking}
use Rattle.shfl_core.specs.View.{View, view}
use Rattle.shfl_core.specs.Order.{Order as Ordered, Walks}
use Rattle.shfl_core.specs.Grouping.{Grouping}
use Rattle.shfl_core.specs.Holding.{backs}
use Rattle.shfl_core.specs.Lawful.{Terms, count, Lawful, Agrees, Advances, LawOf}
use Rattle.shfl_laws.proofs.words.Advance.{at-phase, advance-tail, below-count}
use Rattle.shfl_laws.proofs.words.Frame.{written_tail}
use Rattle.shfl_laws.proofs.rows.Holding.{stay}
use Rattle.shfl_laws.proofs.rows.LeaveGroup.{leave-grouping}
use Rattle.shfl_laws.proofs.laws.LeaveRows.{Leaving, at-cut, at-late, front, may-leave, room, fine, fine-after, goes-leaving}
use Rattle.shfl_laws.proofs.rows.Order as Orders
use Rattle.shfl_laws.proofs.kept.OwedFrames.{owed-awake}
use Rattle.shfl_laws.proofs.kept.QuietAgrees.{quiet-agrees}
use Rattle.shfl_laws.proofs.kept.Registered.{registered-set}

-- the head is the queue's last too: nobody else is queued
module _ (limit : ℕ) (w : View) (s : Line) (g p : ℕ) (v : PassState) (o : Ordered w s g) (k : Grouping limit w s) (wf : IsWellFormed limit s)
    (head : first s.line ≡ suc p) (tail : w.tail ≡ suc p) (was : is_round (w.pass p).phase ≡ false) (giver : g ≡ 0)
    (gone : is_queued v ≡ false) (calm : is_round v.phase ≡ false) (linked : is_linking v.phase ≡ false) (ready : v.phase ≢ Ready) (swap : v.phase ≢ Swap) where
  lone-line : s.line ≡ p ∷ []
  lone-line = let t = tail-of p s.line head in by t.0 t.1
    where
      by : (xs : List ℕ) → s.line ≡ p ∷ xs → s.line ≡ p ∷ []
      by [] e = e
      by (x ∷ xs) e = absurd (let u = Orders.scene-at w s g p (x ∷ xs) o e in let a = u.tail in let i : end x xs ≡ p = omega arith in
          let b : 0 < times p (x ∷ xs) = subst (λ z. 0 < times z (x ∷ xs)) i (Chain.end-in x xs) in let c = u.once p in grind (arith, nat_tests))

  stop : w.next p ≡ 0
  stop = (Orders.scene-at w s g p [] o lone-line).stop

  -- nobody is detached, since nobody is in a round
  no-hand : s.hand ≡ None
  no-hand = by (active_shuffler s.role) refl
    where
      by : (n : ℕ) → active_shuffler s.role ≡ n → s.hand ≡ None
      by zero e = o.still e
      by (suc q) e = absurd (let t = k.walker q e in let i : 0 < times q (p ∷ []) = subst (λ (l : List ℕ). 0 < times q l) lone-line (wf.in_line q t.1) in
          let n : q ≢ p = λ j. (let a : is_round (w.pass p).phase ≡ true = subst (λ z. is_round (w.pass z).phase ≡ true) j t.0 in cc) in grind (arith, nat_tests))

  none-queued : (q : ℕ) → q ≢ p → is_queued (w.pass q) ≡ false
  none-queued q n = let a = o.stands q in let b : times q s.line ≡ times q (p ∷ []) = ap (times q) lone-line in let c : link_word s.hand ≡ 0 = ap link_word no-hand in
      by (is_queued (w.pass q)) (let d : times q (p ∷ []) ≡ 0 = grind (arith, nat_tests) in let e : cond {A = ℕ} (link_word s.hand == suc q) 1 0 ≡ 0 = grind (arith, nat_tests) in omega arith)
    where
      by : (b : Bool) → cond {A = ℕ} b 1 0 ≡ 0 → b ≡ false
      by true e = absurd (omega arith)
      by false e = refl

  abbrev then : View
  then = record w { tail = 0; pass = updated w.pass p v }

  pub none-left : (q : ℕ) → is_queued (then.pass q) ≡ false
  none-left = Chain.updated-all (λ q t. is_queued t ≡ false) w.pass p v gone none-queued

  linking-queued : (q : PassState) → is_linking q.phase ≡ true → is_queued q ≡ true
  linking-queued q e = grind (arith, e)

  rounds-queued : (q : PassState) → is_round q.phase ≡ true → is_queued q ≡ true
  rounds-queued q e = grind (arith, e)

  no-link : (q : ℕ) → is_linking (then.pass q).phase ≡ true → ⊥
  no-link q e = let a = linking-queued (then.pass q) e in let b = none-left q in cc

  no-round : (q : ℕ) → is_round (then.pass q).phase ≡ true → ⊥
  no-round q e = let a = rounds-queued (then.pass q) e in let b = none-left q in cc

  empty-line : without p s.line ≡ []
  empty-line = ap (without p) lone-line ∙ Chain.without-hit p p [] refl

  pub cut-order : Ordered then (after s (Leave p)) g
  cut-order = record {
    walks = subst (λ (l : List ℕ). Walks then l) (sym empty-line) refl;
    fronted = record {
      who = Chain.updated-all (λ q t. t.phase ≡ Ready → g ≡ suc q) w.pass p v (λ e. absurd (ready e)) (λ q n. o.fronted.who q);
      is = λ q e. absurd (omega arith);
      only = λ q e. absurd (let b = none-left q in cc);
      front = λ q _ e. absurd (let a : first (without p s.line) ≡ 0 = ap first empty-line in omega arith);
      heir = λ q e. absurd (omega arith);
      linking = λ q e. absurd (no-link q e);
    };
    stands = λ q. (let a : times q (without p s.line) ≡ 0 = ap (times q) empty-line in let b : link_word s.hand ≡ 0 = ap link_word no-hand in
        let c : cond {A = ℕ} (link_word s.hand == suc q) 1 0 ≡ 0 = grind (arith, nat_tests) in let d : cond {A = ℕ} (is_queued (then.pass q)) 1 0 ≡ 0 = (λ j. cond (none-left q j) 1 0) in omega arith);
    clean = λ q. record {
      next = λ _. Chain.by_eq q p (λ i. subst (λ z. w.next z ≡ 0) (sym i) stop) (λ n. (o.clean q).next (none-queued q n));
      init = Chain.updated-all (λ q t. t.phase ≡ Swap → ((w.node q).batch ≡ 0) × ((w.node q).shuffler ≡ false) × ((w.node q).ready ≡ false) × (t.reg.batch ≡ 0) × (t.reg.flag ≡ false)) w.pass p v
          (λ e. absurd (swap e)) (λ q n. (o.clean q).init) q;
    };
    links = λ q e. absurd (no-link q e);
    round = λ q e. absurd (no-round q e);
    still = λ _. no-hand;
  }

module _ (t : Terms) (w : World) (p : ℕ) (ok : Lawful t w) (below : p < length w.passes) (nap : (known w.passes p).nap ≡ Awake) (f : (known w.passes p).phase ≡ Cut) where
  abbrev q : PassState
  q = known w.passes p

  l : Leaving (known w.passes p)
  l = at-cut (known w.passes p) f

  abbrev v : PassState
  v = to Open (known w.passes p).reg

  no-backs : backs q ≡ 0
  no-backs = (λ j. cond (l.backing j) 1 0)

  won : look w.words Tail ≡ suc p → Agrees t (written_tail (view w) 0 p v) (after ok.shown (Leave p)) ok.giver
  won e = record {
    order = cut-order t.rules.limit (view w) ok.shown ok.giver p v ok.agrees.order ok.agrees.grouping (fine t w p ok below nap l) (front t w p ok below nap l).0 e l.calm (front t w p ok below nap l).1 refl refl refl (λ e. absurd (cc)) (λ e. absurd (cc));
    grouping = leave-grouping t.rules.limit (view w) ok.shown p v ok.agrees.order.stands ok.agrees.grouping (fine t w p ok below nap l) (fine-after t w p ok below nap l) (room t w p ok below nap l) (front t w p ok below nap l).0 l.calm refl refl refl (λ e. absurd (cc));
    holding = stay (count t) (view w).held (view w).readers (known w.passes) ok.shown.hold ok.agrees.holding p v (below-count t w ok p below) (view w).readers (sym l.holding) refl (let a = no-backs in omega arith);
    registered = registered-set t.rules.form (view w) (written_tail (view w) 0 p v) p v refl refl (λ z n e i. absurd (omega arith)) ok.agrees.registered (record {
      writing = λ e. absurd (cc);
      reading = λ e. absurd (cc);
      writers = λ x _. ok.agrees.registered.writers x p l.idle;
      no_compare = λ x e. absurd (cc);
      no_or = λ x e. absurd (cc);
      saw = λ e. absurd (cc);
      late = λ e. absurd (cc);
      seen = λ e. absurd (cc);
    });
    owed = owed-awake t.rules.form (view w) (written_tail (view w) 0 p v) p v refl refl refl nap ok.agrees.owed (record { awake = refl; told = λ e. absurd (cc); grouped = λ _ e. absurd (cc); fresh = λ e. absurd (cc) });
  }

  law-cut : (b : Bool) → (look w.words Tail == p + 1) ≡ b → Advances t w ok (cond b (Leave p) Nothing)
      (record { words = set w.words (index Tail) (either b 0 (look w.words Tail)); passes = set w.passes p (to (cond b Open Late) q.reg) })
  law-cut true e = advance-tail t w ok p below v (Leave p) ok.giver refl (may-leave t w p ok below nap l) (below-count t w ok p below) 0 (omega arith)
      (won (let a : look w.words Tail ≡ p + 1 = grind (arith, nat_tests) in a ∙ add-one p))
  law-cut false e = advance-tail t w ok p below (to Late q.reg) Nothing ok.giver refl tt tt (look w.words Tail) (ok.formed Tail)
      (quiet-agrees t (view w) ok.shown ok.giver p (to Late q.reg) ok.agrees nap
      (goes-leaving t w p ok below nap l Late (at-late (to Late q.reg) refl) refl refl ((λ e. absurd (cc)), (λ e. absurd (cc)), (λ e. absurd (cc)), (λ e. absurd (cc))) refl
      (λ _ i. (let a : look w.words Tail ≡ p + 1 = i ∙ sym (add-one p) in grind (arith, nat_tests))))
      (view w).held (view w).closed (view w).readers ok.shown.hold
      (stay (count t) (view w).held (view w).readers (known w.passes) ok.shown.hold ok.agrees.holding p (to Late q.reg) (below-count t w ok p below) (view w).readers (sym l.holding) refl (let a = no-backs in omega arith)))

pub cut-law : (t : Terms) → LawOf t Cut
cut-law t = at-phase t Cut (λ w p c ok below nap f. law-cut t w p ok below nap f (look w.words Tail == p + 1) refl)
