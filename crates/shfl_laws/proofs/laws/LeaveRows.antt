-- The laws of Take and Late: the head takes its next word, and leaves once that names its successor.
use Rattle.std.proofs.Common.{◌≡◌, ◌≢◌, ℕ, zero, suc, ◌<◌, List, [], ◌∷◌, true, false, cond, ◌||◌, length, set, refl, sym, ap, ◌∙◌, subst, arith}
use Rattle.std.specs.Prelude.{slice_set}
use Rattle.shfl_line.specs.declared.events.LineEvent.TheVariants.{Leave, Nothing}
use Rattle.shfl_line.specs.Line.{Line, IsWellFormed}
use Rattle.shfl_line.specs.Passes.{updated, first, without}
use Rattle.shfl_line.specs.Steps.{after, role_without, Admits}
use Rattle.shfl_line.proofs.Chain
use Rattle.shfl_line.proofs.EachStep.{well_formed_after}
use Rattle.shfl_line.proofs.KeptLine.{tail-of, role-calm}
use Rattle.shfl_core.specs.declared.phase.Phase.{Phase}
use Rattle.shfl_core.specs.declared.phase.Phase.TheVariants.{Idle, Take, Cut, Late, Ready, Swap, Begin, WriteGrab, Grab}
use Rattle.shfl_core.specs.declared.phase.Nap.TheVariants.{Awake}
use Rattle.shfl_core.specs.declared.phase.PassState.{PassState}
use Rattle.shfl_core.specs.declared.words.Word.TheVariants.{Next}
use Rattle.shfl_core.specs.Words.{look, index}
use Rattle.shfl_core.specs.Take.{to, heir_found}
use Rattle.shfl_core.specs.Worlds.{World, known}
use Rattle.shfl_core.specs.Phases.{is_round, is_queued, is_fore, is_linking, knows, is_holding, is_backing, is_writing, is_reading, decide_to_pick}
use Rattle.shfl_core.specs.View.{View, view}
use Rattle.shfl_core.specs.Order.{Order as Ordered}
use Rattle.shfl_core.specs.Holding.{backs}
use Rattle.shfl_core.specs.Events.{leave_found}
use Rattle.shfl_core.specs.Lawful.{Terms, count, Lawful, Agrees, Advances, LawOf}
use Rattle.shfl_laws.proofs.words.Advance.{at-phase, advance-next, below-count}
use Rattle.shfl_laws.proofs.words.Frame.{written_next}
use Rattle.shfl_laws.proofs.rows.Heir.{heir_pass, left, leave-order}
use Rattle.shfl_laws.proofs.rows.Holding.{stay}
use Rattle.shfl_laws.proofs.rows.LeaveGroup.{leave-grouping, lower}
use Rattle.shfl_laws.proofs.rows.Order as Orders
use Rattle.shfl_laws.proofs.kept.OwedFrames.{owed-awake}
use Rattle.shfl_laws.proofs.kept.QuietAgrees.{GoesOn, quiet-agrees}
use Rattle.shfl_laws.proofs.kept.Registered.{registered-set}
use Rattle.shfl_laws.proofs.rows.Remark.{order-lower}
use Rattle.shfl_laws.proofs.shown.WellFormed.{agrees-well-formed, held-some}

-- the phases in which the head takes its next word
pub record Leaving (q : PassState) : Type 0 where
  pub fore : is_fore q ≡ true
  pub calm : is_round q.phase ≡ false
  pub queued : is_queued q ≡ true
  pub linked : is_linking q.phase ≡ false
  pub holding : is_holding q.phase ≡ true
  pub backing : is_backing q.phase ≡ false
  pub knows : knows q.phase ≡ true
  pub ready : q.phase ≢ Ready
  pub idle : q.phase ≢ Idle

pub at-take : (q : PassState) → q.phase ≡ Take → Leaving q
at-take q f = record { fore = grind (arith, f); calm = grind (arith, f); queued = grind (arith, f); linked = grind (arith, f); holding = grind (arith, f); backing = grind (arith, f); knows = grind (arith, f); ready = λ e. absurd (cc); idle = λ e. absurd (cc) }

pub at-late : (q : PassState) → q.phase ≡ Late → Leaving q
at-late q f = record { fore = grind (arith, f); calm = grind (arith, f); queued = grind (arith, f); linked = grind (arith, f); holding = grind (arith, f); backing = grind (arith, f); knows = grind (arith, f); ready = λ e. absurd (cc); idle = λ e. absurd (cc) }

pub at-cut : (q : PassState) → q.phase ≡ Cut → Leaving q
at-cut q f = record { fore = grind (arith, f); calm = grind (arith, f); queued = grind (arith, f); linked = grind (arith, f); holding = grind (arith, f); backing = grind (arith, f); knows = grind (arith, f); ready = λ e. absurd (cc); idle = λ e. absurd (cc) }

-- the pass that the head's next word names stands directly behind it, and has linked
heirs : (w : View) (s : Line) (g p h : ℕ) → Ordered w s g → first s.line ≡ suc p → w.next p ≡ suc h → (ys : List ℕ) × (s.line ≡ p ∷ h ∷ ys) × (is_linking (w.pass h).phase ≡ false)
heirs w s g p h o e found = let t = tail-of p s.line e in by t.0 t.1
  where
    by : (xs : List ℕ) → s.line ≡ p ∷ xs → (ys : List ℕ) × (s.line ≡ p ∷ h ∷ ys) × (is_linking (w.pass h).phase ≡ false)
    by [] l = absurd (let v = Orders.scene-at w s g p [] o l in let a = v.stop in omega arith)
    by (y ∷ ys) l = let v = Orders.scene-at w s g p (y ∷ ys) o l in let k = Orders.link-suc w p y h found v.walks.0 in
        (ys, l ∙ ap (λ z. p ∷ z ∷ ys) k.0, subst (λ z. is_linking (w.pass z).phase ≡ false) k.0 k.1)

module _ (t : Terms) (w : World) (p : ℕ) (ok : Lawful t w) (below : p < length w.passes) (nap : (known w.passes p).nap ≡ Awake) (l : Leaving (known w.passes p)) where
  abbrev q : PassState
  q = known w.passes p

  pub front : (first ok.shown.line ≡ suc p) × (ok.giver ≡ 0)
  front = ok.agrees.order.fronted.only p l.queued (let a = l.fore in ap (λ b. b || ((view w).node p).ready) a)

  pub may-leave : Admits t.rules.limit ok.shown (Leave p)
  may-leave = (front.0, held-some (count t) (view w).held (view w).readers (known w.passes) ok.shown.hold ok.agrees.holding p l.holding)

  pub room : p < length ok.shown.mark
  room = let a = ok.of_passes.marks in let b = below-count t w ok p below in omega arith

  pub fine : IsWellFormed t.rules.limit ok.shown
  fine = agrees-well-formed t (view w) ok.shown ok.giver ok.of_passes ok.agrees

  pub fine-after : IsWellFormed t.rules.limit (after ok.shown (Leave p))
  fine-after = well_formed_after t.rules.limit (count t) ok.shown (Leave p) ok.limit.0 ok.of_passes (below-count t w ok p below) fine may-leave

  no-backs : backs q ≡ 0
  no-backs = (λ j. cond (l.backing j) 1 0)

  -- the successor is found
  module _ (h : ℕ) (found : look w.words (Next p) ≡ suc h) where
    abbrev v : PassState
    v = heir_pass (known w.passes p) h

    heir-order : Ordered (left (view w) p h) (after ok.shown (Leave p)) (suc p)
    heir-order = let x = heirs (view w) ok.shown ok.giver p h ok.agrees.order front.0 found in
        let o = leave-order t.rules.limit (view w) ok.shown ok.giver p h ok.agrees.order ok.agrees.grouping (l.fore, l.calm, l.queued, l.linked) found x.0 x.1
        (Orders.scene-at (view w) ok.shown ok.giver p (h ∷ x.0) ok.agrees.order x.1) x.2 in
        let gone : without p ok.shown.line ≡ h ∷ x.0 = ap (without p) x.1 ∙ Chain.without-hit p p (h ∷ x.0) refl in
        let o' : Ordered (left (view w) p h) (record ok.shown { line = without p ok.shown.line }) (suc p) =
        subst (λ (z : List ℕ). Ordered (left (view w) p h) (record ok.shown { line = z }) (suc p)) (sym gone) o in
        order-lower (left (view w) p h) (record ok.shown { line = without p ok.shown.line }) (suc p) (role_without p ok.shown.role) (slice_set ok.shown.mark p 0)
        (lower t.rules.limit (view w) ok.shown p v ok.agrees.order.stands ok.agrees.grouping fine fine-after room front.0 l.calm refl refl refl (λ e. absurd (cc)))
        (λ e. ok.agrees.order.still (role-calm p ok.shown.role e)) o'

    heir-agrees : Agrees t (written_next (view w) p 0 p v) (after ok.shown (Leave p)) (suc p)
    heir-agrees = record {
      order = heir-order;
      grouping = leave-grouping t.rules.limit (view w) ok.shown p v ok.agrees.order.stands ok.agrees.grouping fine fine-after room front.0 l.calm refl refl refl (λ e. absurd (cc));
      holding = stay (count t) (view w).held (view w).readers (known w.passes) ok.shown.hold ok.agrees.holding p v (below-count t w ok p below) (view w).readers (sym l.holding) refl (let a = no-backs in omega arith);
      registered = registered-set t.rules.form (view w) (written_next (view w) p 0 p v) p v refl refl (λ z n e. ok.agrees.registered.late z e) ok.agrees.registered (record {
        writing = λ e. absurd (cc);
        reading = λ e. absurd (cc);
        writers = λ x _. ok.agrees.registered.writers x p l.idle;
        no_compare = λ x e. absurd (cc);
        no_or = λ x e. absurd (cc);
        saw = λ e. absurd (cc);
        late = λ e. absurd (cc);
        seen = λ e. absurd (cc);
      });
      owed = owed-awake t.rules.form (view w) (written_next (view w) p 0 p v) p v refl refl refl nap ok.agrees.owed (record { awake = refl; told = λ e. absurd (cc); grouped = λ _ e. absurd (cc); fresh = λ e. absurd (cc) });
    }

    pub heir-law : Advances t w ok (Leave p) (record { words = set w.words (index (Next p)) 0; passes = set w.passes p v })
    heir-law = advance-next t w ok p below v (Leave p) (suc p) refl may-leave (below-count t w ok p below) p 0 (below-count t w ok p below) (omega arith) heir-agrees

  -- the successor hasn't linked yet
  pub none-law : (f : Phase) (found : look w.words (Next p) ≡ 0) → GoesOn t (view w) ok.shown p (to f q.reg) → is_holding f ≡ true → is_backing f ≡ false
      → Advances t w ok Nothing (record { words = set w.words (index (Next p)) 0; passes = set w.passes p (to f q.reg) })
  none-law f found on hold back = advance-next t w ok p below (to f q.reg) Nothing ok.giver refl tt tt p 0 (below-count t w ok p below) (omega arith)
      (subst (λ (z : ℕ → ℕ). Agrees t (record (view w) { next = z; pass = updated (known w.passes) p (to f q.reg) }) ok.shown ok.giver) (λ j z. sym (kept z) j)
      (quiet-agrees t (view w) ok.shown ok.giver p (to f q.reg) ok.agrees nap on (view w).held (view w).closed (view w).readers ok.shown.hold
      (stay (count t) (view w).held (view w).readers (known w.passes) ok.shown.hold ok.agrees.holding p (to f q.reg) (below-count t w ok p below) (view w).readers (hold ∙ sym l.holding) refl
      (let a = no-backs in let b : backs (to f q.reg) ≡ 0 = (λ j. cond (back j) 1 0) in omega arith))))
    where
      kept : (z : ℕ) → updated (view w).next p 0 z ≡ (view w).next z
      kept = Chain.updated-all (λ z n. n ≡ (view w).next z) (view w).next p 0 (sym found) (λ z n. refl)

  -- a leaving pass goes on at another phase of its kind
  pub goes-leaving : (f : Phase) → Leaving (to f q.reg) → is_writing f ≡ false → is_reading f ≡ false → (f ≢ Swap) × (f ≢ Begin) × (f ≢ WriteGrab) × (f ≢ Grab) → decide_to_pick f ≡ false
      → (f ≡ Late → (view w).tail ≢ suc p) → GoesOn t (view w) ok.shown p (to f q.reg)
  goes-leaving f m nw nr off picks late = record {
    quiet = record { queued = m.queued ∙ sym l.queued; fore = m.fore ∙ sym l.fore; no_link = (l.linked, m.linked); no_ready = (l.ready, m.ready); no_swap = off.0 };
    awake = refl;
    rounds = m.calm ∙ sym l.calm;
    round = λ e. absurd (let z = m.calm in cc);
    last = λ e. absurd (let z = m.calm in cc);
    known = λ _. ok.agrees.grouping.known p l.knows;
    begins = λ e. absurd (off.1 e);
    registers = record {
      writing = λ e. absurd (cc);
      reading = λ e. absurd (cc);
      writers = λ x _. ok.agrees.registered.writers x p l.idle;
      no_compare = λ x. off.2;
      no_or = λ x. off.3;
      saw = λ e. absurd (off.2 e);
      late = late;
      seen = λ e. absurd (cc);
    };
  }

  -- whatever the next word says
  pub law-leaving : (f : Phase) (n : ℕ) → look w.words (Next p) ≡ n → GoesOn t (view w) ok.shown p (to f q.reg) → is_holding f ≡ true → is_backing f ≡ false
      → Advances t w ok (leave_found p n) (record { words = set w.words (index (Next p)) 0; passes = set w.passes p (heir_found f q.reg n) })
  law-leaving f zero e on hold back = none-law f e on hold back
  law-leaving f (suc h) e on hold back = heir-law h e

pub take-law : (t : Terms) → LawOf t Take
take-law t = at-phase t Take (λ w p c ok below nap f. let l = at-take (known w.passes p) f in law-leaving t w p ok below nap l Cut (look w.words (Next p)) refl
    (goes-leaving t w p ok below nap l Cut (at-cut (to Cut (known w.passes p).reg) refl) refl refl ((λ e. absurd (cc)), (λ e. absurd (cc)), (λ e. absurd (cc)), (λ e. absurd (cc))) refl (λ e. absurd (cc))) refl refl)

pub late-law : (t : Terms) → LawOf t Late
late-law t = at-phase t Late (λ w p c ok below nap f. let l = at-late (known w.passes p) f in law-leaving t w p ok below nap l Late (look w.words (Next p)) refl
    (goes-leaving t w p ok below nap l Late (at-late (to Late (known w.passes p).reg) refl) refl refl ((λ e. absurd (cc)), (λ e. absurd (cc)), (λ e. absurd (cc)), (λ e. absurd (cc))) refl (λ _. ok.agrees.registered.late p f)) refl refl)
