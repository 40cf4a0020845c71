-- From what a step does to the world as it is read to the law of that step, for each kind of word.
use Rattle.std.proofs.Common.{◌≡◌, ℕ, ◌<◌, ◌≤◌, Bool, cond, length, set, length-set, refl, sym, ap, ◌∙◌, subst, ⊎_elim, arith}
use Rattle.shfl_line.specs.declared.events.LineEvent.{LineEvent}
use Rattle.shfl_line.specs.declared.events.LineEvent.TheVariants.{Nothing as NothingEvent}
use Rattle.shfl_line.specs.Steps.{Admits, after, NamesBelow}
use Rattle.shfl_line.proofs.EachStep.{of_passes_after}
use Rattle.shfl_core.specs.declared.phase.Phase.{Phase}
use Rattle.shfl_core.specs.declared.phase.Nap.{Nap}
use Rattle.shfl_core.specs.declared.phase.Nap.TheVariants.{Awake}
use Rattle.shfl_core.specs.declared.phase.PassState.{PassState}
use Rattle.shfl_core.specs.declared.words.Word.{Word}
use Rattle.shfl_core.specs.declared.words.Word.TheVariants.{Lock, Tail, Next, State, Attr, Bell}
use Rattle.shfl_core.specs.Words.{look, wide, index, site}
use Rattle.shfl_core.specs.Plan.{plan, plan_at, plan_by, is_awake}
use Rattle.shfl_core.specs.Take.{take_at, take_by}
use Rattle.shfl_core.specs.Waiting.{idle}
use Rattle.shfl_core.specs.Worlds.{World, known, stepped, after_access}
use Rattle.shfl_core.specs.View.{View, view}
use Rattle.shfl_core.specs.Events.{event, event_at}
use Rattle.shfl_core.specs.Lawful.{Terms, count, Formed, Agrees, Lawful, Advances, LawOf, NapLawOf}
use Rattle.shfl_core.proofs.Lists.{seen-at, at-read, at-set, set-read}
use Rattle.shfl_laws.proofs.words.Frame.{formed-set, look-else, view-load, view-lock, view-tail, view-next, view-state, view-bell, passed, written_lock, written_tail, written_next, written_state, written_bell}

-- the step of a pass at a phase that is known
pub at-phase : (t : Terms) (f : Phase)
    → ((w : World) (p : ℕ) (choice : Bool) (ok : Lawful t w) → p < length w.passes → (known w.passes p).nap ≡ Awake → (known w.passes p).phase ≡ f
    → Advances t w ok (event_at t.rules p (known w.passes p).reg (look w.words (site (plan_at t.rules p (known w.passes p).reg f))) f)
    (after_access w p (plan_at t.rules p (known w.passes p).reg f) (take_at t.rules p (known w.passes p).reg (look w.words (site (plan_at t.rules p (known w.passes p).reg f))) choice f)))
    → LawOf t f
at-phase t f law w p q choice ok at nap phase = let e = seen-at w.passes p q (idle p) at in
    let own : known w.passes p ≡ q = e.0 in
    let n : (known w.passes p).nap ≡ Awake = ap (λ (z : PassState). z.nap) own ∙ nap in
    let g : (known w.passes p).phase ≡ f = ap (λ (z : PassState). z.phase) own ∙ phase in
    subst (λ (z : PassState). Advances t w ok (event t.rules p z (look w.words (site (plan t.rules p z)))) (stepped t.rules w p z choice)) own
    (subst (λ (z : Nap × Phase). Advances t w ok (cond (is_awake z.0) (event_at t.rules p (known w.passes p).reg (look w.words (site (plan_by t.rules p (known w.passes p).reg z.0 z.1))) z.1) NothingEvent)
    (after_access w p (plan_by t.rules p (known w.passes p).reg z.0 z.1) (take_by t.rules p (known w.passes p).reg (look w.words (site (plan_by t.rules p (known w.passes p).reg z.0 z.1))) choice z.0 z.1)))
    (λ j. (sym n j, sym g j)) (law w p choice ok e.1 n g))

-- the step of a pass in a park state that is known
pub at-nap : (t : Terms) (n : Nap)
    → ((w : World) (p : ℕ) (choice : Bool) (ok : Lawful t w) → p < length w.passes → (known w.passes p).nap ≡ n
    → Advances t w ok (cond (is_awake n) (event_at t.rules p (known w.passes p).reg (look w.words (site (plan_by t.rules p (known w.passes p).reg n (known w.passes p).phase))) (known w.passes p).phase) NothingEvent)
    (after_access w p (plan_by t.rules p (known w.passes p).reg n (known w.passes p).phase) (take_by t.rules p (known w.passes p).reg (look w.words (site (plan_by t.rules p (known w.passes p).reg n (known w.passes p).phase))) choice n (known w.passes p).phase)))
    → NapLawOf t n
at-nap t n law w p q choice ok at nap = let e = seen-at w.passes p q (idle p) at in
    let own : known w.passes p ≡ q = e.0 in
    let m : (known w.passes p).nap ≡ n = ap (λ (z : PassState). z.nap) own ∙ nap in
    subst (λ (z : PassState). Advances t w ok (event t.rules p z (look w.words (site (plan t.rules p z)))) (stepped t.rules w p z choice)) own
    (subst (λ (z : Nap). Advances t w ok (cond (is_awake z) (event_at t.rules p (known w.passes p).reg (look w.words (site (plan_by t.rules p (known w.passes p).reg z (known w.passes p).phase))) (known w.passes p).phase) NothingEvent)
    (after_access w p (plan_by t.rules p (known w.passes p).reg z (known w.passes p).phase) (take_by t.rules p (known w.passes p).reg (look w.words (site (plan_by t.rules p (known w.passes p).reg z (known w.passes p).phase))) choice z (known w.passes p).phase)))
    (sym m) (law w p choice ok e.1 m))

module _ (t : Terms) (w : World) (ok : Lawful t w) (p : ℕ) (below : p < length w.passes) where
  pub below-count : p < count t
  below-count = let s = ok.seats in omega arith

  -- a word becomes n, the pass goes on at v, and the line state makes the step e
  module _ (u : Word) (n : ℕ) (v : PassState) (e : LineEvent) (giver : ℕ) where
    advance : index u < length w.words → ((q : ℕ) → look (set w.words (index u) n) (Attr q) ≡ look w.words (Attr q)) → Formed u n → v.reg.me ≡ (known w.passes p).reg.me
        → Admits t.rules.limit ok.shown e → NamesBelow (count t) e
        → Agrees t (view (record { words = set w.words (index u) n; passes = set w.passes p v })) (after ok.shown e) giver
        → Advances t w ok e (record { words = set w.words (index u) n; passes = set w.passes p v })
    advance room attrs form me may names agrees = record {
      lawful = record {
        room = length-set w.words (index u) n ∙ ok.room;
        seats = subst (λ m. m ≤ count t) (sym (length-set w.passes p v)) ok.seats;
        few = ok.few;
        limit = ok.limit;
        formed = formed-set w.words u n room form ok.formed;
        attrs = λ q h. attrs q ∙ ok.attrs q h;
        numbers = λ i z g. ⊎_elim
            (λ a. ap (λ (x : PassState). x.reg.me) (sym a.1) ∙ (me ∙ (ok.numbers p (known w.passes p) (at-read w.passes p (idle p) below) ∙ sym a.0)))
            (λ a. ok.numbers i z a)
            (at-set w.passes p i v z g);
        shown = after ok.shown e;
        giver = giver;
        of_passes = of_passes_after t.rules.limit (count t) ok.shown e ok.of_passes names may;
        agrees = agrees;
      };
      admitted = may;
      shown = refl;
    }

  has-word : (u : Word) → index u < wide (count t) → index u < length w.words
  has-word u h = let r = ok.room in omega arith

  -- the same by the word that is written
  module _ (v : PassState) (e : LineEvent) (giver : ℕ) (me : v.reg.me ≡ (known w.passes p).reg.me) (may : Admits t.rules.limit ok.shown e) (names : NamesBelow (count t) e) where
    pub advance-load : (u : Word) → index u < wide (count t) → Agrees t (passed (view w) p v) (after ok.shown e) giver → Advances t w ok e (record { words = set w.words (index u) (look w.words u); passes = set w.passes p v })
    advance-load u h a = advance u (look w.words u) v e giver (has-word u h) (λ q. ap (λ l. look l (Attr q)) (set-read w.words (index u) 0)) (ok.formed u) me may names
        (subst (λ (z : View). Agrees t z (after ok.shown e) giver) (view-load w p v below u) a)

    pub advance-lock : (n : ℕ) → Formed Lock n → Agrees t (written_lock (view w) n p v) (after ok.shown e) giver → Advances t w ok e (record { words = set w.words (index Lock) n; passes = set w.passes p v })
    advance-lock n f a = let h : index Lock < wide (count t) = omega arith in advance Lock n v e giver (has-word Lock h) (λ q. look-else w.words Lock (Attr q) n (λ d. omega arith)) f me may names
        (subst (λ (z : View). Agrees t z (after ok.shown e) giver) (view-lock w p v below n (has-word Lock h)) a)

    pub advance-tail : (n : ℕ) → Formed Tail n → Agrees t (written_tail (view w) n p v) (after ok.shown e) giver → Advances t w ok e (record { words = set w.words (index Tail) n; passes = set w.passes p v })
    advance-tail n f a = let h : index Tail < wide (count t) = omega arith in advance Tail n v e giver (has-word Tail h) (λ q. look-else w.words Tail (Attr q) n (λ d. omega arith)) f me may names
        (subst (λ (z : View). Agrees t z (after ok.shown e) giver) (view-tail w p v below n (has-word Tail h)) a)

    pub advance-next : (i n : ℕ) → i < count t → Formed (Next i) n → Agrees t (written_next (view w) i n p v) (after ok.shown e) giver → Advances t w ok e (record { words = set w.words (index (Next i)) n; passes = set w.passes p v })
    advance-next i n b f a = let h : index (Next i) < wide (count t) = omega arith in advance (Next i) n v e giver (has-word (Next i) h) (λ q. look-else w.words (Next i) (Attr q) n (λ d. omega arith)) f me may names
        (subst (λ (z : View). Agrees t z (after ok.shown e) giver) (view-next w p v below i n (has-word (Next i) h)) a)

    pub advance-state : (i n : ℕ) → i < count t → Formed (State i) n → Agrees t (written_state (view w) i n p v) (after ok.shown e) giver → Advances t w ok e (record { words = set w.words (index (State i)) n; passes = set w.passes p v })
    advance-state i n b f a = let h : index (State i) < wide (count t) = omega arith in advance (State i) n v e giver (has-word (State i) h) (λ q. look-else w.words (State i) (Attr q) n (λ d. omega arith)) f me may names
        (subst (λ (z : View). Agrees t z (after ok.shown e) giver) (view-state w p v below i n (has-word (State i) h)) a)

    pub advance-bell : (i n : ℕ) → i < count t → Formed (Bell i) n → Agrees t (written_bell (view w) i n p v) (after ok.shown e) giver → Advances t w ok e (record { words = set w.words (index (Bell i)) n; passes = set w.passes p v })
    advance-bell i n b f a = let h : index (Bell i) < wide (count t) = omega arith in advance (Bell i) n v e giver (has-word (Bell i) h) (λ q. look-else w.words (Bell i) (Attr q) n (λ d. omega arith)) f me may names
        (subst (λ (z : View). Agrees t z (after ok.shown e) giver) (view-bell w p v below i n (has-word (Bell i) h)) a)
