-- A waiter looks at its state word: it is the head, or the shuffler, or it waits on, and parks where it is in no batch.
use Rattle.std.proofs.Common.{◌≡◌, ◌≢◌, ℕ, suc, ◌%◌, ◌<◌, List, [], ◌∷◌, Bool, true, false, cond, ◌==◌, ◌||◌, ◌&&◌, length, set, refl, sym, ap, ◌∙◌, subst, arith}
use Rattle.shfl_line.specs.declared.events.LineEvent.TheVariants.{Nothing}
use Rattle.shfl_line.specs.declared.words.NodeState.{NodeState}
use Rattle.shfl_line.specs.Line.{Line, mark_of}
use Rattle.shfl_line.specs.Words.{link_word, batch_of, ready_of, shuffler_of}
use Rattle.shfl_line.specs.Passes.{updated}
use Rattle.shfl_line.proofs.Chain
use Rattle.shfl_core.specs.declared.phase.Phase.{Phase}
use Rattle.shfl_core.specs.declared.phase.Phase.TheVariants.{Look, Begin, Ready, Swap, Late, WriteGrab, Grab}
use Rattle.shfl_core.specs.declared.phase.Registers.{Registers as Regs}
use Rattle.shfl_core.specs.declared.phase.Nap.TheVariants.{Awake, Doze}
use Rattle.shfl_core.specs.declared.phase.PassState.{PassState}
use Rattle.shfl_core.specs.declared.words.Word.TheVariants.{State}
use Rattle.shfl_core.specs.Words.{look, index, wide}
use Rattle.shfl_core.specs.Take.{to, top, looked}
use Rattle.shfl_core.specs.Plan.{parks}
use Rattle.shfl_core.specs.Worlds.{World, known}
use Rattle.shfl_core.specs.Phases.{is_round, is_queued, is_fore, is_linking, knows, is_holding, is_writing, is_reading, decide_to_pick}
use Rattle.shfl_core.specs.View.{View, view}
use Rattle.shfl_core.specs.Order.{Order as Ordered, Round, Follows, Walks, is_head}
use Rattle.shfl_core.specs.Holding.{Holding, backs}
use Rattle.shfl_core.specs.Owed.{announces, fits}
use Rattle.shfl_core.specs.Lawful.{Terms, count, Lawful, Agrees, Advances, LawOf}
use Rattle.shfl_laws.proofs.words.Advance.{at-phase, advance-load, below-count}
use Rattle.shfl_laws.proofs.words.Frame.{passed}
use Rattle.shfl_laws.proofs.rows.HeadRows.{going-top, modes-top}
use Rattle.shfl_laws.proofs.laws.HeadLaws.{top-out, top-none}
use Rattle.shfl_laws.proofs.rows.Holding.{stay}
use Rattle.shfl_laws.proofs.laws.NapRows.{Naps, napped}
use Rattle.shfl_laws.proofs.kept.OwedFrames.{owed-awake}
use Rattle.shfl_laws.proofs.rows.Quiet.{quiet-grouping}
use Rattle.shfl_laws.proofs.kept.QuietAgrees.{GoesOn, quiet-agrees}
use Rattle.shfl_laws.proofs.kept.Registered.{registered-set}
use Rattle.shfl_laws.proofs.kept.Slept.{slept-agrees, slept-pass, naps_at, parked_at}
use Rattle.shfl_laws.proofs.words.StateBits.{read}

-- a queued pass goes on in the queue, outside rounds, and counts as the head exactly as before
module _ (w : View) (s : Line) (g p : ℕ) (v : PassState) (o : Ordered w s g) (queued : is_queued v ≡ is_queued (w.pass p)) (link : (is_linking (w.pass p).phase ≡ false) × (is_linking v.phase ≡ false))
    (ready : ((w.pass p).phase ≢ Ready) × (v.phase ≢ Ready)) (swap : v.phase ≢ Swap) (calm : is_round v.phase ≡ false) (head : (is_fore v || (w.node p).ready) ≡ is_head w p) where
  abbrev then : View
  then = record w { pass = updated w.pass p v }

  linking-same : (q : ℕ) → is_linking (then.pass q).phase ≡ is_linking (w.pass q).phase
  linking-same = Chain.updated-all (λ q t. is_linking t.phase ≡ is_linking (w.pass q).phase) w.pass p v (link.1 ∙ sym link.0) (λ q n. refl)

  queued-same : (q : ℕ) → is_queued (then.pass q) ≡ is_queued (w.pass q)
  queued-same = Chain.updated-all (λ q t. is_queued t ≡ is_queued (w.pass q)) w.pass p v queued (λ q n. refl)

  awake-same : (q : ℕ) → is_head then q ≡ is_head w q
  awake-same = Chain.updated-all (λ q t. (is_fore t || (w.node q).ready) ≡ is_head w q) w.pass p v head (λ q n. refl)

  follows-same : (a b : ℕ) → Follows w a b → Follows then a b
  follows-same a b e = record {
    word = e.word ∙ ap (λ z. cond z 0 (suc b)) (sym (linking-same b));
    late = Chain.updated-all (λ q t. Follows w a q → is_linking t.phase ≡ true → t.reg.before ≡ a) w.pass p v (λ _ l. absurd (let z = link.1 in cc)) (λ q n k. k.late) b e;
  }

  walks-same : (l : List ℕ) → Walks w l → Walks then l
  walks-same [] e = e
  walks-same (y ∷ ys) e = (Chain.chain-map (Follows w) (Follows then) y ys (λ a b _ _ k. follows-same a b k) e.0, e.1, e.2)

  heir-same : (q : ℕ) → (w.pass q).phase ≡ Ready → (then.pass q).reg.heir ≡ (w.pass q).reg.heir
  heir-same = Chain.updated-all (λ q t. (w.pass q).phase ≡ Ready → t.reg.heir ≡ (w.pass q).reg.heir) w.pass p v (λ e. absurd (ready.0 e)) (λ q n e. refl)

  pub settled-order : Ordered then s g
  settled-order = record {
    walks = walks-same s.line o.walks;
    fronted = record {
      who = Chain.updated-all (λ q t. t.phase ≡ Ready → g ≡ suc q) w.pass p v (λ e. absurd (ready.1 e)) (λ q n. o.fronted.who q);
      is = Chain.updated-all (λ q t. g ≡ suc q → t.phase ≡ Ready) w.pass p v (λ e. absurd (ready.0 (o.fronted.is p e))) (λ q n. o.fronted.is q);
      only = λ q e f. o.fronted.only q (sym (queued-same q) ∙ e) (sym (awake-same q) ∙ f);
      front = λ q e f. awake-same q ∙ o.fronted.front q e f;
      heir = λ q e. let t = o.fronted.heir q e in let i = heir-same q (o.fronted.is q e) in (t.0 ∙ ap suc (sym i), ap (λ z. is_linking (then.pass z).phase) i ∙ (linking-same (w.pass q).reg.heir ∙ t.1));
      linking = λ q e. o.fronted.linking q (sym (linking-same q) ∙ e);
    };
    stands = λ q. o.stands q ∙ ap (λ b. cond b 1 0) (sym (queued-same q));
    clean = λ q. record {
      next = λ e. (o.clean q).next (sym (queued-same q) ∙ e);
      init = Chain.updated-all (λ q t. t.phase ≡ Swap → ((w.node q).batch ≡ 0) × ((w.node q).shuffler ≡ false) × ((w.node q).ready ≡ false) × (t.reg.batch ≡ 0) × (t.reg.flag ≡ false)) w.pass p v
          (λ e. absurd (swap e)) (λ q n. (o.clean q).init) q;
    };
    links = λ q e. o.links q (sym (linking-same q) ∙ e);
    round = Chain.updated-all (λ q t. is_round t.phase ≡ true → Round w.next (mark_of s) w.tail s.line (link_word s.hand) t) w.pass p v (λ e. absurd (cc)) (λ q n. o.round q);
    still = o.still;
  }

module _ (t : Terms) (w : World) (p : ℕ) (ok : Lawful t w) (below : p < length w.passes) (nap : (known w.passes p).nap ≡ Awake) (f : (known w.passes p).phase ≡ Look) where
  abbrev q : PassState
  q = known w.passes p

  abbrev n : ℕ
  n = look w.words (State p)

  -- what the pass knows now
  abbrev r : Regs
  r = record (known w.passes p).reg { batch = batch_of (look w.words (State p)) % 65536; flag = shuffler_of (look w.words (State p)) }

  whole : batch_of n % 65536 ≡ batch_of n
  whole = let s = ok.formed (State p) in let b = ap (λ (z : NodeState). z.batch) (read n s) in let c = s.few in omega arith

  no-backs : backs q ≡ 0
  no-backs = grind (arith, f)

  held-out : is_holding q.phase ≡ false
  held-out = grind (arith, f)

  read-state : (v : PassState) → v.reg.me ≡ q.reg.me → Agrees t (passed (view w) p v) ok.shown ok.giver → Advances t w ok Nothing (record { words = set w.words (index (State p)) n; passes = set w.passes p v })
  read-state v me a = advance-load t w ok p below v Nothing ok.giver me tt tt (State p) (let b = below-count t w ok p below in let z : index (State p) < wide (count t) = omega arith in z) a

  keeps-hold : (v : PassState) → v.reg.mode ≡ q.reg.mode → is_holding v.phase ≡ false → backs v ≡ 0 → Holding (count t) (view w).held (view w).readers (updated (known w.passes) p v) ok.shown.hold
  keeps-hold v m out none = stay (count t) (view w).held (view w).readers (known w.passes) ok.shown.hold ok.agrees.holding p v (below-count t w ok p below) (view w).readers (out ∙ sym held-out) m (let a = no-backs in omega arith)

  or-true : (b : Bool) → (b || true) ≡ true
  or-true true = refl
  or-true false = refl

  -- the pass is ready: it goes on as the head
  rises : ready_of n ≡ true → Advances t w ok Nothing (record { words = set w.words (index (State p)) n; passes = set w.passes p (top r) })
  rises is = let g = going-top r in let m = modes-top t.rules.form r in let a = g.ahead in read-state (top r) g.me (record {
    order = settled-order (view w) ok.shown ok.giver p (top r) ok.agrees.order (a.queued ∙ (let e : is_queued q ≡ true = grind (arith, f) in sym e)) ((let e : is_linking q.phase ≡ false = grind (arith, f) in e), a.link) ((λ e. absurd (cc)), a.ready) a.swap a.round
        ((λ j. a.fore j || ((view w).node p).ready) ∙ sym ((λ j. is_fore (known w.passes p) || is j) ∙ or-true (is_fore (known w.passes p))));
    grouping = quiet-grouping t.rules.limit (view w) ok.shown (view w).held (view w).closed (view w).readers p (top r) ok.agrees.grouping (a.queued ∙ (let e : is_queued q ≡ true = grind (arith, f) in sym e)) (a.round ∙ (let e : is_round q.phase ≡ false = grind (arith, f) in sym e)) ok.shown.hold
        (λ e. absurd (let z = a.round in cc)) (λ _. (g.batch ∙ whole, g.flag)) g.begins;
    holding = keeps-hold (top r) g.mode (top-out r) (top-none r);
    registered = registered-set t.rules.form (view w) (passed (view w) p (top r)) p (top r) refl refl (λ z k e. ok.agrees.registered.late z e) ok.agrees.registered (record {
      writing = m.writing;
      reading = m.reading;
      writers = λ x _. g.mode ∙ ok.agrees.registered.writers x p (λ i. absurd (cc));
      no_compare = m.no_compare;
      no_or = m.no_or;
      saw = m.saw;
      late = λ e. absurd (g.late e);
      seen = λ e. absurd (let z = g.picks in cc);
    });
    owed = owed-awake t.rules.form (view w) (passed (view w) p (top r)) p (top r) refl refl refl nap ok.agrees.owed (record {
      awake = g.awake;
      told = λ _. ok.agrees.owed.told p (grind (arith, f));
      grouped = λ _ _ e. absurd (let z = a.fore in cc);
      fresh = λ e. absurd (a.swap e);
    });
  })

  -- the pass goes on as a waiter
  abbrev waiter : Phase → PassState
  waiter g = to g (record (known w.passes p).reg { batch = batch_of (look w.words (State p)) % 65536; flag = shuffler_of (look w.words (State p)); headed = false })

  goes-on : (v : PassState) → v.nap ≡ Awake → v.reg.mode ≡ q.reg.mode → is_queued v ≡ true → is_fore v ≡ false → is_linking v.phase ≡ false → (v.phase ≢ Ready) × (v.phase ≢ Swap) × (v.phase ≢ WriteGrab) × (v.phase ≢ Grab) × (v.phase ≢ Late)
      → is_round v.phase ≡ false → is_writing v.phase ≡ false → is_reading v.phase ≡ false → decide_to_pick v.phase ≡ false
      → (knows v.phase ≡ true → (v.reg.batch ≡ batch_of n) × (v.reg.flag ≡ shuffler_of n)) → (v.phase ≡ Begin → v.reg.flag ≡ false → (v.reg.headed ≡ true) × (v.reg.batch ≡ 0)) → GoesOn t (view w) ok.shown p v
  goes-on v awake m queued fore link off calm nw nr picks knows begins = record {
    quiet = record { queued = queued ∙ (let e : is_queued q ≡ true = grind (arith, f) in sym e); fore = fore ∙ (let e : is_fore q ≡ false = grind (arith, f) in sym e); no_link = ((let e : is_linking q.phase ≡ false = grind (arith, f) in e), link); no_ready = ((λ e. absurd (cc)), off.0); no_swap = off.1 };
    awake = awake;
    rounds = calm ∙ (let e : is_round q.phase ≡ false = grind (arith, f) in sym e);
    round = λ e. absurd (cc);
    last = λ e. absurd (cc);
    known = knows;
    begins = begins;
    registers = record {
      writing = λ e. absurd (cc);
      reading = λ e. absurd (cc);
      writers = λ x _. m ∙ ok.agrees.registered.writers x p (λ i. absurd (cc));
      no_compare = λ x. off.2;
      no_or = λ x. off.3;
      saw = λ e. absurd (off.2 e);
      late = λ e. absurd (off.4 e);
      seen = λ e. absurd (cc);
    };
  }

  pub begin-agrees : shuffler_of n ≡ true → Agrees t (passed (view w) p (to Begin (record r { headed = false }))) ok.shown ok.giver
  begin-agrees is = quiet-agrees t (view w) ok.shown ok.giver p (to Begin (record r { headed = false })) ok.agrees nap
      (goes-on (to Begin (record r { headed = false })) refl refl refl refl refl ((λ e. absurd (cc)), (λ e. absurd (cc)), (λ e. absurd (cc)), (λ e. absurd (cc)), (λ e. absurd (cc))) refl refl refl refl (λ _. (whole, refl)) (λ _ e. absurd (cc)))
      (view w).held (view w).closed (view w).readers ok.shown.hold (keeps-hold (to Begin (record r { headed = false })) refl refl refl)

  pub look-agrees : Agrees t (passed (view w) p (to Look r)) ok.shown ok.giver
  look-agrees = quiet-agrees t (view w) ok.shown ok.giver p (to Look r) ok.agrees nap
      (goes-on (to Look r) refl refl refl refl refl ((λ e. absurd (cc)), (λ e. absurd (cc)), (λ e. absurd (cc)), (λ e. absurd (cc)), (λ e. absurd (cc))) refl refl refl refl (λ e. absurd (cc)) (λ e. absurd (cc)))
      (view w).held (view w).closed (view w).readers ok.shown.hold (keeps-hold (to Look r) refl refl refl)

  -- the pass is about to park
  abbrev dozing : PassState
  dozing = record { phase = Look; reg = record (known w.passes p).reg { batch = batch_of (look w.words (State p)) % 65536; flag = shuffler_of (look w.words (State p)) }; nap = Doze }

  abbrev mid : View
  mid = passed (view w) p (to Look r)

  mid-here : mid.pass p ≡ to Look r
  mid-here = Chain.updated-same (known w.passes) p (to Look r)

  doze-naps : parks t.rules.form ≡ true → Naps t.rules.form mid p Doze (mid.node p).parked mid.bell
  doze-naps parking = let o = look-agrees.owed in let was : (mid.pass p).nap ≡ Awake = ap (λ (z : PassState). z.nap) mid-here in record {
    before = λ z e. absurd (cc);
    now = λ z e. absurd (cc);
    place = ap (λ (z : PassState). fits Doze z.phase) mid-here;
    announced = o.parked p ∙ ap announces was;
    roused = λ e. absurd (cc);
    parking = λ e. absurd (cc);
    others = λ z e. refl;
    owed = λ e. absurd (cc);
    rung = λ e. absurd (let z = (o.rung p e).0.sleeps in cc);
    rings = λ z e. absurd (let y = (o.rings z p e).0.sleeps in cc);
  }

  twice : (z : ℕ) → updated mid.pass p (record (mid.pass p) { nap = Doze }) z ≡ updated (known w.passes) p dozing z
  twice z = Chain.by_eq z p
      (λ i. subst (λ y. updated mid.pass p (record (mid.pass p) { nap = Doze }) y ≡ updated (known w.passes) p dozing y) (sym i)
      (Chain.updated-same mid.pass p (record (mid.pass p) { nap = Doze }) ∙ (ap (λ (y : PassState). record y { nap = Doze }) mid-here ∙ sym (Chain.updated-same (known w.passes) p dozing))))
      (λ m. Chain.updated-else mid.pass p z (record (mid.pass p) { nap = Doze }) m ∙ (Chain.updated-else (known w.passes) p z (to Look r) m ∙ sym (Chain.updated-else (known w.passes) p z dozing m)))

  doze-agrees : parks t.rules.form ≡ true → Agrees t (passed (view w) p dozing) ok.shown ok.giver
  doze-agrees parking = subst (λ (z : ℕ → PassState). Agrees t (record (view w) { pass = z }) ok.shown ok.giver) (λ j z. twice z j)
      (subst (λ (z : View). Agrees t z ok.shown ok.giver) (slept-pass mid p Doze)
      (slept-agrees mid (naps_at mid p Doze) (parked_at mid p (mid.node p).parked) mid.bell t ok.shown ok.giver look-agrees
      (napped t.rules.form mid p Doze (mid.node p).parked mid.bell look-agrees.owed (doze-naps parking))))

  waits : (b c : Bool) → shuffler_of n ≡ b → (parks t.rules.form && (r.batch == 0)) ≡ c
      → Advances t w ok Nothing (record { words = set w.words (index (State p)) n; passes = set w.passes p (cond b (to Begin (record r { headed = false })) (record { phase = Look; reg = r; nap = cond c Doze Awake })) })
  waits true c e d = read-state (to Begin (record r { headed = false })) refl (begin-agrees e)
  waits false true e d = read-state dozing refl (doze-agrees (first-true (parks t.rules.form) (r.batch == 0) d))
    where
      first-true : (a b : Bool) → (a && b) ≡ true → a ≡ true
      first-true true b x = refl
      first-true false b x = absurd (cc)
  waits false false e d = read-state (to Look r) refl look-agrees

  law-look : (b : Bool) → ready_of n ≡ b → Advances t w ok Nothing (record { words = set w.words (index (State p)) n; passes = set w.passes p (looked t.rules r b) })
  law-look true e = rises e
  law-look false e = waits (shuffler_of n) (parks t.rules.form && (r.batch == 0)) refl refl

pub look-law : (t : Terms) → LawOf t Look
look-law t = at-phase t Look (λ w p c ok below nap f. law-look t w p ok below nap f (ready_of (look w.words (State p))) refl)
