-- Ready, as the world is read: the successor is the line's first, and the order and the grouping stay.
use Rattle.std.proofs.Common.{◌≡◌, ◌≢◌, ℕ, zero, suc, ◌<◌, List, [], ◌∷◌, Bool, true, false, cond, ◌||◌, refl, sym, ap, ◌∙◌, subst, arith}
use Rattle.std.proofs.lemmas.Bool.Decides.{nat_tests}
use Rattle.shfl_line.specs.declared.events.Form.{Form}
use Rattle.shfl_line.specs.declared.words.NodeState.{NodeState}
use Rattle.shfl_line.specs.Line.{Line, mark_of}
use Rattle.shfl_line.specs.Words.{link_word}
use Rattle.shfl_line.specs.Passes.{updated, times, first}
use Rattle.shfl_line.proofs.Chain
use Rattle.shfl_core.specs.declared.phase.Phase.TheVariants.{Ready, Held, Swap}
use Rattle.shfl_core.specs.declared.phase.Nap.{Nap}
use Rattle.shfl_core.specs.declared.phase.Nap.TheVariants.{Awake, Hear, Rouse, Ring}
use Rattle.shfl_core.specs.declared.phase.PassState.{PassState}
use Rattle.shfl_core.specs.Plan.{parks}
use Rattle.shfl_core.specs.Phases.{is_round, is_queued, is_fore, is_linking}
use Rattle.shfl_core.specs.View.{View}
use Rattle.shfl_core.specs.Order.{Order as Ordered, Round, Follows, Walks, is_head}
use Rattle.shfl_core.specs.Grouping.{Grouped, Grouping}
use Rattle.shfl_core.specs.Owed.{Owed, IsCalledSleeper, called, announces, fits}
use Rattle.shfl_laws.proofs.rows.Order as Orders
use Rattle.shfl_laws.proofs.rows.Quiet.{pass-grouping}

-- the batch reads batch numbers and flags alone
group-node : (limit : ℕ) (node n : ℕ → NodeState) (pass : ℕ → PassState) (s : Line) → ((q : ℕ) → (n q).batch ≡ (node q).batch) → ((q : ℕ) → (n q).shuffler ≡ (node q).shuffler) → Grouped limit node pass s → Grouped limit n pass s
group-node limit node n pass s b f k = record {
  mark = λ q. k.mark q ∙ (λ j. cond (is_queued (pass q)) (sym (b q) j) 0);
  hand = k.hand;
  within = k.within;
  walks = k.walks;
  walker = k.walker;
  flagged = λ q e h. k.flagged q e (sym (f q) ∙ h);
  rester = λ q e. let t = k.rester q e in (t.0, f q ∙ t.1);
  prefix = k.prefix;
  rests = k.rests;
  last = k.last;
  known = λ q e. let t = k.known q e in (t.0 ∙ sym (b q), t.1 ∙ sym (f q));
  begins = k.begins;
}

-- the successor h of the pass p at Ready; p goes on at Held, in the park state x
module _ (w : View) (s : Line) (g p h : ℕ) (o : Ordered w s g) (f : (w.pass p).phase ≡ Ready) (is-heir : (w.pass p).reg.heir ≡ h) (x : Nap) where
  giver : g ≡ suc p
  giver = o.fronted.who p f

  pub heir-first : first s.line ≡ suc h
  heir-first = (o.fronted.heir p giver).0 ∙ ap suc is-heir

  heir-linked : is_linking (w.pass h).phase ≡ false
  heir-linked = subst (λ z. is_linking (w.pass z).phase ≡ false) is-heir (o.fronted.heir p giver).1

  first-inside : (l : List ℕ) → first l ≡ suc h → 0 < times h l
  first-inside [] e = absurd (omega arith)
  first-inside (y ∷ ys) e = grind (arith, nat_tests)

  pub heir-in : 0 < times h s.line
  heir-in = first-inside s.line heir-first

  heir-queued : is_queued (w.pass h) ≡ true
  heir-queued = Orders.queued-in w s h o.stands heir-in

  away : is_queued (w.pass p) ≡ false
  away = grind (arith, f)

  apart : h ≢ p
  apart i = let a : is_queued (w.pass p) ≡ true = subst (λ z. is_queued (w.pass z) ≡ true) i heir-queued in let b = away in cc

  not-awake : is_head w h ≡ false
  not-awake = by (is_head w h) refl
    where
      by : (b : Bool) → is_head w h ≡ b → b ≡ false
      by true e = absurd (let t = o.fronted.only h heir-queued e in let u = giver in omega arith)
      by false e = refl

  pub not-ready : (w.node h).ready ≡ false
  not-ready = let a = not-awake in second (is_fore (w.pass h)) (w.node h).ready a
    where
      second : (a b : Bool) → (a || b) ≡ false → b ≡ false
      second true b e = absurd (cc)
      second false b e = e

  abbrev v : PassState
  v = record { phase = Held; reg = (w.pass p).reg; nap = x }

  abbrev readied_node : NodeState
  readied_node = record (w.node h) { ready = true }

  abbrev then : View
  then = record w { node = updated w.node h readied_node; pass = updated w.pass p v }

  pass-else : (q : ℕ) → q ≢ p → then.pass q ≡ w.pass q
  pass-else q n = Chain.updated-else w.pass p q v n

  node-else : (q : ℕ) → q ≢ h → then.node q ≡ w.node q
  node-else q n = Chain.updated-else w.node h q readied_node n

  node-here : then.node h ≡ readied_node
  node-here = Chain.updated-same w.node h readied_node

  batch-same : (q : ℕ) → (then.node q).batch ≡ (w.node q).batch
  batch-same = Chain.updated-all (λ q n. n.batch ≡ (w.node q).batch) w.node h readied_node refl (λ q n. refl)

  shuffler-same : (q : ℕ) → (then.node q).shuffler ≡ (w.node q).shuffler
  shuffler-same = Chain.updated-all (λ q n. n.shuffler ≡ (w.node q).shuffler) w.node h readied_node refl (λ q n. refl)

  spin-same : (q : ℕ) → (then.node q).spin ≡ (w.node q).spin
  spin-same = Chain.updated-all (λ q n. n.spin ≡ (w.node q).spin) w.node h readied_node refl (λ q n. refl)

  parked-same : (q : ℕ) → (then.node q).parked ≡ (w.node q).parked
  parked-same = Chain.updated-all (λ q n. n.parked ≡ (w.node q).parked) w.node h readied_node refl (λ q n. refl)

  queued-same : (q : ℕ) → is_queued (then.pass q) ≡ is_queued (w.pass q)
  queued-same = Chain.updated-all (λ q t. is_queued t ≡ is_queued (w.pass q)) w.pass p v (sym away) (λ q n. refl)

  linking-same : (q : ℕ) → is_linking (then.pass q).phase ≡ is_linking (w.pass q).phase
  linking-same = Chain.updated-all (λ q t. is_linking t.phase ≡ is_linking (w.pass q).phase) w.pass p v (grind (arith, f)) (λ q n. refl)

  follows-same : (a b : ℕ) → Follows w a b → Follows then a b
  follows-same a b e = record {
    word = e.word ∙ ap (λ z. cond z 0 (suc b)) (sym (linking-same b));
    late = Chain.updated-all (λ q t. Follows w a q → is_linking t.phase ≡ true → t.reg.before ≡ a) w.pass p v (λ _ l. absurd (cc)) (λ q n k. k.late) b e;
  }

  walks-same : (l : List ℕ) → Walks w l → Walks then l
  walks-same [] e = e
  walks-same (y ∷ ys) e = (Chain.chain-map (Follows w) (Follows then) y ys (λ a b _ _ k. follows-same a b k) e.0, e.1, e.2)

  now-queued : (q : ℕ) → is_queued (then.pass q) ≡ true → q ≢ p
  now-queued q e i = let a : is_queued (w.pass p) ≡ true = subst (λ z. is_queued (w.pass z) ≡ true) i (sym (queued-same q) ∙ e) in let b = away in cc

  or-true : (b : Bool) → (b || true) ≡ true
  or-true true = refl
  or-true false = refl

  heir-awake : is_head then h ≡ true
  heir-awake = (λ j. is_fore (then.pass h) || (node-here j).ready) ∙ or-true (is_fore (then.pass h))

  pub ready-order : Ordered then s 0
  ready-order = record {
    walks = walks-same s.line o.walks;
    fronted = record {
      who = Chain.updated-all (λ q t. t.phase ≡ Ready → 0 ≡ suc q) w.pass p v (λ e. absurd (cc)) (λ q n e. absurd (let a = o.fronted.who q e in let b = giver in n (omega arith)));
      is = λ q e. absurd (omega arith);
      only = λ q e a. Chain.by_eq q h
          (λ i. (heir-first ∙ ap suc (sym i), refl))
          (λ n. absurd (let m = now-queued q e in let y : is_head w q ≡ true = (λ j. is_fore (sym (pass-else q m) j) || (sym (node-else q n) j).ready) ∙ a in
          let t = o.fronted.only q (sym (queued-same q) ∙ e) y in let b = giver in omega arith));
      front = λ q _ e. (let i : h ≡ q = (let a = heir-first in omega arith) in subst (λ z. is_head then z ≡ true) i heir-awake);
      heir = λ q e. absurd (omega arith);
      linking = λ q e. (let l = sym (linking-same q) ∙ e in let n : q ≢ h = λ i. (let a : is_linking (w.pass h).phase ≡ true = subst (λ z. is_linking (w.pass z).phase ≡ true) i l in let b = heir-linked in cc) in
          ap (λ (z : NodeState). z.ready) (node-else q n) ∙ o.fronted.linking q l);
    };
    stands = λ q. o.stands q ∙ ap (λ b. cond b 1 0) (sym (queued-same q));
    clean = λ q. record {
      next = λ e. (o.clean q).next (sym (queued-same q) ∙ e);
      init = λ e. (let n : q ≢ p = λ i. (let a : (then.pass p).phase ≡ Swap = subst (λ z. (then.pass z).phase ≡ Swap) i e in let b = ap (λ (z : PassState). z.phase) (Chain.updated-same w.pass p v) in cc) in
          let old : (w.pass q).phase ≡ Swap = ap (λ (z : PassState). z.phase) (sym (pass-else q n)) ∙ e in
          let m : q ≢ h = λ i. (let a : is_queued (w.pass q) ≡ true = subst (λ z. is_queued (w.pass z) ≡ true) (sym i) heir-queued in grind (arith, old)) in
          let t = (o.clean q).init old in (
            ap (λ (z : NodeState). z.batch) (node-else q m) ∙ t.0,
            ap (λ (z : NodeState). z.shuffler) (node-else q m) ∙ t.1,
            ap (λ (z : NodeState). z.ready) (node-else q m) ∙ t.2,
            ap (λ (z : PassState). z.reg.batch) (pass-else q n) ∙ t.3,
            ap (λ (z : PassState). z.reg.flag) (pass-else q n) ∙ t.4,
          ));
    };
    links = λ q e. o.links q (sym (linking-same q) ∙ e);
    round = Chain.updated-all (λ q t. is_round t.phase ≡ true → Round w.next (mark_of s) w.tail s.line (link_word s.hand) t) w.pass p v (λ e. absurd (cc)) (λ q n. o.round q);
    still = o.still;
  }

  pub ready-grouping : (limit : ℕ) → Grouping limit w s → Grouping limit then s
  ready-grouping limit k = group-node limit w.node then.node then.pass s batch-same shuffler-same
      (pass-grouping limit w s p v k (sym away) refl (grind (arith, f)) (λ e. absurd (cc)) (λ e. absurd (cc)))

  -- who was told to go on still is
  called-more : (q : ℕ) → called (w.node q) ≡ true → called (then.node q) ≡ true
  called-more = Chain.updated-all (λ q n. called (w.node q) ≡ true → called n ≡ true) w.node h readied_node (λ _. refl) (λ q n e. e)

  nap-else : (q : ℕ) → q ≢ p → (then.pass q).nap ≡ (w.pass q).nap
  nap-else q n = ap (λ (z : PassState). z.nap) (pass-else q n)

  nap-here : (then.pass p).nap ≡ x
  nap-here = ap (λ (z : PassState). z.nap) (Chain.updated-same w.pass p v)

  module _ (form : Form) (was : (w.pass p).nap ≡ Awake) (ow : Owed form w) (quiet : announces x ≡ false) (place : fits x Held ≡ true) (spins : parks form ≡ false → x ≡ Awake) where
    not-roused : x ≢ Rouse
    not-roused i = let a : announces x ≡ true = ap announces i in cc

    not-hearing : x ≢ Hear
    not-hearing i = let a : announces x ≡ true = ap announces i in cc

    hears-other : (q : ℕ) → (then.pass q).nap ≡ Hear → q ≢ p
    hears-other q e i = let a : (then.pass p).nap ≡ Hear = subst (λ z. (then.pass z).nap ≡ Hear) i e in not-hearing (sym nap-here ∙ a)

    heard-other : (q : ℕ) → (w.pass q).nap ≡ Hear → q ≢ p
    heard-other q e i = let a : (w.pass p).nap ≡ Hear = subst (λ z. (w.pass z).nap ≡ Hear) i e in cc

    kept : (q : ℕ) → IsCalledSleeper w q → IsCalledSleeper then q
    kept q c = record { sleeps = nap-else q (heard-other q c.sleeps) ∙ c.sleeps; called = called-more q c.called }

    -- a sleeper that isn't the successor was told before
    past : (q : ℕ) → q ≢ h → IsCalledSleeper then q → IsCalledSleeper w q
    past q n c = record { sleeps = sym (nap-else q (hears-other q c.sleeps)) ∙ c.sleeps; called = ap called (sym (node-else q n)) ∙ c.called }

    ring-old : (r q : ℕ) → r ≢ p → (then.pass r).nap ≡ Ring q → (w.pass r).nap ≡ Ring q
    ring-old r q n e = sym (nap-else r n) ∙ e

    ring-new : (r q : ℕ) → (w.pass r).nap ≡ Ring q → (then.pass r).nap ≡ Ring q
    ring-new r q e = nap-else r (λ i. (let a : (w.pass p).nap ≡ Ring q = subst (λ z. (w.pass z).nap ≡ Ring q) i e in cc)) ∙ e

    -- the facts that the wakeup words don't touch
    ready-owed : ((q : ℕ) → IsCalledSleeper then q → w.bell q ≡ 0 → (r : ℕ) × ((then.pass r).nap ≡ Ring q))
        → ((q a b : ℕ) → (then.pass a).nap ≡ Ring q → (then.pass b).nap ≡ Ring q → a ≡ b)
        → ((q : ℕ) → 0 < w.bell q → IsCalledSleeper then q × ((r : ℕ) → (then.pass r).nap ≢ Ring q))
        → ((r q : ℕ) → (then.pass r).nap ≡ Ring q → IsCalledSleeper then q × (w.bell q ≡ 0)) → Owed form then
    ready-owed owed one rung rings = record {
      places = Chain.updated-all (λ q t. fits t.nap t.phase ≡ true) w.pass p v place (λ q n. ow.places q);
      parked = λ q. Chain.by_eq q p
          (λ i. subst (λ z. (then.node z).parked ≡ announces (then.pass z).nap) (sym i)
          (parked-same p ∙ (ow.parked p ∙ (ap announces was ∙ (sym quiet ∙ ap announces (sym nap-here))))))
          (λ n. parked-same q ∙ (ow.parked q ∙ ap announces (sym (nap-else q n))));
      roused = λ q e. (let n : q ≢ p = λ i. (let a : (then.pass p).nap ≡ Rouse = subst (λ z. (then.pass z).nap ≡ Rouse) i e in not-roused (sym nap-here ∙ a)) in called-more q (ow.roused q (sym (nap-else q n) ∙ e)));
      spinning = λ sp q. (let t = ow.spinning sp q in (Chain.updated-all (λ z u. u.nap ≡ Awake) w.pass p v (spins sp) (λ z n. (ow.spinning sp z).0) q, spin-same q ∙ t.1, t.2));
      told = λ q e k. (let a = ow.told q (sym (queued-same q) ∙ e) (sym (spin-same q) ∙ k) in let b = batch-same q in omega arith);
      grouped = λ sp q e r b. (let n = now-queued q e in spin-same q ∙ ow.grouped sp q (sym (queued-same q) ∙ e) (ap is_fore (sym (pass-else q n)) ∙ r) (let c = batch-same q in omega arith));
      fresh = λ q e. (let n : q ≢ p = λ i. (let a : (then.pass p).phase ≡ Swap = subst (λ z. (then.pass z).phase ≡ Swap) i e in let b = ap (λ (z : PassState). z.phase) (Chain.updated-same w.pass p v) in cc) in
          spin-same q ∙ ow.fresh q (ap (λ (z : PassState). z.phase) (sym (pass-else q n)) ∙ e));
      owed = owed;
      one = one;
      rung = rung;
      rings = rings;
    }

    -- the successor doesn't sleep, or was told before
    pub quiet-owed : x ≡ Awake → (IsCalledSleeper then h → IsCalledSleeper w h) → Owed form then
    quiet-owed e back = ready-owed
        (λ q c b. let t = ow.owed q (old q c) b in (t.0, ring-new t.0 q t.1))
        (λ q a b i j. ow.one q a b (ring-old a q (no-ring a q i) i) (ring-old b q (no-ring b q j) j))
        (λ q b. let t = ow.rung q b in (kept q t.0, λ r i. t.1 r (ring-old r q (no-ring r q i) i)))
        (λ r q i. let t = ow.rings r q (ring-old r q (no-ring r q i) i) in (kept q t.0, t.1))
      where
        no-ring : (r q : ℕ) → (then.pass r).nap ≡ Ring q → r ≢ p
        no-ring r q i j = let a : (then.pass p).nap ≡ Ring q = subst (λ z. (then.pass z).nap ≡ Ring q) j i in let b : x ≡ Ring q = sym nap-here ∙ a in cc

        old : (q : ℕ) → IsCalledSleeper then q → IsCalledSleeper w q
        old q c = Chain.by_eq q h (λ i. subst (IsCalledSleeper w) (sym i) (back (subst (IsCalledSleeper then) i c))) (λ n. past q n c)

    -- the successor sleeps, and nobody has told it before
    pub ring-owed : x ≡ Ring h → (w.pass h).nap ≡ Hear → called (w.node h) ≡ false → Owed form then
    ring-owed e sl un = ready-owed
        (λ q c b. Chain.by_eq q h
        (λ i. (p, nap-here ∙ (e ∙ ap Ring (sym i))))
        (λ n. let t = ow.owed q (past q n c) b in (t.0, ring-new t.0 q t.1)))
        (λ q a b i j. Chain.by_eq a p
        (λ m. Chain.by_eq b p (λ n. m ∙ sym n) (λ n. absurd (both b q n j (mine a q m i))))
        (λ m. Chain.by_eq b p (λ n. absurd (both a q m i (mine b q n j))) (λ n. ow.one q a b (ring-old a q m i) (ring-old b q n j))))
        (λ q b. let t = ow.rung q b in (
          kept q t.0,
          λ r i. Chain.by_eq r p
              (λ m. (let k = mine r q m i in let c : called (w.node h) ≡ true = subst (λ z. called (w.node z) ≡ true) k t.0.called in cc))
              (λ m. t.1 r (ring-old r q m i)),
        ))
        (λ r q i. Chain.by_eq r p
        (λ m. let k = mine r q m i in subst (λ z. IsCalledSleeper then z × (w.bell z ≡ 0)) (sym k) (record { sleeps = nap-else h apart ∙ sl; called = ap called node-here }, quiet-bell))
        (λ m. let t = ow.rings r q (ring-old r q m i) in (kept q t.0, t.1)))
      where
        mine : (r q : ℕ) → r ≡ p → (then.pass r).nap ≡ Ring q → q ≡ h
        mine r q m i = let a : (then.pass p).nap ≡ Ring q = subst (λ z. (then.pass z).nap ≡ Ring q) m i in let b : Ring q ≡ Ring h = sym (sym nap-here ∙ a) ∙ e in cc

        both : (r q : ℕ) → r ≢ p → (then.pass r).nap ≡ Ring q → q ≡ h → ⊥
        both r q n i k = let t = (ow.rings r q (ring-old r q n i)).0.called in let c : called (w.node h) ≡ true = subst (λ z. called (w.node z) ≡ true) k t in cc

        quiet-bell : w.bell h ≡ 0
        quiet-bell = by (w.bell h) refl
          where
            by : (n : ℕ) → w.bell h ≡ n → n ≡ 0
            by zero j = refl
            by (suc n) j = absurd (let t = (ow.rung h (omega arith)).0.called in cc)

-- the test of a sleeper, taken apart
