-- A pass that is about to join clears its state word.
use Rattle.std.proofs.Common.{◌≡◌, ◌≢◌, ℕ, suc, ◌<◌, List, [], ◌∷◌, true, false, cond, ◌||◌, refl, sym, ap, ◌∙◌, subst, arith}
use Rattle.std.proofs.lemmas.Bool.Decides.{nat_tests}
use Rattle.shfl_line.specs.declared.events.Form.{Form}
use Rattle.shfl_line.specs.declared.events.LineEvent.TheVariants.{Nothing}
use Rattle.shfl_line.specs.declared.words.NodeState.{NodeState}
use Rattle.shfl_line.specs.Line.{Line, mark_of, active_shuffler}
use Rattle.shfl_line.specs.Words.{link_word}
use Rattle.shfl_line.specs.Passes.{times, first, IsLastMarked}
use Rattle.shfl_line.proofs.Chain
use Rattle.shfl_core.specs.declared.phase.Phase.TheVariants.{Init, Swap, Ready, Begin, Give}
use Rattle.shfl_core.specs.declared.phase.Nap.TheVariants.{Awake, Hear, Rouse}
use Rattle.shfl_core.specs.declared.phase.PassState.{PassState}
use Rattle.shfl_core.specs.Take.{to}
use Rattle.shfl_core.specs.Worlds.{known}
use Rattle.shfl_core.specs.Phases.{is_round, is_queued, is_fore, is_linking, knows}
use Rattle.shfl_core.specs.View.{View, view}
use Rattle.shfl_core.specs.Order.{Order as Ordered, Round, Follows, Walks, is_head}
use Rattle.shfl_core.specs.Grouping.{Grouping}
use Rattle.shfl_core.specs.Holding.{backs}
use Rattle.shfl_core.specs.Owed.{Owed, IsCalledSleeper, called, announces, fits}
use Rattle.shfl_core.specs.Lawful.{Terms, count, LawOf}
use Rattle.shfl_laws.proofs.words.Advance.{at-phase, advance-state, below-count}
use Rattle.shfl_laws.proofs.words.Frame.{written_state}
use Rattle.shfl_laws.proofs.rows.Holding.{stay}
use Rattle.shfl_laws.proofs.kept.Registered.{registered-set}

-- the state word that says nothing
abbrev clear : NodeState
clear = record { ready = false; shuffler = false; parked = false; spin = false; batch = 0 }

-- the pass after the step
abbrev fresh_pass : PassState → PassState
fresh_pass q = to Swap (record q.reg { batch = 0; flag = false })

module _ (w : View) (s : Line) (g p : ℕ) (o : Ordered w s g) (f : (w.pass p).phase ≡ Init) where
  abbrev then : View
  then = written_state w p 0 p (fresh_pass (w.pass p))

  away : is_queued (w.pass p) ≡ false
  away = grind (arith, f)

  pub node-else : (q : ℕ) → q ≢ p → then.node q ≡ w.node q
  node-else q n = Chain.updated-else w.node p q clear n

  pub node-here : then.node p ≡ clear
  node-here = Chain.updated-same w.node p clear

  pub pass-else : (q : ℕ) → q ≢ p → then.pass q ≡ w.pass q
  pass-else q n = Chain.updated-else w.pass p q (fresh_pass (w.pass p)) n

  queued-same : (q : ℕ) → is_queued (then.pass q) ≡ is_queued (w.pass q)
  queued-same = Chain.updated-all (λ q t. is_queued t ≡ is_queued (w.pass q)) w.pass p (fresh_pass (w.pass p)) (sym away) (λ q n. refl)

  linking-same : (q : ℕ) → is_linking (then.pass q).phase ≡ is_linking (w.pass q).phase
  linking-same = Chain.updated-all (λ q t. is_linking t.phase ≡ is_linking (w.pass q).phase) w.pass p (fresh_pass (w.pass p)) (grind (arith, f)) (λ q n. refl)

  follows-same : (a b : ℕ) → Follows w a b → Follows then a b
  follows-same a b e = record {
    word = e.word ∙ ap (λ z. cond z 0 (suc b)) (sym (linking-same b));
    late = Chain.updated-all (λ q t. Follows w a q → is_linking t.phase ≡ true → t.reg.before ≡ a) w.pass p (fresh_pass (w.pass p)) (λ _ l. absurd (grind arith)) (λ q n k. k.late) b e;
  }

  walks-same : (l : List ℕ) → Walks w l → Walks then l
  walks-same [] e = e
  walks-same (x ∷ xs) e = (Chain.chain-map (Follows w) (Follows then) x xs (λ a b _ _ k. follows-same a b k) e.0, e.1, e.2)

  -- who is queued is another pass, and stands as before
  awake-same : (q : ℕ) → is_queued (w.pass q) ≡ true → is_head then q ≡ is_head w q
  awake-same q h = let n : q ≢ p = λ i. (let a : is_queued (w.pass p) ≡ true = subst (λ z. is_queued (w.pass z) ≡ true) i h in let b = away in cc) in
      λ j. is_fore (pass-else q n j) || (node-else q n j).ready

  first-queued : (q : ℕ) → first s.line ≡ suc q → is_queued (w.pass q) ≡ true
  first-queued q e = let a = o.stands q in let b : 0 < times q s.line = inside s.line e in grind (arith, nat_tests)
    where
      inside : (l : List ℕ) → first l ≡ suc q → 0 < times q l
      inside [] e = absurd (omega arith)
      inside (x ∷ xs) e = grind (arith, nat_tests)

  not-giver : (q : ℕ) → g ≡ suc q → q ≢ p
  not-giver q e i = let a : (w.pass p).phase ≡ Ready = subst (λ z. (w.pass z).phase ≡ Ready) i (o.fronted.is q e) in cc

  pub init-order : Ordered then s g
  init-order = record {
    walks = walks-same s.line o.walks;
    fronted = record {
      who = Chain.updated-all (λ q t. t.phase ≡ Ready → g ≡ suc q) w.pass p (fresh_pass (w.pass p)) (λ e. absurd (cc)) (λ q n. o.fronted.who q);
      is = λ q e. ap (λ (z : PassState). z.phase) (pass-else q (not-giver q e)) ∙ o.fronted.is q e;
      only = λ q e a. let h = sym (queued-same q) ∙ e in o.fronted.only q h (sym (awake-same q h) ∙ a);
      front = λ q e a. awake-same q (first-queued q a) ∙ o.fronted.front q e a;
      heir = λ q e. let t = o.fronted.heir q e in let r = pass-else q (not-giver q e) in
          (t.0 ∙ ap (λ (z : PassState). suc z.reg.heir) (sym r), ap (λ (z : PassState). is_linking (then.pass z.reg.heir).phase) r ∙ (linking-same (w.pass q).reg.heir ∙ t.1));
      linking = λ q e. let h = sym (linking-same q) ∙ e in
          let n : q ≢ p = λ i. (let a : is_linking (w.pass p).phase ≡ true = subst (λ z. is_linking (w.pass z).phase ≡ true) i h in grind (arith, f)) in
          ap (λ (z : NodeState). z.ready) (node-else q n) ∙ o.fronted.linking q h;
    };
    stands = λ q. o.stands q ∙ ap (λ b. cond b 1 0) (sym (queued-same q));
    clean = λ q. record {
      next = λ e. (o.clean q).next (sym (queued-same q) ∙ e);
      init = Chain.by_eq q p
          (λ i. subst (λ z. (then.pass z).phase ≡ Swap → ((then.node z).batch ≡ 0) × ((then.node z).shuffler ≡ false) × ((then.node z).ready ≡ false) × ((then.pass z).reg.batch ≡ 0) × ((then.pass z).reg.flag ≡ false)) (sym i)
          (λ _. let m = node-here in let r = Chain.updated-same w.pass p (fresh_pass (w.pass p)) in
          (ap (λ (z : NodeState). z.batch) m, ap (λ (z : NodeState). z.shuffler) m, ap (λ (z : NodeState). z.ready) m, ap (λ (z : PassState). z.reg.batch) r, ap (λ (z : PassState). z.reg.flag) r)))
          (λ n. subst (λ (z : NodeState × PassState). z.1.phase ≡ Swap → (z.0.batch ≡ 0) × (z.0.shuffler ≡ false) × (z.0.ready ≡ false) × (z.1.reg.batch ≡ 0) × (z.1.reg.flag ≡ false))
          (λ j. (sym (node-else q n) j, sym (pass-else q n) j)) (o.clean q).init);
    };
    links = λ q e. o.links q (sym (linking-same q) ∙ e);
    round = Chain.updated-all (λ q t. is_round t.phase ≡ true → Round w.next (mark_of s) w.tail s.line (link_word s.hand) t) w.pass p (fresh_pass (w.pass p)) (λ e. absurd (cc)) (λ q n. o.round q);
    still = o.still;
  }

  pub init-grouping : (limit : ℕ) → Grouping limit w s → Grouping limit then s
  init-grouping limit k = record {
    mark = λ q. Chain.by_eq q p
        (λ i. subst (λ z. mark_of s z ≡ cond (is_queued (then.pass z)) (then.node z).batch 0) (sym i)
        (k.mark p ∙ ((λ j. cond (away j) (w.node p).batch 0) ∙ (λ j. cond (sym (queued-same p ∙ away) j) (then.node p).batch 0))))
        (λ n. subst (λ (z : NodeState × PassState). mark_of s q ≡ cond (is_queued z.1) z.0.batch 0) (λ j. (sym (node-else q n) j, sym (pass-else q n) j)) (k.mark q));
    hand = k.hand;
    within = k.within;
    walks = Chain.updated-all (λ q t. is_round t.phase ≡ true → active_shuffler s.role ≡ suc q) w.pass p (fresh_pass (w.pass p)) (λ e. absurd (cc)) (λ q n. k.walks q);
    walker = λ q e. (let t = k.walker q e in let n : q ≢ p = λ i. (let a : is_round (w.pass p).phase ≡ true = subst (λ z. is_round (w.pass z).phase ≡ true) i t.0 in grind (arith, f)) in
        (ap (λ (z : PassState). is_round z.phase) (pass-else q n) ∙ t.0, t.1));
    flagged = λ q e h. (let a = sym (queued-same q) ∙ e in let n = other q a in k.flagged q a (ap (λ (z : NodeState). z.shuffler) (sym (node-else q n)) ∙ h));
    rester = λ q e. (let t = k.rester q e in let n = other q t.0 in (queued-same q ∙ t.0, ap (λ (z : NodeState). z.shuffler) (node-else q n) ∙ t.1));
    prefix = k.prefix;
    rests = k.rests;
    last = Chain.updated-all (λ q t. is_round t.phase ≡ true → IsLastMarked (mark_of s) s.line t.reg.last × (mark_of s t.reg.last ≡ t.reg.count) × (t.phase ≢ Give → t.reg.count < limit)) w.pass p (fresh_pass (w.pass p)) (λ e. absurd (cc)) (λ q n. k.last q);
    known = λ q. Chain.by_eq q p
        (λ i. subst (λ z. knows (then.pass z).phase ≡ true → ((then.pass z).reg.batch ≡ (then.node z).batch) × ((then.pass z).reg.flag ≡ (then.node z).shuffler)) (sym i)
        (λ e. absurd (let r : knows (then.pass p).phase ≡ false = ap (λ (z : PassState). knows z.phase) (Chain.updated-same w.pass p (fresh_pass (w.pass p))) in cc)))
        (λ n. subst (λ (z : NodeState × PassState). knows z.1.phase ≡ true → (z.1.reg.batch ≡ z.0.batch) × (z.1.reg.flag ≡ z.0.shuffler)) (λ j. (sym (node-else q n) j, sym (pass-else q n) j)) (k.known q));
    begins = Chain.updated-all (λ q t. t.phase ≡ Begin → t.reg.flag ≡ false → (t.reg.headed ≡ true) × (t.reg.batch ≡ 0)) w.pass p (fresh_pass (w.pass p)) (λ e. absurd (cc)) (λ q n. k.begins q);
  }
    where
      other : (q : ℕ) → is_queued (w.pass q) ≡ true → q ≢ p
      other q h i = let a : is_queued (w.pass p) ≡ true = subst (λ z. is_queued (w.pass z) ≡ true) i h in let b = away in cc

  nap-same : (w.pass p).nap ≡ Awake → (q : ℕ) → (then.pass q).nap ≡ (w.pass q).nap
  nap-same was = Chain.updated-all (λ q t. t.nap ≡ (w.pass q).nap) w.pass p (fresh_pass (w.pass p)) (sym was) (λ q n. refl)

  pub init-owed : (form : Form) → (w.pass p).nap ≡ Awake → Owed form w → Owed form then
  init-owed form was h = let same = nap-same was in record {
    places = Chain.updated-all (λ q t. fits t.nap t.phase ≡ true) w.pass p (fresh_pass (w.pass p)) refl (λ q n. h.places q);
    parked = λ q. Chain.by_eq q p
        (λ i. subst (λ z. (then.node z).parked ≡ announces (then.pass z).nap) (sym i) (ap (λ (z : NodeState). z.parked) node-here ∙ ap announces (sym (same p ∙ was))))
        (λ n. ap (λ (z : NodeState). z.parked) (node-else q n) ∙ (h.parked q ∙ ap announces (sym (same q))));
    roused = λ q e. (let a = sym (same q) ∙ e in let n : q ≢ p = λ i. (let b : (w.pass p).nap ≡ Rouse = subst (λ z. (w.pass z).nap ≡ Rouse) i a in cc) in ap called (node-else q n) ∙ h.roused q a);
    spinning = λ s q. (let t = h.spinning s q in (same q ∙ t.0, Chain.updated-all (λ z x. x.spin ≡ false) w.node p clear refl (λ z n. (h.spinning s z).1) q, t.2));
    told = λ q e k. (let n = other q (sym (queued-same q) ∙ e) in subst (λ (z : NodeState). 0 < z.batch) (sym (node-else q n)) (h.told q (sym (queued-same q) ∙ e) (ap (λ (z : NodeState). z.spin) (sym (node-else q n)) ∙ k)));
    grouped = λ s q e r b. (let a = sym (queued-same q) ∙ e in let n = other q a in ap (λ (z : NodeState). z.spin) (node-else q n) ∙
        h.grouped s q a (ap is_fore (sym (pass-else q n)) ∙ r) (subst (λ (z : NodeState). 0 < z.batch) (node-else q n) b));
    fresh = λ q. Chain.by_eq q p
        (λ i _. subst (λ z. (then.node z).spin ≡ false) (sym i) (ap (λ (z : NodeState). z.spin) node-here))
        (λ n e. ap (λ (z : NodeState). z.spin) (node-else q n) ∙ h.fresh q (ap (λ (z : PassState). z.phase) (sym (pass-else q n)) ∙ e));
    owed = λ q c e. let t = h.owed q (past q c) e in (t.0, same t.0 ∙ t.1);
    one = λ q a b x y. h.one q a b (sym (same a) ∙ x) (sym (same b) ∙ y);
    rung = λ q e. let t = h.rung q e in (kept q t.0, λ r x. t.1 r (sym (same r) ∙ x));
    rings = λ r q e. let t = h.rings r q (sym (same r) ∙ e) in (kept q t.0, t.1);
  }
    where
      other : (q : ℕ) → is_queued (w.pass q) ≡ true → q ≢ p
      other q h i = let a : is_queued (w.pass p) ≡ true = subst (λ z. is_queued (w.pass z) ≡ true) i h in let b = away in cc

      sleeper-other : (q : ℕ) → (w.pass q).nap ≡ Hear → q ≢ p
      sleeper-other q e i = let a : (w.pass p).nap ≡ Hear = subst (λ z. (w.pass z).nap ≡ Hear) i e in cc

      kept : (q : ℕ) → IsCalledSleeper w q → IsCalledSleeper then q
      kept q c = record { sleeps = nap-same was q ∙ c.sleeps; called = ap called (node-else q (sleeper-other q c.sleeps)) ∙ c.called }

      past : (q : ℕ) → IsCalledSleeper then q → IsCalledSleeper w q
      past q c = let e = sym (nap-same was q) ∙ c.sleeps in record { sleeps = e; called = ap called (sym (node-else q (sleeper-other q e))) ∙ c.called }

pub init-law : (t : Terms) → LawOf t Init
init-law t = at-phase t Init (λ w p c ok below nap f. let v = view w in let a = ok.agrees in
    advance-state t w ok p below (fresh_pass (known w.passes p)) Nothing ok.giver refl tt tt p 0 (below-count t w ok p below)
    (record { ready = false; shuffler = false; parked = false; spin = false; batch = 0; few = omega arith; is = omega arith })
    (record {
      order = init-order (view w) ok.shown ok.giver p a.order f;
      grouping = init-grouping (view w) ok.shown ok.giver p a.order f t.rules.limit a.grouping;
      holding = stay (count t) (view w).held (view w).readers (known w.passes) ok.shown.hold a.holding p (fresh_pass (known w.passes p)) (below-count t w ok p below) (view w).readers (grind (arith, f)) refl (let b : backs (known w.passes p) ≡ 0 = grind (arith, f) in omega arith);
      registered = registered-set t.rules.form (view w) (written_state (view w) p 0 p (fresh_pass (known w.passes p))) p (fresh_pass (known w.passes p)) refl refl (λ q n e. a.registered.late q e) a.registered (record {
        writing = λ e. absurd (cc);
        reading = λ e. absurd (cc);
        writers = λ x e. a.registered.writers x p (λ i. absurd (cc));
        no_compare = λ x e. absurd (cc);
        no_or = λ x e. absurd (cc);
        saw = λ e. absurd (cc);
        late = λ e. absurd (cc);
        seen = λ e. absurd (cc);
      });
      owed = init-owed (view w) ok.shown ok.giver p a.order f t.rules.form nap a.owed;
    }))
