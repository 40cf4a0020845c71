-- Leaving: the state word of a pass that isn't queued, nor about to join, may as well be 0.
use Rattle.std.proofs.Common.{◌≡◌, ◌≢◌, ℕ, suc, ◌<◌, List, [], ◌∷◌, true, false, cond, ◌||◌, length, set, length-set, refl, sym, ap, ◌∙◌, subst, arith}
use Rattle.std.proofs.lemmas.Bool.Decides.{nat_tests}
use Rattle.shfl_line.specs.declared.words.NodeState.{NodeState}
use Rattle.shfl_line.specs.Line.{Line, mark_of, idle_shuffler}
use Rattle.shfl_line.specs.Words.{held_of, closed_of, readers_of, state_of}
use Rattle.shfl_line.specs.Passes.{updated, times, first}
use Rattle.shfl_line.proofs.Chain
use Rattle.shfl_core.specs.declared.phase.Phase.TheVariants.{Swap}
use Rattle.shfl_core.specs.declared.phase.Nap.TheVariants.{Hear, Rouse}
use Rattle.shfl_core.specs.declared.words.Word.TheVariants.{Lock, Tail, Next, State, Attr, Bell}
use Rattle.shfl_core.specs.Words.{look, index}
use Rattle.shfl_core.specs.Plan.{parks}
use Rattle.shfl_core.specs.Phases.{rank, is_queued, is_fore, knows}
use Rattle.shfl_core.specs.Worlds.{World, known}
use Rattle.shfl_core.specs.View.{View, view}
use Rattle.shfl_core.specs.Order.{Order as Ordered, Follows, Walks, is_head}
use Rattle.shfl_core.specs.Grouping.{Grouping}
use Rattle.shfl_core.specs.Holding.{Registered}
use Rattle.shfl_core.specs.Owed.{Owed, IsCalledSleeper, called, announces}
use Rattle.shfl_core.specs.Lawful.{Terms, Agrees}
use Rattle.shfl_laws.proofs.words.Frame.{formed-set, look-else, look-same}
use Rattle.shfl_laws.proofs.rows.Order as Orders
use Rattle.shfl_arena.specs.NodeLaws.{StateWordLaw}
use Rattle.shfl_arena.proofs.NodeLaws.{away-nap, knows-queued}

-- the state word of p says x
module _ (t : Terms) (w : View) (s : Line) (g p : ℕ) (a : Agrees t w s g) (away : is_queued (w.pass p) ≡ false) (swap : (w.pass p).phase ≢ Swap) (x : NodeState) where
  abbrev then : View
  then = record w { node = updated w.node p x }

  other : (q : ℕ) → is_queued (w.pass q) ≡ true → q ≢ p
  other q h i = let b : is_queued (w.pass p) ≡ true = subst (λ z. is_queued (w.pass z) ≡ true) i h in let c = away in cc

  node-else : (q : ℕ) → is_queued (w.pass q) ≡ true → then.node q ≡ w.node q
  node-else q h = Chain.updated-else w.node p q x (other q h)

  in-line : (q : ℕ) → 0 < times q s.line → is_queued (w.pass q) ≡ true
  in-line q h = Orders.queued-in w s q a.order.stands h

  first-in : (l : List ℕ) (q : ℕ) → first l ≡ suc q → 0 < times q l
  first-in [] q e = absurd (omega arith)
  first-in (y ∷ ys) q e = grind (arith, nat_tests)

  head-same : (q : ℕ) → is_queued (w.pass q) ≡ true → is_head then q ≡ is_head w q
  head-same q h = λ j. is_fore (w.pass q) || (node-else q h j).ready

  follows-same : (b c : ℕ) → Follows w b c → Follows then b c
  follows-same b c e = record { word = e.word; late = e.late }

  walks-same : (l : List ℕ) → Walks w l → Walks then l
  walks-same [] e = e
  walks-same (y ∷ ys) e = (Chain.chain-map (Follows w) (Follows then) y ys (λ b c _ _ k. follows-same b c k) e.0, e.1, e.2)

  order-free : Ordered then s g
  order-free = let o = a.order in record {
    walks = walks-same s.line o.walks;
    fronted = record {
      who = o.fronted.who;
      is = o.fronted.is;
      only = λ q e h. o.fronted.only q e (sym (head-same q e) ∙ h);
      front = λ q e h. head-same q (in-line q (first-in s.line q h)) ∙ o.fronted.front q e h;
      heir = o.fronted.heir;
      linking = λ q e. ap (λ (z : NodeState). z.ready) (node-else q (in-line q (o.links q e))) ∙ o.fronted.linking q e;
    };
    stands = o.stands;
    clean = λ q. record {
      next = (o.clean q).next;
      init = Chain.updated-all (λ q (z : NodeState). (w.pass q).phase ≡ Swap → (z.batch ≡ 0) × (z.shuffler ≡ false) × (z.ready ≡ false) × ((w.pass q).reg.batch ≡ 0) × ((w.pass q).reg.flag ≡ false)) w.node p x
          (λ e. absurd (swap e)) (λ q n. (o.clean q).init) q;
    };
    links = o.links;
    round = o.round;
    still = o.still;
  }

  grouping-free : Grouping t.rules.limit then s
  grouping-free = let k = a.grouping in record {
    mark = Chain.updated-all (λ q (z : NodeState). mark_of s q ≡ cond (is_queued (w.pass q)) z.batch 0) w.node p x
        (k.mark p ∙ (ap (λ b. cond b (w.node p).batch 0) away ∙ sym (ap (λ b. cond b x.batch 0) away))) (λ q n. k.mark q);
    hand = k.hand;
    within = k.within;
    walks = k.walks;
    walker = k.walker;
    flagged = Chain.updated-all (λ q (z : NodeState). is_queued (w.pass q) ≡ true → z.shuffler ≡ true → idle_shuffler s.role ≡ suc q) w.node p x
        (λ e. absurd (let b = away in cc)) (λ q n. k.flagged q);
    rester = Chain.updated-all (λ q (z : NodeState). idle_shuffler s.role ≡ suc q → (is_queued (w.pass q) ≡ true) × (z.shuffler ≡ true)) w.node p x
        (λ e. absurd (let b = away in let c = (k.rester p e).0 in cc)) (λ q n. k.rester q);
    prefix = k.prefix;
    rests = k.rests;
    last = k.last;
    known = Chain.updated-all (λ q (z : NodeState). knows (w.pass q).phase ≡ true → ((w.pass q).reg.batch ≡ z.batch) × ((w.pass q).reg.flag ≡ z.shuffler)) w.node p x
        (λ e. absurd (let b = away in let c = knows-queued (rank (w.pass p).phase) e in cc)) (λ q n. k.known q);
    begins = k.begins;
  }

  module _ (parked : x.parked ≡ false) (spin : parks t.rules.form ≡ false → x.spin ≡ false) where
    quiet : announces (w.pass p).nap ≡ false
    quiet = away-nap (w.pass p).nap (w.pass p).phase away (a.owed.places p)

    sleeper-same : (q : ℕ) → (w.pass q).nap ≡ Hear → then.node q ≡ w.node q
    sleeper-same q e = Chain.updated-else w.node p q x (λ i. (let b : announces (w.pass p).nap ≡ true = ap announces (subst (λ z. (w.pass z).nap ≡ Hear) i e) in let c = quiet in cc))

    kept : (q : ℕ) → IsCalledSleeper w q → IsCalledSleeper then q
    kept q c = record { sleeps = c.sleeps; called = ap called (sleeper-same q c.sleeps) ∙ c.called }

    past : (q : ℕ) → IsCalledSleeper then q → IsCalledSleeper w q
    past q c = record { sleeps = c.sleeps; called = sym (ap called (sleeper-same q c.sleeps)) ∙ c.called }

    owed-free : Owed t.rules.form then
    owed-free = let h = a.owed in record {
      places = h.places;
      parked = Chain.updated-all (λ q (z : NodeState). z.parked ≡ announces (w.pass q).nap) w.node p x (parked ∙ sym quiet) (λ q n. h.parked q);
      roused = Chain.updated-all (λ q (z : NodeState). (w.pass q).nap ≡ Rouse → called z ≡ true) w.node p x
          (λ e. absurd (let b : announces (w.pass p).nap ≡ true = ap announces e in let c = quiet in cc)) (λ q n. h.roused q);
      spinning = λ f q. (let z = h.spinning f q in (z.0, Chain.updated-all (λ q (z : NodeState). z.spin ≡ false) w.node p x (spin f) (λ r n. (h.spinning f r).1) q, z.2));
      told = Chain.updated-all (λ q (z : NodeState). is_queued (w.pass q) ≡ true → z.spin ≡ true → 0 < z.batch) w.node p x (λ e. absurd (let b = away in cc)) (λ q n. h.told q);
      grouped = λ f. Chain.updated-all (λ q (z : NodeState). is_queued (w.pass q) ≡ true → is_fore (w.pass q) ≡ false → 0 < z.batch → z.spin ≡ true) w.node p x (λ e. absurd (let b = away in cc)) (λ q n. h.grouped f q);
      fresh = Chain.updated-all (λ q (z : NodeState). (w.pass q).phase ≡ Swap → z.spin ≡ false) w.node p x (λ e. absurd (swap e)) (λ q n. h.fresh q);
      owed = λ q c e. h.owed q (past q c) e;
      one = h.one;
      rung = λ q e. let z = h.rung q e in (kept q z.0, z.1);
      rings = λ r q e. let z = h.rings r q e in (kept q z.0, z.1);
    }

    registered-free : Registered t.rules.form then
    registered-free = let r = a.registered in record {
      writing = r.writing;
      reading = r.reading;
      writers = r.writers;
      no_compare = r.no_compare;
      no_or = r.no_or;
      saw = r.saw;
      late = r.late;
      seen = r.seen;
    }

    pub agrees-free : Agrees t then s g
    agrees-free = record { order = order-free; grouping = grouping-free; holding = a.holding; registered = registered-free; owed = owed-free }

view-written : (w : World) (p n : ℕ) → index (State p) < length w.words → record (view w) { node = updated (view w).node p (state_of n) } ≡ view (record { words = set w.words (index (State p)) n; passes = w.passes })
view-written w p n h = λ k. record {
  held = held_of (sym (look-else w.words (State p) Lock n (λ e. omega arith)) k);
  closed = closed_of (sym (look-else w.words (State p) Lock n (λ e. omega arith)) k);
  readers = readers_of (sym (look-else w.words (State p) Lock n (λ e. omega arith)) k);
  tail = sym (look-else w.words (State p) Tail n (λ e. omega arith)) k;
  next = λ q. sym (look-else w.words (State p) (Next q) n (λ e. omega arith)) k;
  node = λ q. sym (here q) k;
  attr = λ q. sym (look-else w.words (State p) (Attr q) n (λ e. omega arith)) k;
  bell = λ q. sym (look-else w.words (State p) (Bell q) n (λ e. omega arith)) k;
  pass = known w.passes;
}
  where
    here : (q : ℕ) → state_of (look (set w.words (index (State p)) n) (State q)) ≡ updated (λ z. state_of (look w.words (State z))) p (state_of n) q
    here q = Chain.by_eq q p
        (λ e. subst (λ z. state_of (look (set w.words (index (State p)) n) (State z)) ≡ updated (λ z. state_of (look w.words (State z))) p (state_of n) z) (sym e) (ap state_of (look-same w.words (State p) n h) ∙ sym (Chain.updated-same (λ z. state_of (look w.words (State z))) p (state_of n))))
        (λ m. ap state_of (look-else w.words (State p) (State q) n (λ e. m (omega arith))) ∙ sym (Chain.updated-else (λ z. state_of (look w.words (State z))) p q (state_of n) m))

pub state-word-law : (t : Terms) → StateWordLaw t
state-word-law t w p ok below away swap = let room : index (State p) < length w.words = (let r = ok.room in omega arith) in record {
  lawful = record {
    room = length-set w.words (index (State p)) 0 ∙ ok.room;
    seats = ok.seats;
    few = ok.few;
    limit = ok.limit;
    formed = formed-set w.words (State p) 0 room (record { ready = false; shuffler = false; parked = false; spin = false; batch = 0; few = omega arith; is = omega arith }) ok.formed;
    attrs = λ q h. look-else w.words (State p) (Attr q) 0 (λ d. omega arith) ∙ ok.attrs q h;
    numbers = ok.numbers;
    shown = ok.shown;
    giver = ok.giver;
    of_passes = ok.of_passes;
    agrees = subst (λ (z : View). Agrees t z ok.shown ok.giver) (view-written w p 0 room) (agrees-free t (view w) ok.shown ok.giver p ok.agrees away swap (state_of 0) refl (λ _. refl));
  };
  admitted = tt;
  shown = refl;
}
