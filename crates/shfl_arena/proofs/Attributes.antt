-- Attributes: the attribute word of a pass that isn't queued may become any word, with the terms.
use Rattle.std.proofs.Common.{◌≡◌, ◌≢◌, ℕ, ◌<◌, ◌≤◌, List, [], ◌∷◌, true, false, length, set, get_or, get_or-set_same, get_or-set_other, length-set, refl, sym, ap, ◌∙◌, subst, arith}
use Rattle.shfl_line.specs.Line.{Line, IsOfPasses}
use Rattle.shfl_line.specs.Words.{held_of, closed_of, readers_of, state_of}
use Rattle.shfl_line.specs.Passes.{updated}
use Rattle.shfl_line.proofs.Chain
use Rattle.shfl_core.specs.declared.phase.Phase.{Phase}
use Rattle.shfl_core.specs.declared.phase.Phase.TheVariants.{Decide, After, Pick}
use Rattle.shfl_core.specs.declared.words.Word.TheVariants.{Lock, Tail, Next, State, Attr, Bell}
use Rattle.shfl_core.specs.Words.{look, index, wide}
use Rattle.shfl_core.specs.Phases.{is_round, is_queued, tail_to_pick, decide_to_pick}
use Rattle.shfl_core.specs.Worlds.{World, known}
use Rattle.shfl_core.specs.View.{View, view}
use Rattle.shfl_core.specs.Order.{Order as Ordered, Follows, Walks}
use Rattle.shfl_core.specs.Grouping.{Grouping}
use Rattle.shfl_core.specs.Holding.{Holding, Registered}
use Rattle.shfl_core.specs.declared.phase.Rules.{Rules}
use Rattle.shfl_core.specs.Owed.{Owed}
use Rattle.shfl_core.specs.Lawful.{Terms, count, Agrees}
use Rattle.shfl_laws.proofs.words.Frame.{formed-set, look-else, look-same}
use Rattle.shfl_laws.proofs.rows.Order as Orders
use Rattle.shfl_laws.proofs.rows.RoundLaws.{candidate}
use Rattle.shfl_arena.specs.Nodes.{terms_with_attr}
use Rattle.shfl_arena.specs.NodeLaws.{AttributeLaw}

picks-round : (f : Phase) → decide_to_pick f ≡ true → (is_round f ≡ true) × (tail_to_pick f ≡ true)
picks-round Decide e = (refl, refl)
picks-round After e = (refl, refl)
picks-round Pick e = (refl, refl)
picks-round _ e = absurd (cc)

-- the attribute word of p says n
module _ (t t' : Terms) (rules : t'.rules ≡ t.rules) (counts : count t' ≡ count t) (w : View) (s : Line) (g p n : ℕ) (a : Agrees t w s g) (away : is_queued (w.pass p) ≡ false) where
  abbrev then : View
  then = record w { attr = updated w.attr p n }

  walks-same : (l : List ℕ) → Walks w l → Walks then l
  walks-same [] e = e
  walks-same (y ∷ ys) e = (Chain.chain-map (Follows w) (Follows then) y ys (λ b c _ _ k. record { word = k.word; late = k.late }) e.0, e.1, e.2)

  order-same : Ordered then s g
  order-same = let o = a.order in record {
    walks = walks-same s.line o.walks;
    fronted = record { who = o.fronted.who; is = o.fronted.is; only = o.fronted.only; front = o.fronted.front; heir = o.fronted.heir; linking = o.fronted.linking };
    stands = o.stands;
    clean = λ q. record { next = (o.clean q).next; init = (o.clean q).init };
    links = o.links;
    round = o.round;
    still = o.still;
  }

  cand-other : (q : ℕ) → decide_to_pick (w.pass q).phase ≡ true → (w.pass q).reg.cand ≢ p
  cand-other q d i = let k = picks-round (w.pass q).phase d in let c = candidate t.rules.limit w s g q a.order a.grouping k.0 k.1 in
      let z : is_queued (w.pass (w.pass q).reg.cand) ≡ true = Orders.queued-in w s (w.pass q).reg.cand a.order.stands c.inside in
      let y : is_queued (w.pass p) ≡ true = subst (λ r. is_queued (w.pass r) ≡ true) i z in let x = away in cc

  old-rules : Agrees t then s g
  old-rules = let h = a.owed in let r = a.registered in record {
    order = order-same;
    grouping = a.grouping;
    holding = a.holding;
    registered = record {
      writing = r.writing;
      reading = r.reading;
      writers = r.writers;
      no_compare = r.no_compare;
      no_or = r.no_or;
      saw = r.saw;
      late = r.late;
      seen = λ q d. r.seen q d ∙ sym (Chain.updated-else w.attr p (w.pass q).reg.cand n (cand-other q d));
    };
    owed = record {
      places = h.places;
      parked = h.parked;
      roused = h.roused;
      spinning = h.spinning;
      told = h.told;
      grouped = h.grouped;
      fresh = h.fresh;
      owed = λ q c e. h.owed q (record { sleeps = c.sleeps; called = c.called }) e;
      one = h.one;
      rung = λ q e. let z = h.rung q e in (record { sleeps = z.0.sleeps; called = z.0.called }, z.1);
      rings = λ x q e. let z = h.rings x q e in (record { sleeps = z.0.sleeps; called = z.0.called }, z.1);
    };
  }

  pub agrees-same : Agrees t' then s g
  agrees-same = let b = old-rules in record {
    order = b.order;
    grouping = subst (λ (r : Rules). Grouping r.limit then s) (sym rules) b.grouping;
    holding = subst (λ m. Holding m then.held then.readers then.pass s.hold) (sym counts) b.holding;
    registered = subst (λ (r : Rules). Registered r.form then) (sym rules) b.registered;
    owed = subst (λ (r : Rules). Owed r.form then) (sym rules) b.owed;
  }

view-attr : (w : World) (p n : ℕ) → index (Attr p) < length w.words → record (view w) { attr = updated (view w).attr p n } ≡ view (record { words = set w.words (index (Attr p)) n; passes = w.passes })
view-attr w p n h = λ k. record {
  held = held_of (sym (look-else w.words (Attr p) Lock n (λ e. omega arith)) k);
  closed = closed_of (sym (look-else w.words (Attr p) Lock n (λ e. omega arith)) k);
  readers = readers_of (sym (look-else w.words (Attr p) Lock n (λ e. omega arith)) k);
  tail = sym (look-else w.words (Attr p) Tail n (λ e. omega arith)) k;
  next = λ q. sym (look-else w.words (Attr p) (Next q) n (λ e. omega arith)) k;
  node = λ q. state_of (sym (look-else w.words (Attr p) (State q) n (λ e. omega arith)) k);
  attr = λ q. sym (here q) k;
  bell = λ q. sym (look-else w.words (Attr p) (Bell q) n (λ e. omega arith)) k;
  pass = known w.passes;
}
  where
    here : (q : ℕ) → look (set w.words (index (Attr p)) n) (Attr q) ≡ updated (λ z. look w.words (Attr z)) p n q
    here q = Chain.by_eq q p
        (λ e. subst (λ z. look (set w.words (index (Attr p)) n) (Attr z) ≡ updated (λ z. look w.words (Attr z)) p n z) (sym e) (look-same w.words (Attr p) n h ∙ sym (Chain.updated-same (λ z. look w.words (Attr z)) p n)))
        (λ m. look-else w.words (Attr p) (Attr q) n (λ e. m (omega arith)) ∙ sym (Chain.updated-else (λ z. look w.words (Attr z)) p q n m))

pub attribute-law : (t : Terms) → AttributeLaw t
attribute-law t w p n ok below away = (
  record {
    room = length-set w.words (index (Attr p)) n ∙ (ok.room ∙ ap wide (sym counts));
    seats = subst (λ c. length w.passes ≤ c) (sym counts) ok.seats;
    few = (let f = ok.few in let c = counts in omega arith);
    limit = ok.limit;
    formed = formed-set w.words (Attr p) n room tt ok.formed;
    attrs = λ q h. Chain.by_eq q p
        (λ e. subst (λ z. look (set w.words (index (Attr p)) n) (Attr z) ≡ get_or (set t.attrs p n) z 0) (sym e) (look-same w.words (Attr p) n room ∙ sym (get_or-set_same t.attrs p n 0 below)))
        (λ m. look-else w.words (Attr p) (Attr q) n (λ e. m (omega arith)) ∙ (ok.attrs q (let c = counts in omega arith) ∙ sym (get_or-set_other t.attrs p q n 0 m)));
    numbers = ok.numbers;
    shown = ok.shown;
    giver = ok.giver;
    of_passes = subst (λ c. IsOfPasses c ok.shown) (sym counts) ok.of_passes;
    agrees = subst (λ (z : View). Agrees (terms_with_attr t p n) z ok.shown ok.giver) (view-attr w p n room) (agrees-same t (terms_with_attr t p n) refl counts (view w) ok.shown ok.giver p n ok.agrees away);
  },
  refl,
)
  where
    counts : length (set t.attrs p n) ≡ count t
    counts = length-set t.attrs p n

    room : index (Attr p) < length w.words
    room = let r = ok.room in omega arith
