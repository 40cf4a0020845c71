-- A step of parking, as the world is read: only park states, announcements and wakeup words change.
use Rattle.std.proofs.Common.{◌≡◌, ℕ, List, [], ◌∷◌, Bool, refl, sym, ap, ◌∙◌, subst}
use Rattle.shfl_line.specs.declared.events.Form.{Form}
use Rattle.shfl_line.specs.declared.events.Mode.{Mode}
use Rattle.shfl_line.specs.Line.{Line}
use Rattle.shfl_line.specs.Words.{state_of}
use Rattle.shfl_line.specs.Passes.{updated}
use Rattle.shfl_line.proofs.Chain
use Rattle.shfl_core.specs.declared.phase.Nap.{Nap}
use Rattle.shfl_core.specs.View.{View}
use Rattle.shfl_core.specs.Order.{Order as Ordered, Follows, Walks}
use Rattle.shfl_core.specs.Grouping.{Grouping}
use Rattle.shfl_core.specs.Holding.{Holding, Registered}
use Rattle.shfl_core.specs.Owed.{Owed}
use Rattle.shfl_core.specs.Lawful.{Terms, count, Agrees}
use Rattle.shfl_laws.proofs.words.Frame.{written_state, written_bell}

-- the world with these park states, announcements and wakeup words
abbrev pub slept : View → (ℕ → Nap) → (ℕ → Bool) → (ℕ → ℕ) → View
slept w naps parked bells = record w { node = λ q. record (w.node q) { parked = parked q }; bell = bells; pass = λ q. record (w.pass q) { nap = naps q } }

module _ (w : View) (naps : ℕ → Nap) (parked : ℕ → Bool) (bells : ℕ → ℕ) where
  slept-walks : (l : List ℕ) → Walks w l → Walks (slept w naps parked bells) l
  slept-walks [] e = e
  slept-walks (x ∷ xs) e = (Chain.chain-map (Follows w) (Follows (slept w naps parked bells)) x xs (λ a b _ _ f. record { word = f.word; late = f.late }) e.0, e.1, e.2)

  slept-order : (s : Line) (g : ℕ) → Ordered w s g → Ordered (slept w naps parked bells) s g
  slept-order s g o = record {
    walks = slept-walks s.line o.walks;
    fronted = record { who = o.fronted.who; is = o.fronted.is; only = o.fronted.only; front = o.fronted.front; heir = o.fronted.heir; linking = o.fronted.linking };
    stands = o.stands;
    clean = λ q. record { next = (o.clean q).next; init = (o.clean q).init };
    links = o.links;
    round = λ q e. let r = o.round q e in record {
      prev_in = r.prev_in;
      prev_free = r.prev_free;
      cand_next = r.cand_next;
      cand_inner = r.cand_inner;
      first_next = r.first_next;
      first_cand = r.first_cand;
      apart = r.apart;
      after_next = r.after_next;
      gap = r.gap;
      aimed = r.aimed;
      hand_is = r.hand_is;
      marking = r.marking;
    };
    still = o.still;
  }

  slept-grouping : (limit : ℕ) (s : Line) → Grouping limit w s → Grouping limit (slept w naps parked bells) s
  slept-grouping limit s k = record {
    mark = k.mark;
    hand = k.hand;
    within = k.within;
    walks = k.walks;
    walker = k.walker;
    flagged = k.flagged;
    rester = k.rester;
    prefix = k.prefix;
    rests = k.rests;
    last = k.last;
    known = k.known;
    begins = k.begins;
  }

  slept-holding : (n : ℕ) (hold : List (ℕ × Mode)) → Holding n w.held w.readers w.pass hold → Holding n w.held w.readers (slept w naps parked bells).pass hold
  slept-holding n hold h = record { writer = h.writer; reader = h.reader; word = h.word; alone = h.alone; count = h.count }

  slept-registered : (form : Form) → Registered form w → Registered form (slept w naps parked bells)
  slept-registered form r = record { writing = r.writing; reading = r.reading; writers = r.writers; no_compare = r.no_compare; no_or = r.no_or; saw = r.saw; late = r.late; seen = r.seen }

  pub slept-agrees : (t : Terms) (s : Line) (g : ℕ) → Agrees t w s g → Owed t.rules.form (slept w naps parked bells) → Agrees t (slept w naps parked bells) s g
  slept-agrees t s g a o = record {
    order = slept-order s g a.order;
    grouping = slept-grouping t.rules.limit s a.grouping;
    holding = slept-holding (count t) s.hold a.holding;
    registered = slept-registered t.rules.form a.registered;
    owed = o;
  }

-- the pass p has the park state x
abbrev pub naps_at : View → ℕ → Nap → ℕ → Nap
naps_at w p x = updated (λ q. (w.pass q).nap) p x

abbrev pub parked_at : View → ℕ → Bool → ℕ → Bool
parked_at w p y = updated (λ q. (w.node q).parked) p y

nap-path : (w : View) (p : ℕ) (x : Nap) (q : ℕ) → record (w.pass q) { nap = naps_at w p x q } ≡ updated w.pass p (record (w.pass p) { nap = x }) q
nap-path w p x q = Chain.by_eq q p
    (λ e. subst (λ z. record (w.pass z) { nap = naps_at w p x z } ≡ updated w.pass p (record (w.pass p) { nap = x }) z) (sym e)
    (ap (λ (y : Nap). record (w.pass p) { nap = y }) (Chain.updated-same (λ z. (w.pass z).nap) p x) ∙ sym (Chain.updated-same w.pass p (record (w.pass p) { nap = x }))))
    (λ n. ap (λ (y : Nap). record (w.pass q) { nap = y }) (Chain.updated-else (λ z. (w.pass z).nap) p q x n) ∙ sym (Chain.updated-else w.pass p q (record (w.pass p) { nap = x }) n))

-- the pass writes its own state word, or the wakeup word of a pass
pub slept-state : (w : View) (p n : ℕ) (x : Nap) (y : Bool) → state_of n ≡ record (w.node p) { parked = y }
    → slept w (naps_at w p x) (parked_at w p y) w.bell ≡ written_state w p n p (record (w.pass p) { nap = x })
slept-state w p n x y e = λ j. record w { node = λ q. nodes q j; pass = λ q. nap-path w p x q j }
  where
    nodes : (q : ℕ) → record (w.node q) { parked = parked_at w p y q } ≡ updated w.node p (state_of n) q
    nodes q = Chain.by_eq q p
        (λ i. subst (λ z. record (w.node z) { parked = parked_at w p y z } ≡ updated w.node p (state_of n) z) (sym i)
        (ap (λ (b : Bool). record (w.node p) { parked = b }) (Chain.updated-same (λ z. (w.node z).parked) p y) ∙ (sym e ∙ sym (Chain.updated-same w.node p (state_of n)))))
        (λ m. ap (λ (b : Bool). record (w.node q) { parked = b }) (Chain.updated-else (λ z. (w.node z).parked) p q y m) ∙ sym (Chain.updated-else w.node p q (state_of n) m))

pub slept-bell : (w : View) (p i n : ℕ) (x : Nap) → slept w (naps_at w p x) (parked_at w p (w.node p).parked) (updated w.bell i n) ≡ written_bell w i n p (record (w.pass p) { nap = x })
slept-bell w p i n x = λ j. record w { node = λ q. nodes q j; bell = updated w.bell i n; pass = λ q. nap-path w p x q j }
  where
    nodes : (q : ℕ) → record (w.node q) { parked = parked_at w p (w.node p).parked q } ≡ w.node q
    nodes q = ap (λ (b : Bool). record (w.node q) { parked = b }) (Chain.updated-all (λ z b. b ≡ (w.node z).parked) (λ z. (w.node z).parked) p (w.node p).parked refl (λ z n. refl) q)

-- the pass writes no word
pub slept-pass : (w : View) (p : ℕ) (x : Nap) → slept w (naps_at w p x) (parked_at w p (w.node p).parked) w.bell ≡ record w { pass = updated w.pass p (record (w.pass p) { nap = x }) }
slept-pass w p x = λ j. record w { node = λ q. nodes q j; pass = λ q. nap-path w p x q j }
  where
    nodes : (q : ℕ) → record (w.node q) { parked = parked_at w p (w.node p).parked q } ≡ w.node q
    nodes q = ap (λ (b : Bool). record (w.node q) { parked = b }) (Chain.updated-all (λ z b. b ≡ (w.node z).parked) (λ z. (w.node z).parked) p (w.node p).parked refl (λ z n. refl) q)
