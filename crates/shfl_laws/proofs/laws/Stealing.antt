-- Stealing is disabled beside the rows, and who takes the lock past the queue found it enabled.
use Rattle.std.proofs.Common.{◌≡◌, ℕ, ◌<◌, ◌==◌, Bool, true, false, cond, List, [], ◌∷◌, length, set, length-set, refl, sym, ap, ◌∙◌, subst, arith}
use Rattle.std.specs.Prelude.{bit_or, ◌||◌}
use Rattle.std.proofs.lemmas.Bool.Decides.{nat_tests}
use Rattle.shfl_line.specs.declared.events.Mode.{Mode}
use Rattle.shfl_line.specs.declared.events.Mode.TheVariants.{Write, Read}
use Rattle.shfl_line.specs.declared.events.LineEvent.{LineEvent}
use Rattle.shfl_line.specs.declared.events.LineEvent.TheVariants.{Steal as StealEvent, Nothing}
use Rattle.shfl_line.specs.Line.{Line}
use Rattle.shfl_line.specs.Words.{held_of, closed_of, readers_of, state_of}
use Rattle.shfl_line.proofs.Chain.{chain-map}
use Rattle.shfl_core.specs.declared.phase.Phase.{Phase}
use Rattle.shfl_core.specs.declared.phase.Phase.TheVariants.{Steal, Count}
use Rattle.shfl_core.specs.declared.phase.Registers.{Registers as Regs}
use Rattle.shfl_core.specs.declared.phase.Nap.{Nap}
use Rattle.shfl_core.specs.declared.phase.Nap.TheVariants.{Awake}
use Rattle.shfl_core.specs.declared.phase.PassState.{PassState}
use Rattle.shfl_core.specs.declared.phase.Rules.{Rules}
use Rattle.shfl_core.specs.declared.words.Word.TheVariants.{Lock, Tail, Next, State, Attr, Bell}
use Rattle.shfl_core.specs.Words.{look, index, site}
use Rattle.shfl_core.specs.Plan.{plan_by, is_awake}
use Rattle.shfl_core.specs.Worlds.{World, known}
use Rattle.shfl_core.specs.View.{View, view}
use Rattle.shfl_core.specs.Events.{event_at}
use Rattle.shfl_core.specs.Order.{Order as Ordered, Follows, Walks, Fronted, Clean}
use Rattle.shfl_core.specs.Owed.{Owed, IsCalledSleeper}
use Rattle.shfl_core.specs.Holding.{Registered}
use Rattle.shfl_core.specs.Lawful.{Terms, count, Formed, Agrees, Lawful}
use Rattle.shfl_laws.specs.Stealing.{DisableLaw, StealsWhereEnabled, AttemptsWhereEnabled}
use Rattle.shfl_laws.proofs.words.Frame.{formed-set, look-else, look-same}
use Rattle.shfl_laws.proofs.words.LockBits.{Says, lock-or-closed}

-- the same view, but for whether stealing is enabled
abbrev gated : View → Bool → View
gated v c = record v { closed = c }

module _ (v : View) (c : Bool) where
  follows : (a b : ℕ) → Follows v a b → Follows (gated v c) a b
  follows a b f = record { word = f.word; late = f.late }

  walks : (line : List ℕ) → Walks v line → Walks (gated v c) line
  walks [] h = h
  walks (x ∷ xs) h = (chain-map (Follows v) (Follows (gated v c)) x xs (λ a b m n. follows a b) h.0, h.1, h.2)

  clean : (q : ℕ) → Clean v q → Clean (gated v c) q
  clean q h = record { next = h.next; init = h.init }

  order : (s : Line) (g : ℕ) → Ordered v s g → Ordered (gated v c) s g
  order s g o = record {
    walks = walks s.line o.walks;
    fronted = record {
      who = o.fronted.who;
      is = o.fronted.is;
      only = o.fronted.only;
      front = o.fronted.front;
      heir = o.fronted.heir;
      linking = o.fronted.linking;
    };
    stands = o.stands;
    clean = λ q. clean q (o.clean q);
    links = o.links;
    round = o.round;
    still = o.still;
  }

  called : (q : ℕ) → IsCalledSleeper v q → IsCalledSleeper (gated v c) q
  called q h = record { sleeps = h.sleeps; called = h.called }

  called-back : (q : ℕ) → IsCalledSleeper (gated v c) q → IsCalledSleeper v q
  called-back q h = record { sleeps = h.sleeps; called = h.called }

  agrees : (t : Terms) (s : Line) (g : ℕ) → Agrees t v s g → Agrees t (gated v c) s g
  agrees t s g a = record {
    order = order s g a.order;
    grouping = a.grouping;
    holding = a.holding;
    registered = record {
      writing = a.registered.writing;
      reading = a.registered.reading;
      writers = a.registered.writers;
      no_compare = a.registered.no_compare;
      no_or = a.registered.no_or;
      saw = a.registered.saw;
      late = a.registered.late;
      seen = a.registered.seen;
    };
    owed = record {
      places = a.owed.places;
      parked = a.owed.parked;
      roused = a.owed.roused;
      spinning = a.owed.spinning;
      told = a.owed.told;
      grouped = a.owed.grouped;
      fresh = a.owed.fresh;
      owed = λ q h. a.owed.owed q (called-back q h);
      one = a.owed.one;
      rung = λ q h. let r = a.owed.rung q h in (called q r.0, r.1);
      rings = λ r q h. let k = a.owed.rings r q h in (called q k.0, k.1);
    };
  }

pub disable-law : (t : Terms) → DisableLaw t
disable-law t w ok = record {
  lawful = record {
    room = length-set w.words (index Lock) m ∙ ok.room;
    seats = ok.seats;
    few = ok.few;
    limit = ok.limit;
    formed = formed-set w.words Lock m room says.form ok.formed;
    attrs = λ q h. look-else w.words Lock (Attr q) m (λ e. omega arith) ∙ ok.attrs q h;
    numbers = ok.numbers;
    shown = ok.shown;
    giver = ok.giver;
    of_passes = ok.of_passes;
    agrees = subst (λ (z : View). Agrees t z ok.shown ok.giver) seen (agrees (view w) true t ok.shown ok.giver ok.agrees);
  };
  admitted = tt;
  shown = refl;
}
  where
    n : ℕ
    n = look w.words Lock

    m : ℕ
    m = bit_or n 256

    says : Says m (held_of n) true (readers_of n)
    says = lock-or-closed n (ok.formed Lock)

    room : index Lock < length w.words
    room = let r = ok.room in omega arith

    is : look (set w.words (index Lock) m) Lock ≡ m
    is = look-same w.words Lock m room

    seen : gated (view w) true ≡ view (record { words = set w.words (index Lock) m; passes = w.passes })
    seen = λ k. record {
      held = (sym says.held ∙ ap held_of (sym is)) k;
      closed = (sym says.closed ∙ ap closed_of (sym is)) k;
      readers = (sym says.readers ∙ ap readers_of (sym is)) k;
      tail = sym (look-else w.words Lock Tail m (λ e. omega arith)) k;
      next = λ q. sym (look-else w.words Lock (Next q) m (λ e. omega arith)) k;
      node = λ q. state_of (sym (look-else w.words Lock (State q) m (λ e. omega arith)) k);
      attr = λ q. sym (look-else w.words Lock (Attr q) m (λ e. omega arith)) k;
      bell = λ q. sym (look-else w.words Lock (Bell q) m (λ e. omega arith)) k;
      pass = known w.passes;
    }

-- a free lock's word, and one that a reader may count itself into, say that stealing is enabled
free-is-open : (n p : ℕ) (m mode : Mode) (b : Bool) → (n == 0) ≡ b → cond b (StealEvent p m) Nothing ≡ StealEvent p mode → closed_of n ≡ false
free-is-open n p m mode true e i = (let z : n ≡ 0 = grind (arith, nat_tests, e) in ap closed_of z)
free-is-open n p m mode false e i = absurd (grind arith)

open-is-open : (n p : ℕ) (m mode : Mode) (a b : Bool) → closed_of n ≡ b → cond (a || b) Nothing (StealEvent p m) ≡ StealEvent p mode → closed_of n ≡ false
open-is-open n p m mode a false e i = e
open-is-open n p m mode true true e i = absurd (grind arith)
open-is-open n p m mode false true e i = absurd (grind arith)

steals-at : (t : Rules) (w : World) (p : ℕ) (r : Regs) (mode : Mode) (f : Phase)
    → event_at t p r (look w.words (site (plan_by t p r Awake f))) f ≡ StealEvent p mode → closed_of (look w.words Lock) ≡ false
steals-at t w p r mode Steal e = free-is-open (look w.words Lock) p Write mode (look w.words Lock == 0) refl e
steals-at t w p r mode Count e = open-is-open (look w.words Lock) p Read mode (held_of (look w.words Lock)) (closed_of (look w.words Lock)) refl e
steals-at t w p r mode f e = absurd (grind arith)

pub steals-where-enabled : (t : Terms) → StealsWhereEnabled t
steals-where-enabled t w p q mode e = by q.nap e
  where
    by : (n : Nap) → cond (is_awake n) (event_at t.rules p q.reg (look w.words (site (plan_by t.rules p q.reg n q.phase))) q.phase) Nothing ≡ StealEvent p mode → closed_of (look w.words Lock) ≡ false
    by Awake i = steals-at t.rules w p q.reg mode q.phase i
    by n i = absurd (grind arith)

pub attempts-where-enabled : AttemptsWhereEnabled
attempts-where-enabled w p Write mode e = free-is-open (look w.words Lock) p Write mode (look w.words Lock == 0) refl e
attempts-where-enabled w p Read mode e = open-is-open (look w.words Lock) p Read mode (held_of (look w.words Lock)) (closed_of (look w.words Lock)) refl e
