-- A lock at its opening, with all its seats filled, with none and with the first, and a seat that is filled.
use Rattle.std.proofs.Common.{◌≡◌, ◌≢◌, ℕ, zero, suc, ◌+◌, ◌*◌, ◌<◌, ◌≤◌, ◌⊎◌, inl, inr, Bool, false, List, [], ◌∷◌, ◌++◌, length, get_or, refl, sym, ap, ◌∙◌, subst, ⊎_elim, length-append, arith}
use Rattle.std.specs.Prelude.{map, replicate, slice_index}
use Rattle.std.proofs.lemmas.Bool.Decides.{nat_tests}
use mathlib.Core.Option.{some, some-injective, some-ne-none}
use lib.ListN.{get_elem?}
use Rattle.shfl_line.specs.declared.words.Attr.{Attr}
use Rattle.shfl_line.specs.declared.words.NodeState.{NodeState}
use Rattle.shfl_line.specs.Words.{attr_word, state_of}
use Rattle.shfl_line.specs.Line.{empty}
use Rattle.shfl_core.specs.declared.phase.PassState.{PassState}
use Rattle.shfl_core.specs.declared.phase.Rules.{Rules}
use Rattle.shfl_core.specs.declared.words.Word.{Word}
use Rattle.shfl_core.specs.declared.words.Word.TheVariants.{Lock, Tail, Next, State, Attr as AttrOf, Bell}
use Rattle.shfl_core.specs.Words.{look}
use Rattle.shfl_core.specs.Waiting.{idle}
use Rattle.shfl_core.specs.Worlds.{known, node_words, opening_words, idle_from}
use Rattle.shfl_core.specs.View.{View, view}
use Rattle.shfl_core.specs.Holding.{total, backs}
use Rattle.shfl_core.specs.Lawful.{Terms, count, Formed, Agrees}
use Rattle.shfl_core.proofs.Opening.{node-past, opening-at, opening-next, opening-long, idle-from-long, idle-from-at}
use Rattle.shfl_laws.specs.Moves.{terms, MayOpen, OpeningLaw, SeatLaw, unseated, first_seated, StartsLawful, StartLaw}

abbrev pub clear : NodeState
clear = record { ready = false; shuffler = false; parked = false; spin = false; batch = 0 }

-- a world as it is read at an opening
pub record IsFresh (w : View) : Type 0 where
  pub held : w.held ≡ false
  pub readers : w.readers ≡ 0
  pub tail : w.tail ≡ 0
  pub next : (q : ℕ) → w.next q ≡ 0
  pub node : (q : ℕ) → w.node q ≡ clear
  pub bell : (q : ℕ) → w.bell q ≡ 0
  pub pass : (q : ℕ) → w.pass q ≡ idle q

no-backs : (n : ℕ) (pass : ℕ → PassState) → ((q : ℕ) → pass q ≡ idle q) → total n (λ q. backs (pass q)) ≡ 0
no-backs zero pass h = refl
no-backs (suc n) pass h = let a = no-backs n pass h in let b : backs (pass n) ≡ 0 = ap backs (h n) in omega arith

zeros : (n q : ℕ) → slice_index (replicate n 0) q ≡ 0
zeros zero q = refl
zeros (suc n) zero = refl
zeros (suc n) (suc q) = zeros n q

zeros-long : (n : ℕ) → length {A = ℕ} (replicate n 0) ≡ n
zeros-long zero = refl
zeros-long (suc n) = ap suc (zeros-long n)

-- the world that is nothing but fresh
abbrev blank_view : (ℕ → ℕ) → Bool → View
blank_view attr closed = record { held = false; closed = closed; readers = 0; tail = 0; next = λ q. 0; node = λ q. clear; attr = attr; bell = λ q. 0; pass = idle }

blank-agrees : (t : Terms) (attr : ℕ → ℕ) (closed : Bool) → Agrees t (blank_view attr closed) (empty (count t)) 0
blank-agrees t attr closed = record {
  order = record {
    walks = refl;
    fronted = record {
      who = λ q e. absurd (grind arith);
      is = λ q e. absurd (omega arith);
      only = λ q e f. absurd (cc);
      front = λ q e f. absurd (omega arith);
      heir = λ q e. absurd (omega arith);
      linking = λ q e. refl;
    };
    stands = λ q. grind (arith, nat_tests);
    clean = λ q. record { next = λ e. refl; init = λ e. absurd (grind arith) };
    links = λ q e. absurd (cc);
    round = λ q e. absurd (cc);
    still = λ e. refl;
  };
  grouping = record {
    mark = λ q. zeros (count t) q;
    hand = λ q e. absurd (omega arith);
    within = λ q. let z = zeros (count t) q in omega arith;
    walks = λ q e. absurd (cc);
    walker = λ q e. absurd (omega arith);
    flagged = λ q e. absurd (cc);
    rester = λ q e. absurd (omega arith);
    prefix = tt;
    rests = λ q e. absurd (omega arith);
    last = λ q e. absurd (cc);
    known = λ q e. absurd (cc);
    begins = λ q e. absurd (grind arith);
  };
  holding = record {
    writer = λ q. refl;
    reader = λ q. refl;
    word = refl;
    alone = λ h. refl;
    count = let z = no-backs (count t) idle (λ q. refl) in omega arith;
  };
  registered = record {
    writing = λ q e. absurd (cc);
    reading = λ q e. absurd (cc);
    writers = λ s q e. refl;
    no_compare = λ s q e. grind arith;
    no_or = λ s q e. grind arith;
    saw = λ q e. absurd (grind arith);
    late = λ q e. absurd (grind arith);
    seen = λ q e. absurd (cc);
  };
  owed = record {
    places = λ q. refl;
    parked = λ q. refl;
    roused = λ q e. absurd (grind arith);
    spinning = λ s q. (refl, refl, refl);
    told = λ q e f. absurd (cc);
    grouped = λ s q e f. absurd (cc);
    fresh = λ q e. refl;
    owed = λ q c. absurd (let z = c.sleeps in grind arith);
    one = λ q a b e. absurd (grind arith);
    rung = λ q e. absurd (omega arith);
    rings = λ r q e. absurd (grind arith);
  };
}

fresh-agrees : (t : Terms) (w : View) → IsFresh w → Agrees t w (empty (count t)) 0
fresh-agrees t w h = subst (λ (z : View). Agrees t z (empty (count t)) 0)
    (λ j. record w { held = sym h.held j; readers = sym h.readers j; tail = sym h.tail j; next = λ q. sym (h.next q) j; node = λ q. sym (h.node q) j; bell = λ q. sym (h.bell q) j; pass = λ q. sym (h.pass q) j })
    (blank-agrees t w.attr w.closed)

-- the words of the passes at an opening
node-zero : (xs : List Attr) (q k : ℕ) → k < 4 → k ≢ 2 → get_or (node_words xs) (10 * q + k) 0 ≡ 0
node-zero [] q k h n = refl
node-zero (x ∷ xs) zero k h n = by k h n
  where
    by : (k : ℕ) → k < 4 → k ≢ 2 → get_or (node_words (x ∷ xs)) (10 * 0 + k) 0 ≡ 0
    by zero h n = refl
    by (suc zero) h n = refl
    by (suc (suc zero)) h n = absurd (n refl)
    by (suc (suc (suc zero))) h n = refl
    by (suc (suc (suc (suc k)))) h n = absurd (omega arith)
node-zero (x ∷ xs) (suc q) k h n = node-past x xs q k ∙ node-zero xs q k h n

node-attr : (xs : List Attr) (q : ℕ) → get_or (node_words xs) (10 * q + 2) 0 ≡ get_or (map attr_word xs) q 0
node-attr [] q = refl
node-attr (x ∷ xs) zero = refl
node-attr (x ∷ xs) (suc q) = node-past x xs q 2 ∙ node-attr xs q

module _ (xs : List Attr) where
  opening-zero : (q k i : ℕ) → i ≡ 10 * q + 20 + k → k < 4 → k ≢ 2 → get_or (opening_words xs) i 0 ≡ 0
  opening-zero q k i e h n = opening-at xs q k i e ∙ node-zero xs q k h n

  opening-attr : (q : ℕ) → look (opening_words xs) (AttrOf q) ≡ get_or (map attr_word xs) q 0
  opening-attr q = opening-at xs q 2 (10 * q + 22) (omega arith) ∙ node-attr xs q

  opening-state : (q : ℕ) → look (opening_words xs) (State q) ≡ 0
  opening-state q = opening-zero q 1 (10 * q + 21) (omega arith) (omega arith) (omega arith)

  opening-bell : (q : ℕ) → look (opening_words xs) (Bell q) ≡ 0
  opening-bell q = opening-zero q 3 (10 * q + 23) (omega arith) (omega arith) (omega arith)

  opening-formed : (v : Word) → Formed v (look (opening_words xs) v)
  opening-formed Lock = record { held = false; closed = false; readers = 0; few = omega arith; is = refl }
  opening-formed Tail = omega arith
  opening-formed (Next q) = let e = opening-next xs q in omega arith
  opening-formed (State q) = record { ready = false; shuffler = false; parked = false; spin = false; batch = 0; few = omega arith; is = opening-state q }
  opening-formed (AttrOf q) = tt
  opening-formed (Bell q) = let e = opening-bell q in omega arith

  opening-fresh : (l : List PassState) → ((q : ℕ) → known l q ≡ idle q) → IsFresh (view (record { words = opening_words xs; passes = l }))
  opening-fresh l idles = record {
    held = refl;
    readers = refl;
    tail = refl;
    next = opening-next xs;
    node = λ q. ap state_of (opening-state q);
    bell = opening-bell;
    pass = idles;
  }

map-long : (xs : List Attr) → length (map attr_word xs) ≡ length xs
map-long [] = refl
map-long (x ∷ xs) = ap suc (map-long xs)

idle-known : (p : ℕ) (ys : List Attr) (q : ℕ) → get_or (idle_from p ys) q (idle (p + q)) ≡ idle (p + q)
idle-known p [] q = refl
idle-known p (y ∷ ys) zero = ap idle (let e : p ≡ p + 0 = omega arith in e)
idle-known p (y ∷ ys) (suc q) = let e : p + suc q ≡ suc p + q = omega arith in ap (λ z. get_or (idle_from (suc p) ys) q (idle z)) e ∙ (idle-known (suc p) ys q ∙ ap idle (sym e))

-- the words of an opening, with whatever idle passes have their seats
opens-with : (rules : Rules) (attrs : List Attr) → MayOpen rules attrs → (l : List PassState) → length l ≤ length attrs
    → ((q : ℕ) → known l q ≡ idle q) → ((p : ℕ) (q : PassState) → get_elem? l p ≡ some q → q.reg.me ≡ p) → StartsLawful rules attrs (record { words = opening_words attrs; passes = l })
opens-with rules attrs may l seats idles numbered = let k = map-long attrs in let few = may.few in record {
  lawful = record {
    room = let l = opening-long attrs in omega arith;
    seats = omega arith;
    few = omega arith;
    limit = may.limit;
    formed = opening-formed attrs;
    attrs = λ q h. opening-attr attrs q;
    numbers = numbered;
    shown = empty (length (map attr_word attrs));
    giver = 0;
    of_passes = record { marks = zeros-long (length (map attr_word attrs)); hold = tt; line = λ q h. absurd (omega arith); hand = λ q h. absurd (omega arith); once = λ q. grind (arith, nat_tests) };
    agrees = fresh-agrees (terms rules attrs) (view (record { words = opening_words attrs; passes = l })) (opening-fresh attrs l idles);
  };
  shown = ap empty (map-long attrs);
}

pub opening-law : OpeningLaw
opening-law rules attrs may = let n = idle-from-long 0 attrs in
    let o = opens-with rules attrs may (idle_from 0 attrs) (omega arith)
    (λ q. let e : 0 + q ≡ q = omega arith in subst (λ z. get_or (idle_from 0 attrs) q (idle z) ≡ idle z) e (idle-known 0 attrs q))
    (λ p q e. ap (λ (z : PassState). z.reg.me) (idle-from-at 0 attrs p q e).0 ∙ (let z : 0 + p ≡ p = omega arith in z)) in
    record { lawful = o.lawful; shown = o.shown }

pub start-law : StartLaw unseated
start-law rules attrs may = opens-with rules attrs may [] (omega arith) (λ q. refl) (λ p q e. absurd (some-ne-none q (sym e)))

-- a list of passes with one more that is idle
append-read : (l : List PassState) (x d : PassState) (q : ℕ) → (q ≡ length l → x ≡ d) → get_or (l ++ x ∷ []) q d ≡ get_or l q d
append-read [] x d zero h = h refl
append-read [] x d (suc q) h = refl
append-read (y ∷ ys) x d zero h = refl
append-read (y ∷ ys) x d (suc q) h = append-read ys x d q (λ e. h (ap suc e))

-- one idle pass more changes no pass that is known
pub known-one : (l : List PassState) (q : ℕ) → known (l ++ idle (length l) ∷ []) q ≡ known l q
known-one l q = append-read l (idle (length l)) (idle q) q (λ e. ap idle (sym e))

append-at : (l : List PassState) (x : PassState) (i : ℕ) (u : PassState) → get_elem? (l ++ x ∷ []) i ≡ some u → (get_elem? l i ≡ some u) ⊎ ((i ≡ length l) × (x ≡ u))
append-at [] x zero u e = inr (refl, some-injective x u e)
append-at [] x (suc i) u e = absurd (some-ne-none u (sym e))
append-at (y ∷ ys) x zero u e = inl e
append-at (y ∷ ys) x (suc i) u e = ⊎_elim (λ a. inl a) (λ a. inr (ap suc a.0, a.1)) (append-at ys x i u e)

pub seat-law : (t : Terms) → SeatLaw t
seat-law t w ok room = let l = w.passes in let n = length-append w.passes (idle (length w.passes) ∷ []) in record {
  lawful = record {
    room = ok.room;
    seats = omega arith;
    few = ok.few;
    limit = ok.limit;
    formed = ok.formed;
    attrs = ok.attrs;
    numbers = λ p q e. ⊎_elim (λ a. ok.numbers p q a) (λ a. ap (λ (z : PassState). z.reg.me) (sym a.1) ∙ sym a.0) (append-at w.passes (idle (length w.passes)) p q e);
    shown = ok.shown;
    giver = ok.giver;
    of_passes = ok.of_passes;
    agrees = subst (λ (z : View). Agrees t z ok.shown ok.giver)
        (λ j. record (view w) { pass = λ q. sym (known-one w.passes q) j }) ok.agrees;
  };
  admitted = tt;
  shown = refl;
}

-- the first seat is one that is filled
pub first-seat-law : StartLaw first_seated
first-seat-law rules attrs may = let s = start-law rules attrs may in let k = map-long attrs in let some = may.some in
    let a = seat-law (terms rules attrs) (unseated attrs) s.lawful (omega arith) in record { lawful = a.lawful; shown = a.shown ∙ s.shown }
