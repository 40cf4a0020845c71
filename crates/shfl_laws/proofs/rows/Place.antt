-- The order and the grouping after Aim and Place, the second and the third store of a relink.
use Rattle.std.proofs.Common.{◌≡◌, ◌≢◌, ℕ, suc, ◌+◌, ◌<◌, List, ◌∷◌, Bool, true, false, cond, ◌==◌, refl, sym, ap, ◌∙◌, subst, arith}
use Rattle.std.specs.Prelude.{None}
use Rattle.std.proofs.lemmas.Bool.Decides.{nat_tests}
use Rattle.shfl_line.specs.Line.{Line, mark_of}
use Rattle.shfl_line.specs.Words.{link_word}
use Rattle.shfl_core.specs.declared.phase.Phase.TheVariants.{Aim, Place, Mark}
use Rattle.shfl_core.specs.declared.phase.Nap.TheVariants.{Awake}
use Rattle.shfl_line.specs.Passes.{updated, times, Chain, end, put_after, put_behind}
use Rattle.shfl_core.specs.Phases.{after_to_place, next_to_place, is_round, is_queued, is_linking, has_hand}
use Rattle.shfl_core.specs.View.{View}
use Rattle.shfl_core.specs.Order.{Order as Ordered, Round, Follows, Walks}
use Rattle.shfl_core.specs.Grouping.{Grouping}
use Rattle.shfl_laws.proofs.rows.Rows.{on, row_aim, row_place}
use Rattle.shfl_line.proofs.Chain
use Rattle.shfl_laws.proofs.rows.Order
use Rattle.shfl_line.proofs.Marks
use Rattle.shfl_laws.proofs.rows.Quiet.{Quiet}
use Rattle.shfl_laws.proofs.rows.RoundApart.{at-mark}
use Rattle.shfl_laws.proofs.rows.Relink.{relink-follows, relink-order, relink-grouping}

abbrev pub placed : Line → ℕ → ℕ → Line
placed s l c = record s { line = put_behind l c s.line; hand = None }

-- what is known at Aim and at Place
record At (w : View) (s : Line) (g p x : ℕ) (xs : List ℕ) : Type 0 where
  o : Ordered w s g
  v : Order.Scene w s x xs
  alone : (q : ℕ) → is_round (w.pass q).phase ≡ true → q ≡ p
  hand : link_word s.hand ≡ suc (w.pass p).reg.cand
  cand_out : times (w.pass p).reg.cand s.line ≡ 0
  cand_queued : is_queued (w.pass (w.pass p).reg.cand) ≡ true
  cand_free : is_linking (w.pass (w.pass p).reg.cand).phase ≡ false
  apart : (w.pass p).reg.prev ≢ (w.pass p).reg.last
  last_in : 0 < times (w.pass p).reg.last s.line
  first_next : w.next (w.pass p).reg.last ≡ suc (w.pass p).reg.first

hand-out : (t h c : ℕ) (b : Bool) → h ≡ suc c → t + cond (h == suc c) 1 0 ≡ cond b 1 0 → (t ≡ 0) × (b ≡ true)
hand-out t h c b e k = grind (arith, nat_tests)

not-true : (b : Bool) → (b ≡ true → ⊥) → b ≡ false
not-true b n = grind arith

at-hand : (limit : ℕ) (w : View) (s : Line) (g p x : ℕ) (xs : List ℕ) → Ordered w s g → Grouping limit w s → has_hand (w.pass p).phase ≡ true → is_round (w.pass p).phase ≡ true → Order.Scene w s x xs → (after_to_place (w.pass p).phase ≡ true) × (next_to_place (w.pass p).phase ≡ true) → At w s g p x xs
at-hand limit w s g p x xs o k f rp v cls = let r = o.round p rp in let apart = r.apart cls.0 in
    let hand : link_word s.hand ≡ suc (w.pass p).reg.cand = r.hand_is ∙ ap (λ b. cond b (suc (w.pass p).reg.cand) 0) f in
    let st = o.stands (w.pass p).reg.cand in
    let both : (times (w.pass p).reg.cand s.line ≡ 0) × (is_queued (w.pass (w.pass p).reg.cand) ≡ true) = hand-out (times (w.pass p).reg.cand s.line) (link_word s.hand) (w.pass p).reg.cand (is_queued (w.pass (w.pass p).reg.cand)) hand st in
    record {
      o = o;
      v = v;
      alone = λ q e. Order.alone limit w s p q k rp e;
      hand = hand;
      cand_out = both.0;
      cand_queued = both.1;
      cand_free = not-true (is_linking (w.pass (w.pass p).reg.cand).phase) (λ e. let l = o.links (w.pass p).reg.cand e in let z = both.0 in omega arith);
      apart = apart;
      last_in = (k.last p rp).0.inside;
      first_next = r.first_next cls.1 apart;
    }

module _ (w : View) (s : Line) (g p x : ℕ) (xs : List ℕ) (c : At w s g p x xs) (f : (w.pass p).phase ≡ Place) where
  place-quiet : Quiet (w.pass p) (on (w.pass p) Mark)
  place-quiet = record { queued = grind arith; fore = grind arith; no_link = grind arith; no_ready = grind arith; no_swap = grind arith }

  place-follows : (a b : ℕ) → a ≢ (w.pass p).reg.last → Follows w a b → Follows (row_place w p) a b
  place-follows = relink-follows w s g (w.pass p).reg.last (suc (w.pass p).reg.cand) p (on (w.pass p) Mark) c.o place-quiet

  cand-off : (w.pass p).reg.cand ≢ (w.pass p).reg.last
  cand-off e = let l = c.last_in in let z = c.cand_out in let l0 : 0 < times (w.pass p).reg.cand s.line = subst (λ v. 0 < times v s.line) (sym e) l in omega arith

  end-off : end x xs ≢ (w.pass p).reg.last
  end-off e = let z = c.v.stop in let t = c.first_next in let t1 : w.next (end x xs) ≡ suc (w.pass p).reg.first = subst (λ z. w.next z ≡ suc (w.pass p).reg.first) (sym e) t in grind arith

  aimed : w.next (w.pass p).reg.cand ≡ suc (w.pass p).reg.first
  aimed = (c.o.round p (grind (arith, f))).aimed f

  -- from the last marked to the pass from the hand, and from there on
  place-to : Follows (row_place w p) (w.pass p).reg.last (w.pass p).reg.cand
  place-to = record {
    word = Chain.updated-same w.next (w.pass p).reg.last (suc (w.pass p).reg.cand) ∙ (let z = c.cand_free in let l : is_linking ((row_place w p).pass (w.pass p).reg.cand).phase ≡ false = linking (w.pass p).reg.cand z in grind arith);
    late = λ h. absurd (let z = c.cand_free in let l : is_linking ((row_place w p).pass (w.pass p).reg.cand).phase ≡ false = linking (w.pass p).reg.cand z in grind arith);
  }
    where
      linking : (q : ℕ) → is_linking (w.pass q).phase ≡ false → is_linking (updated w.pass p (on (w.pass p) Mark) q).phase ≡ false
      linking = Chain.updated-all (λ q t. is_linking (w.pass q).phase ≡ false → is_linking t.phase ≡ false) w.pass p (on (w.pass p) Mark) (λ _. refl) (λ q m e. e)

  place-from : (b : ℕ) → Follows w (w.pass p).reg.last b → Follows (row_place w p) (w.pass p).reg.cand b
  place-from b h = let l = Order.link-suc w (w.pass p).reg.last b (w.pass p).reg.first c.first_next h in place-follows (w.pass p).reg.cand b cand-off (record {
    word = aimed ∙ (let e = l.0 in let n = l.1 in grind arith);
    late = λ e. absurd (let n = l.1 in grind arith);
  })

  place-chain : Chain (Follows (row_place w p)) x (put_after (w.pass p).reg.last (w.pass p).reg.cand x xs)
  place-chain = Chain.chain-put (Follows w) (Follows (row_place w p)) x (w.pass p).reg.last (w.pass p).reg.cand xs (λ a b _ _ n h. place-follows a b n h) place-to (λ b _ h. place-from b h)
      (let i = subst (λ l. 0 < times (w.pass p).reg.last l) c.v.line c.last_in in let o1 = c.v.once (w.pass p).reg.last in omega arith) c.v.walks

  place-walks : Walks (row_place w p) (put_behind (w.pass p).reg.last (w.pass p).reg.cand s.line)
  place-walks = rw c.v.line (
    place-chain,
    rw (Chain.end-put x (w.pass p).reg.last (w.pass p).reg.cand xs end-off) (Chain.updated-else w.next (w.pass p).reg.last (end x xs) (suc (w.pass p).reg.cand) end-off ∙ c.v.stop),
    rw (Chain.end-put x (w.pass p).reg.last (w.pass p).reg.cand xs end-off) c.v.tail,
  )

  place-round : mark_of s (w.pass p).reg.cand ≡ 0 → Round (updated w.next (w.pass p).reg.last (suc (w.pass p).reg.cand)) (mark_of s) w.tail (put_behind (w.pass p).reg.last (w.pass p).reg.cand s.line) 0 (on (w.pass p) Mark)
  place-round z = let r = c.o.round p (grind (arith, f)) in
      at-mark (updated w.next (w.pass p).reg.last (suc (w.pass p).reg.cand)) (mark_of s) w.tail (put_behind (w.pass p).reg.last (w.pass p).reg.cand s.line) 0 (w.pass p).reg Awake
      (let t = Marks.times-put-behind (w.pass p).reg.prev (w.pass p).reg.last (w.pass p).reg.cand s.line c.last_in in let i = r.prev_in in omega arith) r.prev_free refl (
        Chain.updated-same w.next (w.pass p).reg.last (suc (w.pass p).reg.cand),
        z,
        λ _. (
          Chain.updated-else w.next (w.pass p).reg.last (w.pass p).reg.cand (suc (w.pass p).reg.cand) cand-off ∙ aimed,
          λ e. (let i = r.prev_in in let z0 = c.cand_out in let i0 : 0 < times (w.pass p).reg.cand s.line = subst (λ v. 0 < times v s.line) e i in omega arith),
        ),
      )

place-order : (limit : ℕ) (w : View) (s : Line) (g p x : ℕ) (xs : List ℕ) → Ordered w s g → Grouping limit w s → At w s g p x xs → (w.pass p).phase ≡ Place → Ordered (row_place w p) (placed s (w.pass p).reg.last (w.pass p).reg.cand) g
place-order limit w s g p x xs o k c f = relink-order w s g (w.pass p).reg.last (suc (w.pass p).reg.cand) p (on (w.pass p) Mark) o (place-quiet w s g p x xs c f)
    (put_behind (w.pass p).reg.last (w.pass p).reg.cand s.line) None (Order.queued-in w s (w.pass p).reg.last o.stands c.last_in)
    (rw c.v.line refl)
    (place-walks w s g p x xs c f)
    (λ q. let t = Marks.times-put-behind q (w.pass p).reg.last (w.pass p).reg.cand s.line c.last_in in let h = c.hand in grind (arith, nat_tests))
    (λ q e. let t = Marks.times-put-behind q (w.pass p).reg.last (w.pass p).reg.cand s.line c.last_in in let l = o.links q e in omega arith)
    (λ _. refl)
    (λ q n e. n (c.alone q e))
    (λ _. place-round w s g p x xs c f (k.hand (w.pass p).reg.cand c.hand))

place-grouping : (limit : ℕ) (w : View) (s : Line) (g p x : ℕ) (xs : List ℕ) → Ordered w s g → Grouping limit w s → At w s g p x xs → (w.pass p).phase ≡ Place → Grouping limit (row_place w p) (placed s (w.pass p).reg.last (w.pass p).reg.cand)
place-grouping limit w s g p x xs o k c f = let rp : is_round (w.pass p).phase ≡ true = grind (arith, f) in let l = k.last p rp in
    let once : times (w.pass p).reg.last s.line ≡ 1 = (let i = c.last_in in let t = o.stands (w.pass p).reg.last in grind arith) in
    let z = k.hand (w.pass p).reg.cand c.hand in
    relink-grouping limit w s (w.pass p).reg.last (suc (w.pass p).reg.cand) p (on (w.pass p) Mark) (put_behind (w.pass p).reg.last (w.pass p).reg.cand s.line) None k rp refl (grind (arith, f)) (grind (arith, f)) (refl, refl)
    (λ q e. absurd (grind arith))
    (Marks.prefix-put (mark_of s) (w.pass p).reg.last (w.pass p).reg.cand s.line z once k.prefix l.0.stops)
    (Marks.last-put (mark_of s) (w.pass p).reg.last (w.pass p).reg.cand s.line z once k.prefix l.0, l.1, λ n. l.2 (grind (arith, f)))

module _ (w : View) (s : Line) (g p x : ℕ) (xs : List ℕ) (c : At w s g p x xs) (f : (w.pass p).phase ≡ Aim) where
  aim-quiet : Quiet (w.pass p) (on (w.pass p) Place)
  aim-quiet = record { queued = grind arith; fore = grind arith; no_link = grind arith; no_ready = grind arith; no_swap = grind arith }

  off : (q : ℕ) → 0 < times q s.line → q ≢ (w.pass p).reg.cand
  off q m e = let z = c.cand_out in let l0 : 0 < times (w.pass p).reg.cand s.line = subst (λ v. 0 < times v s.line) e m in omega arith

  off-scene : (q : ℕ) → 0 < times q (x ∷ xs) → q ≢ (w.pass p).reg.cand
  off-scene q m = off q (subst (λ l. 0 < times q l) (sym c.v.line) m)

  aim-walks : Walks (row_aim w p) s.line
  aim-walks = rw c.v.line (
    Chain.chain-map (Follows w) (Follows (row_aim w p)) x xs (λ a b m _ h. relink-follows w s g (w.pass p).reg.cand (suc (w.pass p).reg.first) p (on (w.pass p) Place) c.o aim-quiet a b (off-scene a m) h) c.v.walks,
    Chain.updated-else w.next (w.pass p).reg.cand (end x xs) (suc (w.pass p).reg.first) (off-scene (end x xs) (Chain.end-in x xs)) ∙ c.v.stop,
    c.v.tail,
  )

  aim-round : Round (updated w.next (w.pass p).reg.cand (suc (w.pass p).reg.first)) (mark_of s) w.tail s.line (link_word s.hand) (on (w.pass p) Place)
  aim-round = let r = c.o.round p (grind (arith, f)) in record {
    prev_in = r.prev_in;
    prev_free = r.prev_free;
    cand_next = λ h. absurd (grind arith);
    cand_inner = λ h. absurd (grind arith);
    first_next = λ h m. Chain.updated-else w.next (w.pass p).reg.cand (w.pass p).reg.last (suc (w.pass p).reg.first) (off (w.pass p).reg.last c.last_in) ∙ c.first_next;
    first_cand = λ h. absurd (grind arith);
    apart = λ h. c.apart;
    after_next = λ h. absurd (grind arith);
    gap = λ h. Chain.updated-else w.next (w.pass p).reg.cand (w.pass p).reg.prev (suc (w.pass p).reg.first) (off (w.pass p).reg.prev r.prev_in) ∙ r.gap (grind (arith, f));
    aimed = λ h. Chain.updated-same w.next (w.pass p).reg.cand (suc (w.pass p).reg.first);
    hand_is = c.hand;
    marking = λ h. absurd (grind arith);
  }

aim-order : (limit : ℕ) (w : View) (s : Line) (g p x : ℕ) (xs : List ℕ) → Ordered w s g → Grouping limit w s → At w s g p x xs → (w.pass p).phase ≡ Aim → Ordered (row_aim w p) s g
aim-order limit w s g p x xs o k c f = relink-order w s g (w.pass p).reg.cand (suc (w.pass p).reg.first) p (on (w.pass p) Place) o (aim-quiet w s g p x xs c f)
    s.line s.hand c.cand_queued refl (aim-walks w s g p x xs c f) (λ q. refl) (λ q e. o.links q e) o.still (λ q n e. n (c.alone q e)) (λ _. aim-round w s g p x xs c f)

aim-grouping : (limit : ℕ) (w : View) (s : Line) (g p x : ℕ) (xs : List ℕ) → Ordered w s g → Grouping limit w s → At w s g p x xs → (w.pass p).phase ≡ Aim → Grouping limit (row_aim w p) s
aim-grouping limit w s g p x xs o k c f = let rp : is_round (w.pass p).phase ≡ true = grind (arith, f) in let l = k.last p rp in
    relink-grouping limit w s (w.pass p).reg.cand (suc (w.pass p).reg.first) p (on (w.pass p) Place) s.line s.hand k rp refl (grind (arith, f)) (grind (arith, f)) (refl, refl) k.hand k.prefix (l.0, l.1, λ n. l.2 (grind (arith, f)))

-- the second store
pub law_aim : (limit : ℕ) (w : View) (s : Line) (g p : ℕ) → Ordered w s g → Grouping limit w s → (w.pass p).phase ≡ Aim → Ordered (row_aim w p) s g × Grouping limit (row_aim w p) s
law_aim limit w s g p o k f = let rp : is_round (w.pass p).phase ≡ true = grind (arith, f) in let t = Order.scene w s g (w.pass p).reg.prev o (o.round p rp).prev_in in
    let c = at-hand limit w s g p t.0 t.1 o k (grind (arith, f)) rp t.2 (grind (arith, f)) in
    (aim-order limit w s g p t.0 t.1 o k c f, aim-grouping limit w s g p t.0 t.1 o k c f)

-- the third store
pub law_place : (limit : ℕ) (w : View) (s : Line) (g p : ℕ) → Ordered w s g → Grouping limit w s → (w.pass p).phase ≡ Place → Ordered (row_place w p) (placed s (w.pass p).reg.last (w.pass p).reg.cand) g × Grouping limit (row_place w p) (placed s (w.pass p).reg.last (w.pass p).reg.cand)
law_place limit w s g p o k f = let rp : is_round (w.pass p).phase ≡ true = grind (arith, f) in let t = Order.scene w s g (w.pass p).reg.prev o (o.round p rp).prev_in in
    let c = at-hand limit w s g p t.0 t.1 o k (grind (arith, f)) rp t.2 (grind (arith, f)) in
    (place-order limit w s g p t.0 t.1 o k c f, place-grouping limit w s g p t.0 t.1 o k c f)
