-- The order and the grouping after Pick, the first store of a relink, and that the line admits it.
use Rattle.std.proofs.Common.{◌≡◌, ◌≢◌, ℕ, suc, ◌<◌, ◌≤◌, List, ◌∷◌, true, false, refl, sym, ap, ◌∙◌, ⊎_elim, subst, arith}
use Rattle.std.specs.Prelude.{Some}
use Rattle.std.proofs.lemmas.Bool.Decides.{nat_tests}
use Rattle.shfl_line.specs.Line.{Line, mark_of}
use Rattle.shfl_line.specs.Words.{link_word}
use Rattle.shfl_core.specs.declared.phase.Phase.TheVariants.{Pick, Aim}
use Rattle.shfl_line.proofs.Batches.{stands-behind}
use Rattle.shfl_line.specs.Passes.{behind, updated, times, last, Chain, EachPair, end, without, follower_after, follower, last_marked, MarkedFirst, StopsAt}
use Rattle.shfl_core.specs.Phases.{is_round, is_queued, is_linking}
use Rattle.shfl_core.specs.View.{View}
use Rattle.shfl_core.specs.Order.{Order as Ordered, Round, Follows, Walks, Stands}
use Rattle.shfl_core.specs.Grouping.{Grouping}
use Rattle.shfl_laws.proofs.rows.Rows.{on, row_pick}
use Rattle.shfl_line.specs.declared.events.LineEvent.TheVariants.{Pick as PickEvent}
use Rattle.shfl_line.specs.Steps.{Admits}
use Rattle.shfl_line.proofs.Chain
use Rattle.shfl_laws.proofs.rows.Order
use Rattle.shfl_line.proofs.Marks
use Rattle.shfl_laws.proofs.rows.Quiet.{Quiet}
use Rattle.shfl_laws.proofs.rows.Relink.{relink-follows, relink-order, relink-grouping}

abbrev pub picked : Line → ℕ → Line
picked s c = record s { line = without c s.line; hand = Some c }

-- what is known at Pick
record At (w : View) (s : Line) (g p x : ℕ) (xs : List ℕ) : Type 0 where
  o : Ordered w s g
  is : (w.pass p).phase ≡ Pick
  line : s.line ≡ x ∷ xs
  walks : Chain (Follows w) x xs
  stop : w.next (end x xs) ≡ 0
  tail : w.tail ≡ suc (end x xs)
  once : (q : ℕ) → times q (x ∷ xs) ≤ 1
  alone : (q : ℕ) → is_round (w.pass q).phase ≡ true → q ≡ p
  prev_in : 0 < times (w.pass p).reg.prev (x ∷ xs)
  prev_queued : is_queued (w.pass (w.pass p).reg.prev) ≡ true
  hand : link_word s.hand ≡ 0
  once_c : times (w.pass p).reg.cand xs ≤ 1
  cand_next : w.next (w.pass p).reg.prev ≡ suc (w.pass p).reg.cand
  cand_inner : end x xs ≢ (w.pass p).reg.cand
  cand_in : 0 < times (w.pass p).reg.cand xs
  cand_free : is_linking (w.pass (w.pass p).reg.cand).phase ≡ false
  no_loop : (w.pass p).reg.prev ≢ (w.pass p).reg.cand
  cand_inline : 0 < times (w.pass p).reg.cand s.line
  not_first : x ≢ (w.pass p).reg.cand
  after_next : w.next (w.pass p).reg.cand ≡ suc (w.pass p).reg.after
  after_free : is_linking (w.pass (w.pass p).reg.after).phase ≡ false
  apart : (w.pass p).reg.prev ≢ (w.pass p).reg.last
  cand_zero : mark_of s (w.pass p).reg.cand ≡ 0
  last_apart : (w.pass p).reg.last ≢ (w.pass p).reg.cand
  first_next : w.next (w.pass p).reg.last ≡ suc (w.pass p).reg.first

module _ (w : View) (s : Line) (g p x : ℕ) (xs : List ℕ) (c : At w s g p x xs) where
  same : (a : ℕ) → 0 < times a (x ∷ xs) → Follows w a (w.pass p).reg.cand → a ≡ (w.pass p).reg.prev
  same a m f = let e : w.next a ≡ suc (w.pass p).reg.cand = grind (arith, f.word, c.cand_free) in Order.pred-one w x xs a (w.pass p).reg.prev (w.pass p).reg.cand c.walks c.stop (grind (arith, c.once (w.pass p).reg.cand)) m c.prev_in e c.cand_next

  pick-joins : (a b : ℕ) → 0 < times a (x ∷ xs) → Follows w a (w.pass p).reg.cand → Follows w (w.pass p).reg.cand b → 0 < times b xs → Follows (row_pick w p) a b
  pick-joins a b m f h k = record {
    word = let e : a ≡ (w.pass p).reg.prev = same a m f in grind (arith, nat_tests, c.is, h.word, e, c.after_next);
    late = let n = c.after_next in grind (arith, nat_tests, h.word);
  }

  pick-quiet : Quiet (w.pass p) (on (w.pass p) Aim)
  pick-quiet = let f = c.is in record { queued = grind arith; fore = grind arith; no_link = grind arith; no_ready = grind arith; no_swap = grind arith }

  pick-chain : Chain (Follows (row_pick w p)) x (without (w.pass p).reg.cand xs)
  pick-chain = Chain.chain-without (Follows w) (Follows (row_pick w p)) x (w.pass p).reg.cand xs
      (λ a b m n na nb f. relink-follows w s g (w.pass p).reg.prev (suc (w.pass p).reg.after) p (on (w.pass p) Aim) c.o pick-quiet a b (λ e. nb (let l = f.word in let t = c.cand_next in let t1 : w.next a ≡ suc (w.pass p).reg.cand = subst (λ z. w.next z ≡ suc (w.pass p).reg.cand) (sym e) t in grind arith)) f)
      pick-joins c.not_first (c.once_c) c.walks

  pick-walks : Walks (row_pick w p) (without (w.pass p).reg.cand s.line)
  pick-walks = rw (c.line, Chain.without-miss x (w.pass p).reg.cand xs c.not_first) (
    pick-chain,
    rw (Chain.end-without x (w.pass p).reg.cand xs c.cand_inner c.not_first) (Chain.updated-else w.next (w.pass p).reg.prev (end x xs) (suc (w.pass p).reg.after) (λ e. let z = c.stop in let t = c.cand_next in let t1 : w.next (end x xs) ≡ suc (w.pass p).reg.cand = subst (λ z. w.next z ≡ suc (w.pass p).reg.cand) (sym e) t in grind arith) ∙ c.stop),
    rw (Chain.end-without x (w.pass p).reg.cand xs c.cand_inner c.not_first) c.tail,
  )

  pick-round : Round (updated w.next (w.pass p).reg.prev (suc (w.pass p).reg.after)) (mark_of s) w.tail (without (w.pass p).reg.cand s.line) (suc (w.pass p).reg.cand) (on (w.pass p) Aim)
  pick-round = let r = c.o.round p (grind (arith, c.is)) in let n : (w.pass p).reg.prev ≢ (w.pass p).reg.cand = c.no_loop in record {
    prev_in = grind (arith, nat_tests, n, r.prev_in, Chain.times-without, c.cand_inline);
    prev_free = r.prev_free;
    cand_next = λ h. absurd (grind arith);
    cand_inner = λ h. absurd (grind arith);
    first_next = λ h m. let e = c.first_next in let k = c.apart in grind (arith, nat_tests);
    first_cand = λ h. absurd (grind arith);
    apart = λ h. c.apart;
    after_next = λ h. absurd (grind arith);
    gap = λ h. Chain.updated-same w.next (w.pass p).reg.prev (suc (w.pass p).reg.after);
    aimed = λ h. absurd (grind arith);
    hand_is = refl;
    marking = λ h. absurd (grind arith);
  }

at-pick : (limit : ℕ) (w : View) (s : Line) (g p x : ℕ) (xs : List ℕ) → Ordered w s g → Grouping limit w s → (w.pass p).phase ≡ Pick → Order.Scene w s x xs → At w s g p x xs
at-pick limit w s g p x xs o k f v =
    let rp : is_round (w.pass p).phase ≡ true = grind (arith, f) in
    let r = o.round p rp in
    let pick : (w.pass p).phase ≡ Pick = f in
    let prev_in : 0 < times (w.pass p).reg.prev (x ∷ xs) = subst (λ l. 0 < times (w.pass p).reg.prev l) v.line r.prev_in in
    let cand_next : w.next (w.pass p).reg.prev ≡ suc (w.pass p).reg.cand = r.cand_next (grind (arith, f)) in
    let after_next : w.next (w.pass p).reg.cand ≡ suc (w.pass p).reg.after = r.after_next f in
    let c = Order.succ-in w x xs (w.pass p).reg.prev (w.pass p).reg.cand v.walks v.stop prev_in cand_next in
    let cand_all : 0 < times (w.pass p).reg.cand (x ∷ xs) = grind (arith, c.0) in
    let a = Order.succ-in w x xs (w.pass p).reg.cand (w.pass p).reg.after v.walks v.stop cand_all after_next in
    let apart : (w.pass p).reg.prev ≢ (w.pass p).reg.last = r.apart (grind (arith, f)) in
    let cand_zero : mark_of s (w.pass p).reg.cand ≡ 0 = Order.unmarked-next w (mark_of s) x xs (w.pass p).reg.prev (w.pass p).reg.cand v.walks (subst (λ l. EachPair (MarkedFirst (mark_of s)) l) v.line k.prefix) v.stop prev_in cand_next (⊎_elim (λ q. absurd (apart q)) (λ q. q) r.prev_free) in
    record {
      o = o;
      is = f;
      line = v.line;
      walks = v.walks;
      stop = v.stop;
      tail = v.tail;
      once = v.once;
      alone = λ q h. Order.alone limit w s p q k rp h;
      prev_in = prev_in;
      prev_queued = Order.queued-in w s (w.pass p).reg.prev o.stands r.prev_in;
      hand = r.hand_is ∙ grind (arith, f);
      cand_next = cand_next;
      once_c = (let t = v.once (w.pass p).reg.cand in omega arith);
      cand_inner = λ e. r.cand_inner (grind (arith, f)) (v.tail ∙ ap suc e);
      cand_in = c.0;
      cand_free = c.1;
      no_loop = λ e. Order.no-loop w x xs (w.pass p).reg.prev v.walks v.stop (v.once (w.pass p).reg.prev) prev_in (cand_next ∙ ap suc (sym e));
      cand_inline = subst (λ l. 0 < times (w.pass p).reg.cand l) (sym v.line) cand_all;
      not_first = λ e. (let o1 = v.once (w.pass p).reg.cand in let i = c.0 in grind (arith, nat_tests));
      after_next = after_next;
      after_free = a.1;
      apart = apart;
      cand_zero = cand_zero;
      last_apart = λ e. (let l = (k.last p rp).0.marked in let l0 : 0 < mark_of s (w.pass p).reg.cand = subst (λ v. 0 < mark_of s v) e l in omega arith);
      first_next = r.first_next (grind (arith, f)) apart;
    }

pick-stands : (w : View) (s : Line) (p : ℕ) → Stands w s → (w.pass p).phase ≡ Pick → link_word s.hand ≡ 0 → 0 < times (w.pass p).reg.cand s.line → Stands (row_pick w p) (picked s (w.pass p).reg.cand)
pick-stands w s p o f h m q = grind (arith, nat_tests, o q, Chain.times-without)

pick-order : (limit : ℕ) (w : View) (s : Line) (g p x : ℕ) (xs : List ℕ) → Ordered w s g → Grouping limit w s → At w s g p x xs → Ordered (row_pick w p) (picked s (w.pass p).reg.cand) g
pick-order limit w s g p x xs o k c = relink-order w s g (w.pass p).reg.prev (suc (w.pass p).reg.after) p (on (w.pass p) Aim) o (pick-quiet w s g p x xs c)
    (without (w.pass p).reg.cand s.line) (Some (w.pass p).reg.cand) c.prev_queued
    (rw (c.line, Chain.without-miss x (w.pass p).reg.cand xs c.not_first) refl)
    (pick-walks w s g p x xs c)
    (λ q. let t = Chain.times-without q (w.pass p).reg.cand s.line c.cand_inline in let h = c.hand in grind (arith, nat_tests))
    (λ q e. let t = Chain.times-without q (w.pass p).reg.cand s.line c.cand_inline in let l = o.links q e in let h = c.cand_free in
    Chain.by_eq (w.pass p).reg.cand q (λ i. absurd (let z : is_linking (w.pass q).phase ≡ false = subst (λ z. is_linking (w.pass z).phase ≡ false) i h in grind arith)) (λ n. grind (arith, nat_tests)))
    (λ h. absurd (let e = k.walks p (grind (arith, c.is)) in omega arith))
    (λ q n e. n (c.alone q e))
    (λ _. pick-round w s g p x xs c)

pick-grouping : (limit : ℕ) (w : View) (s : Line) (g p x : ℕ) (xs : List ℕ) → Ordered w s g → Grouping limit w s → At w s g p x xs → Grouping limit (row_pick w p) (picked s (w.pass p).reg.cand)
pick-grouping limit w s g p x xs o k c = let rp : is_round (w.pass p).phase ≡ true = grind (arith, c.is) in
    let once : times (w.pass p).reg.cand s.line ≤ 1 = grind (arith, o.stands (w.pass p).reg.cand) in
    let inline = c.cand_inline in let l = k.last p rp in
    relink-grouping limit w s (w.pass p).reg.prev (suc (w.pass p).reg.after) p (on (w.pass p) Aim) (without (w.pass p).reg.cand s.line) (Some (w.pass p).reg.cand) k rp refl (grind (arith, c.is)) (grind (arith, c.is)) (refl, refl)
    (λ q e. let z = c.cand_zero in grind arith)
    (Marks.prefix-without (mark_of s) (w.pass p).reg.cand s.line once k.prefix)
    (Marks.last-without (mark_of s) (w.pass p).reg.cand (w.pass p).reg.last s.line (omega arith) c.last_apart k.prefix l.0, l.1, λ n. l.2 (grind (arith, c.is)))

-- the first store
pub law_pick : (limit : ℕ) (w : View) (s : Line) (g p : ℕ) → Ordered w s g → Grouping limit w s → (w.pass p).phase ≡ Pick → Ordered (row_pick w p) (picked s (w.pass p).reg.cand) g × Grouping limit (row_pick w p) (picked s (w.pass p).reg.cand)
law_pick limit w s g p o k f = let rp : is_round (w.pass p).phase ≡ true = grind (arith, f) in let t = Order.scene w s g (w.pass p).reg.prev o (o.round p rp).prev_in in
    let c = at-pick limit w s g p t.0 t.1 o k f t.2 in (pick-order limit w s g p t.0 t.1 o k c, pick-grouping limit w s g p t.0 t.1 o k c)

-- the line admits it
pub admits-pick : (limit : ℕ) (w : View) (s : Line) (g p : ℕ) → Ordered w s g → Grouping limit w s → (w.pass p).phase ≡ Pick → Admits limit s (PickEvent p (w.pass p).reg.cand)
admits-pick limit w s g p o k f = let rp : is_round (w.pass p).phase ≡ true = grind (arith, f) in let t = Order.scene w s g (w.pass p).reg.prev o (o.round p rp).prev_in in
    let c = at-pick limit w s g p t.0 t.1 o k f t.2 in let l = k.last p rp in
    let last_in : 0 < times (w.pass p).reg.last (t.0 ∷ t.1) = subst (λ l. 0 < times (w.pass p).reg.last l) c.line l.0.inside in
    let prefix : Chain (MarkedFirst (mark_of s)) t.0 t.1 = subst (λ l. EachPair (MarkedFirst (mark_of s)) l) c.line k.prefix in
    let marked : last_marked (mark_of s) (t.0 ∷ t.1) ≡ suc (w.pass p).reg.last = Marks.last-is (mark_of s) t.0 (w.pass p).reg.last t.1 prefix (subst (λ l. EachPair (StopsAt (mark_of s) (w.pass p).reg.last) l) c.line l.0.stops) c.once last_in l.0.marked in
    let follows : follower_after (w.pass p).reg.last t.0 t.1 ≡ suc (w.pass p).reg.first = Order.follower-next w t.0 t.1 (w.pass p).reg.last (w.pass p).reg.first c.walks c.stop c.once last_in c.first_next in
    let first_off : (w.pass p).reg.first ≢ (w.pass p).reg.cand = λ e. c.apart (Order.pred-one w t.0 t.1 (w.pass p).reg.prev (w.pass p).reg.last (w.pass p).reg.cand c.walks c.stop c.once_c c.prev_in last_in c.cand_next (c.first_next ∙ ap suc e)) in
    let inside : 0 < times (w.pass p).reg.cand (t.0 ∷ t.1) = subst (λ l. 0 < times (w.pass p).reg.cand l) c.line c.cand_inline in (
      (w.pass p).reg.last,
      record { active = k.walks p rp; last = subst (λ l. last_marked (mark_of s) l ≡ suc (w.pass p).reg.last) (sym c.line) marked },
      c.hand,
      (let n = l.2 (λ e. grind (arith, f, e)) in let m = l.1 in (let z : mark_of s (w.pass p).reg.last < limit = omega arith in z)),
      record {
        behind = subst (λ l. 0 < times (w.pass p).reg.cand (behind (w.pass p).reg.last l)) (sym c.line) (stands-behind (mark_of s) (w.pass p).reg.last (w.pass p).reg.cand (t.0 ∷ t.1) prefix marked inside c.cand_zero);
        apart = subst (λ l. follower (w.pass p).reg.last l ≢ suc (w.pass p).reg.cand) (sym c.line) (λ e. first_off (let z : suc (w.pass p).reg.first ≡ suc (w.pass p).reg.cand = sym follows ∙ e in (let y : (w.pass p).reg.first ≡ (w.pass p).reg.cand = omega arith in y)));
        inner = subst (λ l. last l ≢ suc (w.pass p).reg.cand) (sym c.line) (λ e. c.cand_inner (let y : end t.0 t.1 ≡ (w.pass p).reg.cand = omega arith in y));
      },
    )
