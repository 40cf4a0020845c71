-- The grouping after Mark: the candidate is the batch's last.
use Rattle.std.proofs.Common.{◌≡◌, ◌≢◌, ℕ, suc, ◌+◌, ◌<◌, ◌≤◌, ◌⊎◌, List, ◌∷◌, Bool, true, false, cond, refl, sym, ap, ◌∙◌, ⊎_elim, subst, arith}
use Rattle.std.specs.Prelude.{nat_lt, slice_index, slice_set}
use Rattle.std.proofs.Common.{get_or, set, length, get_or-set_same, get_or-set_other}
use Rattle.std.proofs.lemmas.Bool.Decides.{nat_tests}
use Rattle.shfl_line.specs.Line.{Line, mark_of, active_shuffler}
use Rattle.shfl_core.specs.declared.phase.Phase.{Phase}
use Rattle.shfl_core.specs.declared.phase.Phase.TheVariants.{Begin, Next, Mark, Give}
use Rattle.shfl_line.specs.Passes.{updated, times, first, Chain, EachPair, follower_after, MarkedFirst, StopsAt, IsLastMarked}
use Rattle.shfl_line.specs.declared.words.NodeState.{NodeState}
use Rattle.shfl_core.specs.declared.phase.PassState.{PassState}
use Rattle.shfl_core.specs.declared.phase.Nap.{Nap}
use Rattle.shfl_core.specs.Phases.{Fore, rank, is_round, is_queued, is_fore, is_linking, knows}
use Rattle.shfl_core.specs.View.{View}
use Rattle.shfl_core.specs.Order.{Order as Ordered, Follows}
use Rattle.shfl_core.specs.Grouping.{Grouping}
use Rattle.shfl_laws.proofs.rows.Rows.{marked, row_mark}
use Rattle.shfl_line.proofs.Chain
use Rattle.shfl_laws.proofs.rows.Order
use Rattle.shfl_laws.proofs.rows.Relink.{walk-no-rest}

read-set : (l : List ℕ) (i v : ℕ) → i < length l → (q : ℕ) → slice_index (slice_set l i v) q ≡ updated (slice_index l) i v q
read-set l i v h q = Chain.by_eq q i
    (λ e. subst (λ z. get_or (set l i v) z 0 ≡ updated (slice_index l) i v z) (sym e) (get_or-set_same l i v 0 h ∙ sym (Chain.updated-same (slice_index l) i v)))
    (λ n. get_or-set_other l i q v 0 n ∙ sym (Chain.updated-else (slice_index l) i q v n))

pub knows-cases : (f : Phase) → knows f ≡ true → (rank f ≡ Fore) ⊎ ((is_round f ≡ true) ⊎ (f ≡ Begin))
knows-cases f h = grind arith

abbrev pub kept : ℕ → View → Line → ℕ → Line
kept limit w s p = record s { mark = slice_set s.mark (w.pass p).reg.cand ((w.pass p).reg.count + 1) }

module _ (limit : ℕ) (w : View) (s : Line) (g p x : ℕ) (xs : List ℕ) (o : Ordered w s g) (k : Grouping limit w s) (v : Order.Scene w s x xs) (f : (w.pass p).phase ≡ Mark) (room : (w.pass p).reg.cand < length s.mark) (nap : Nap) (spin : Bool) where
  rp : is_round (w.pass p).phase ≡ true
  rp = grind (arith, f)

  facts : (w.next (w.pass p).reg.last ≡ suc (w.pass p).reg.cand) × (mark_of s (w.pass p).reg.cand ≡ 0)
  facts = let t = (o.round p rp).marking f in (t.0, t.1)

  last-in : 0 < times (w.pass p).reg.last (x ∷ xs)
  last-in = subst (λ l. 0 < times (w.pass p).reg.last l) v.line (k.last p rp).0.inside

  cand-in : (0 < times (w.pass p).reg.cand xs) × (is_linking (w.pass (w.pass p).reg.cand).phase ≡ false)
  cand-in = Order.succ-in w x xs (w.pass p).reg.last (w.pass p).reg.cand v.walks v.stop last-in facts.0

  cand-line : 0 < times (w.pass p).reg.cand s.line
  cand-line = subst (λ l. 0 < times (w.pass p).reg.cand l) (sym v.line) (let t = cand-in.0 in omega arith)

  not-me : p ≢ (w.pass p).reg.cand
  not-me e = let m = (k.walker p (k.walks p rp)).1 in let z = facts.1 in let m0 : 0 < mark_of s (w.pass p).reg.cand = subst (λ y. 0 < mark_of s y) e m in omega arith

  now : (q : ℕ) → mark_of (kept limit w s p) q ≡ updated (mark_of s) (w.pass p).reg.cand ((w.pass p).reg.count + 1) q
  now = read-set s.mark (w.pass p).reg.cand ((w.pass p).reg.count + 1) room

  now-cand : mark_of (kept limit w s p) (w.pass p).reg.cand ≡ (w.pass p).reg.count + 1
  now-cand = now (w.pass p).reg.cand ∙ Chain.updated-same (mark_of s) (w.pass p).reg.cand ((w.pass p).reg.count + 1)

  now-else : (q : ℕ) → q ≢ (w.pass p).reg.cand → mark_of (kept limit w s p) q ≡ mark_of s q
  now-else q n = now q ∙ Chain.updated-else (mark_of s) (w.pass p).reg.cand q ((w.pass p).reg.count + 1) n

  more : (q : ℕ) → 0 < mark_of s q → 0 < mark_of (kept limit w s p) q
  more q h = Chain.by_eq q (w.pass p).reg.cand (λ e. subst (λ z. 0 < mark_of (kept limit w s p) z) (sym e) (let c = now-cand in omega arith)) (λ n. let c = now-else q n in omega arith)

  both : Chain (λ a b. Follows w a b × MarkedFirst (mark_of s) a b) x xs
  both = Chain.chain-both (Follows w) (MarkedFirst (mark_of s)) x xs v.walks (subst (λ l. EachPair (MarkedFirst (mark_of s)) l) v.line k.prefix)

  mark-prefix : EachPair (MarkedFirst (mark_of (kept limit w s p))) s.line
  mark-prefix = rw v.line (Chain.chain-along (λ a b. Follows w a b × MarkedFirst (mark_of s) a b) (MarkedFirst (mark_of (kept limit w s p))) x xs v.once
      (λ a b e r h. Chain.by_eq b (w.pass p).reg.cand
      (λ i. let fa : Follows w a (w.pass p).reg.cand = subst (λ y. Follows w a y) i r.0 in let c = cand-in.1 in
      let j : a ≡ (w.pass p).reg.last = Order.pred-one w x xs a (w.pass p).reg.last (w.pass p).reg.cand v.walks v.stop (let u = v.once (w.pass p).reg.cand in omega arith) (Chain.follower-in a x b xs e).0 last-in (let u = fa.word in grind (arith, u, c)) facts.0 in
      more a (subst (λ y. 0 < mark_of s y) (sym j) (k.last p rp).0.marked))
      (λ n. more a (r.1 (let c = now-else b n in omega arith)))) both)

  mark-ends : EachPair (StopsAt (mark_of (kept limit w s p)) (w.pass p).reg.cand) s.line
  mark-ends = rw v.line (Chain.chain-along (λ a b. Follows w a b × MarkedFirst (mark_of s) a b) (StopsAt (mark_of (kept limit w s p)) (w.pass p).reg.cand) x xs v.once
      (λ a b e r i. let m : MarkedFirst (mark_of s) (w.pass p).reg.cand b = subst (λ y. MarkedFirst (mark_of s) y b) i r.1 in let z = facts.1 in
      let n : b ≢ (w.pass p).reg.cand = λ j. (let t : follower_after (w.pass p).reg.cand x xs ≡ suc (w.pass p).reg.cand = subst (λ y. follower_after y x xs ≡ suc (w.pass p).reg.cand) i (e ∙ ap suc j) in
      Order.no-loop w x xs (w.pass p).reg.cand v.walks v.stop (v.once (w.pass p).reg.cand) (let u = cand-in.0 in omega arith) (loop i j r.0)) in
      now-else b n ∙ (grind arith)) both)
    where
      loop : {a b : ℕ} → a ≡ (w.pass p).reg.cand → b ≡ (w.pass p).reg.cand → Follows w a b → w.next (w.pass p).reg.cand ≡ suc (w.pass p).reg.cand
      loop {a} {b} i j r = let c = cand-in.1 in let r1 : Follows w (w.pass p).reg.cand (w.pass p).reg.cand = subst (λ y. Follows w y (w.pass p).reg.cand) i (subst (λ y. Follows w a y) j r) in let u = r1.word in grind (arith, u, c)

  node' : ℕ → NodeState
  node' = updated w.node (w.pass p).reg.cand (record (w.node (w.pass p).reg.cand) { batch = (w.pass p).reg.count + 1; spin = spin })

  me : PassState
  me = marked limit (w.pass p) nap

  queued-same : (q : ℕ) → is_queued (updated w.pass p (marked limit (w.pass p) nap) q) ≡ is_queued (w.pass q)
  queued-same = Chain.updated-all (λ q t. is_queued t ≡ is_queued (w.pass q)) w.pass p (marked limit (w.pass p) nap) (grind (arith, f)) (λ q n. refl)

  round-now : is_round (marked limit (w.pass p) nap).phase ≡ true
  round-now = split (nat_lt ((w.pass p).reg.count + 1) limit)
    where
      split : (b : Bool) → is_round (cond b Next Give) ≡ true
      split true = refl
      split false = refl

  shuffler-same : (q : ℕ) → (updated w.node (w.pass p).reg.cand (record (w.node (w.pass p).reg.cand) { batch = (w.pass p).reg.count + 1; spin = spin }) q).shuffler ≡ (w.node q).shuffler
  shuffler-same = Chain.updated-all (λ q t. t.shuffler ≡ (w.node q).shuffler) w.node (w.pass p).reg.cand (record (w.node (w.pass p).reg.cand) { batch = (w.pass p).reg.count + 1; spin = spin }) refl (λ q n. refl)

  -- the candidate is in a waiting phase, and no front
  cand-idle : knows (w.pass (w.pass p).reg.cand).phase ≡ true → ⊥
  cand-idle h = ⊎_elim (λ a. off (grind (arith, a)))
      (λ b. ⊎_elim (λ r. not-me (sym (Order.alone limit w s p (w.pass p).reg.cand k rp r)))
      (λ r. by-flag (w.pass (w.pass p).reg.cand).reg.flag refl r) b)
      (knows-cases (w.pass (w.pass p).reg.cand).phase h)
    where
      off : is_fore (w.pass (w.pass p).reg.cand) ≡ true → ⊥
      off a = let t = o.fronted.only (w.pass p).reg.cand (Order.queued-in w s (w.pass p).reg.cand o.stands cand-line) (grind (arith, a)) in
          let l = ap first v.line in let u = cand-in.0 in let c = v.once (w.pass p).reg.cand in let e : x ≡ (w.pass p).reg.cand = omega arith in grind (arith, nat_tests)

      by-flag : (b : Bool) → (w.pass (w.pass p).reg.cand).reg.flag ≡ b → (w.pass (w.pass p).reg.cand).phase ≡ Begin → ⊥
      by-flag true e r = let n = k.known (w.pass p).reg.cand (grind (arith, r)) in walk-no-rest s.role p (w.pass p).reg.cand (k.walks p rp) (k.flagged (w.pass p).reg.cand (grind (arith, r)) (sym n.1 ∙ e))
      by-flag false e r = let t = k.begins (w.pass p).reg.cand r e in off (grind (arith, r, t))

  pub mark-grouping : Grouping limit (row_mark limit w p nap spin) (kept limit w s p)
  mark-grouping = let below = (k.last p rp).2 (λ e. grind (arith, f)) in record {
    mark = λ q. Chain.by_eq q (w.pass p).reg.cand
        (λ e. subst (λ z. mark_of (kept limit w s p) z ≡ cond (is_queued (updated w.pass p (marked limit (w.pass p) nap) z)) (updated w.node (w.pass p).reg.cand (record (w.node (w.pass p).reg.cand) { batch = (w.pass p).reg.count + 1; spin = spin }) z).batch 0) (sym e)
        (now-cand ∙ rw (queued-same (w.pass p).reg.cand, Chain.updated-same w.node (w.pass p).reg.cand (record (w.node (w.pass p).reg.cand) { batch = (w.pass p).reg.count + 1; spin = spin })) (let u = Order.queued-in w s (w.pass p).reg.cand o.stands cand-line in grind (arith, u))))
        (λ n. now-else q n ∙ (k.mark q ∙ rw (queued-same q, Chain.updated-else w.node (w.pass p).reg.cand q (record (w.node (w.pass p).reg.cand) { batch = (w.pass p).reg.count + 1; spin = spin }) n) refl));
    hand = λ q h. absurd (let t = (o.round p rp).hand_is in grind (arith, f, t, h));
    within = λ q. Chain.by_eq q (w.pass p).reg.cand (λ e. subst (λ z. mark_of (kept limit w s p) z ≤ limit) (sym e) (let c = now-cand in omega arith)) (λ n. let c = now-else q n in let u = k.within q in omega arith);
    walks = Chain.updated-all (λ q t. is_round t.phase ≡ true → active_shuffler s.role ≡ suc q) w.pass p (marked limit (w.pass p) nap) (λ _. k.walks p rp) (λ q n. k.walks q);
    walker = λ q e. let i : q ≡ p = (let t = k.walks p rp in omega arith) in
        (subst (λ z. is_round (updated w.pass p (marked limit (w.pass p) nap) z).phase ≡ true) (sym i) (rw (Chain.updated-same w.pass p (marked limit (w.pass p) nap)) round-now), more q (k.walker q e).1);
    flagged = λ q a b. k.flagged q (sym (queued-same q) ∙ a) (sym (shuffler-same q) ∙ b);
    rester = λ q e. absurd (walk-no-rest s.role p q (k.walks p rp) e);
    prefix = mark-prefix;
    begins = Chain.updated-all (λ q t. t.phase ≡ Begin → t.reg.flag ≡ false → (t.reg.headed ≡ true) × (t.reg.batch ≡ 0)) w.pass p (marked limit (w.pass p) nap) (λ h. absurd (let r = round-now in grind arith)) (λ q m. k.begins q);
    rests = λ q e. absurd (walk-no-rest s.role p q (k.walks p rp) e);
    last = Chain.updated-all (λ q t. is_round t.phase ≡ true → IsLastMarked (mark_of (kept limit w s p)) s.line t.reg.last × (mark_of (kept limit w s p) t.reg.last ≡ t.reg.count) × (t.phase ≢ Give → t.reg.count < limit)) w.pass p (marked limit (w.pass p) nap)
        (λ _. (record { inside = cand-line; marked = (let c = now-cand in omega arith); stops = mark-ends }, now-cand, λ n. under n))
        (λ q n e. absurd (n (Order.alone limit w s p q k rp e)));
    known = Chain.updated-all (λ q t. knows t.phase ≡ true → (t.reg.batch ≡ (updated w.node (w.pass p).reg.cand (record (w.node (w.pass p).reg.cand) { batch = (w.pass p).reg.count + 1; spin = spin }) q).batch) × (t.reg.flag ≡ (updated w.node (w.pass p).reg.cand (record (w.node (w.pass p).reg.cand) { batch = (w.pass p).reg.count + 1; spin = spin }) q).shuffler)) w.pass p (marked limit (w.pass p) nap)
        (λ _. rw (Chain.updated-else w.node (w.pass p).reg.cand p (record (w.node (w.pass p).reg.cand) { batch = (w.pass p).reg.count + 1; spin = spin }) not-me) (k.known p (grind (arith, f))))
        (λ q n e. Chain.by_eq q (w.pass p).reg.cand
        (λ i. absurd (cand-idle (subst (λ z. knows (w.pass z).phase ≡ true) i e)))
        (λ m. rw (Chain.updated-else w.node (w.pass p).reg.cand q (record (w.node (w.pass p).reg.cand) { batch = (w.pass p).reg.count + 1; spin = spin }) m) (k.known q e)));
  }
    where
      under : ((marked limit (w.pass p) nap).phase ≢ Give) → (w.pass p).reg.count + 1 < limit
      under n = by (nat_lt ((w.pass p).reg.count + 1) limit) refl n
        where
          by : (b : Bool) → nat_lt ((w.pass p).reg.count + 1) limit ≡ b → (cond b Next Give ≢ Give) → (w.pass p).reg.count + 1 < limit
          by true e n = grind (arith, nat_tests)
          by false e n = absurd (n refl)
