-- The order after the head has left the line, with a successor that its next word names.
use Rattle.std.proofs.Common.{◌≡◌, ◌≢◌, ℕ, suc, ◌+◌, ◌<◌, List, ◌∷◌, true, false, cond, ◌==◌, ◌||◌, refl, sym, ap, ◌∙◌, ⊎_elim, subst, arith}
use Rattle.std.proofs.lemmas.Bool.Decides.{nat_tests}
use Rattle.shfl_line.specs.Line.{Line, mark_of}
use Rattle.shfl_line.specs.Words.{link_word}
use Rattle.shfl_core.specs.declared.phase.Phase.TheVariants.{Swap, Ready}
use Rattle.shfl_line.specs.Passes.{updated, times, first, Chain, EachPair, end, MarkedFirst, StopsAt}
use Rattle.shfl_core.specs.declared.phase.PassState.{PassState}
use Rattle.shfl_core.specs.declared.phase.Nap.TheVariants.{Awake}
use Rattle.shfl_core.specs.Phases.{is_round, is_queued, is_fore, is_linking}
use Rattle.shfl_core.specs.View.{View}
use Rattle.shfl_core.specs.Order.{Order as Ordered, Round, Follows, Fronted}
use Rattle.shfl_core.specs.Grouping.{Grouping}
use Rattle.shfl_line.proofs.Chain
use Rattle.shfl_laws.proofs.rows.Order
use Rattle.shfl_line.proofs.Marks

abbrev pub heir_pass : PassState → ℕ → PassState
heir_pass q h = record { phase = Ready; reg = record q.reg { heir = h }; nap = Awake }

abbrev pub left : View → ℕ → ℕ → View
left w p h = record w { next = updated w.next p 0; pass = updated w.pass p (heir_pass (w.pass p) h) }

-- at Take, and at Late: the pass is the front, and its word names the heir
module _ (limit : ℕ) (w : View) (s : Line) (g p h : ℕ) (o : Ordered w s g) (k : Grouping limit w s)
    (f : (is_fore (w.pass p) ≡ true) × (is_round (w.pass p).phase ≡ false) × (is_queued (w.pass p) ≡ true) × (is_linking (w.pass p).phase ≡ false)) (found : w.next p ≡ suc h) where
  front : (first s.line ≡ suc p) × (g ≡ 0)
  front = o.fronted.only p f.2 (let a = f.0 in grind arith)

  module _ (ys : List ℕ) (e : s.line ≡ p ∷ h ∷ ys) (v : Order.Scene w s p (h ∷ ys)) (free : is_linking (w.pass h).phase ≡ false) where
    p-out : times p (h ∷ ys) ≡ 0
    p-out = let t = v.once p in grind (arith, nat_tests)

    other : (q : ℕ) → 0 < times q (h ∷ ys) → q ≢ p
    other q m i = let z = p-out in let m0 : 0 < times p (h ∷ ys) = subst (λ z. 0 < times z (h ∷ ys)) i m in omega arith

    keep : (a b : ℕ) → 0 < times a (h ∷ ys) → 0 < times b (h ∷ ys) → Follows w a b → Follows (left w p h) a b
    keep a b m n r = record {
      word = Chain.updated-else w.next p a 0 (other a m) ∙ (r.word ∙ rw (Chain.updated-else w.pass p b (heir_pass (w.pass p) h) (other b n)) refl);
      late = rw (Chain.updated-else w.pass p b (heir_pass (w.pass p) h) (other b n)) r.late;
    }

    leave-fronted : Fronted (left w p h) (h ∷ ys) (suc p)
    leave-fronted = let fr = front in record {
      who = Chain.updated-all (λ q t. t.phase ≡ Ready → suc p ≡ suc q) w.pass p (heir_pass (w.pass p) h) (λ _. refl) (λ q n r. absurd (let t = o.fronted.who q r in omega arith));
      is = Chain.updated-all (λ q t. suc p ≡ suc q → t.phase ≡ Ready) w.pass p (heir_pass (w.pass p) h) (λ _. refl) (λ q n r. absurd (n (omega arith)));
      only = Chain.updated-all (λ q t. is_queued t ≡ true → (is_fore t || (w.node q).ready) ≡ true → (suc h ≡ suc q) × (suc p ≡ 0)) w.pass p (heir_pass (w.pass p) h)
          (λ a _. absurd (grind arith)) (λ q n a b. absurd (n (let t = o.fronted.only q a b in omega arith)));
      front = λ q a. absurd (omega arith);
      heir = Chain.updated-all (λ q t. suc p ≡ suc q → (suc h ≡ suc t.reg.heir) × (is_linking (updated w.pass p (heir_pass (w.pass p) h) t.reg.heir).phase ≡ false)) w.pass p (heir_pass (w.pass p) h)
          (λ _. (refl, rw (Chain.updated-else w.pass p h (heir_pass (w.pass p) h) (other h (Chain.here h ys))) free)) (λ q n a. absurd (n (omega arith)));
      linking = Chain.updated-all (λ q t. is_linking t.phase ≡ true → (w.node q).ready ≡ false) w.pass p (heir_pass (w.pass p) h) (λ a. absurd (grind arith)) (λ q n. o.fronted.linking q);
    }

    -- the walking pass, if there is one, stands behind p, and so does all that its registers name
    pub walker-behind : (q : ℕ) → q ≢ p → is_round (w.pass q).phase ≡ true → (0 < mark_of s p) × ((w.pass q).reg.last ≢ p)
    walker-behind q n r = let c = subst (λ l. EachPair (MarkedFirst (mark_of s)) l) e k.prefix in let wq = k.walker q (k.walks q r) in
        let q-in : 0 < times q (p ∷ h ∷ ys) = subst (λ l. 0 < times q l) e (let a = o.stands q in let b = k.hand q in let m = wq.1 in let u : is_queued (w.pass q) ≡ true = grind (arith, r) in grind (arith, nat_tests)) in (
          Marks.first-marked (mark_of s) p q (h ∷ ys) c q-in wq.1,
          λ i. (let l = k.last q r in let st = subst (λ l. EachPair (StopsAt (mark_of s) (w.pass q).reg.last) l) e l.0.stops in
              let z = Marks.first-last (mark_of s) p q (h ∷ ys) c (subst (λ z. Chain (StopsAt (mark_of s) z) p (h ∷ ys)) i st) (grind (arith, nat_tests, q-in, n)) in let m = wq.1 in omega arith),
        )

    leave-round : (q : ℕ) → q ≢ p → is_round (w.pass q).phase ≡ true → Round (updated w.next p 0) (mark_of s) w.tail (h ∷ ys) (link_word s.hand) (w.pass q)
    leave-round q n r = let t = walker-behind q n r in let d = o.round q r in
        let pn : (w.pass q).reg.prev ≢ p = λ i. ⊎_elim (λ j. t.1 (sym j ∙ i)) (λ j. (let z : mark_of s p ≡ 0 = subst (λ y. mark_of s y ≡ 0) i j in let m = t.0 in omega arith)) d.prev_free in
        let off-zero : (c : ℕ) → mark_of s c ≡ 0 → c ≢ p = λ c z i. (let z0 : mark_of s p ≡ 0 = subst (λ y. mark_of s y ≡ 0) i z in let m = t.0 in omega arith) in record {
          prev_in = (let i = subst (λ l. 0 < times (w.pass q).reg.prev l) e d.prev_in in grind (arith, nat_tests, i, pn));
          prev_free = d.prev_free;
          cand_next = λ a. Chain.updated-else w.next p (w.pass q).reg.prev 0 pn ∙ d.cand_next a;
          cand_inner = d.cand_inner;
          first_next = λ a m. Chain.updated-else w.next p (w.pass q).reg.last 0 t.1 ∙ d.first_next a m;
          first_cand = d.first_cand;
          apart = d.apart;
          after_next = λ a. Chain.updated-else w.next p (w.pass q).reg.cand 0 (λ i. other (w.pass q).reg.cand
              (Order.succ-in w p (h ∷ ys) (w.pass q).reg.prev (w.pass q).reg.cand v.walks v.stop (subst (λ l. 0 < times (w.pass q).reg.prev l) e d.prev_in) (d.cand_next (grind (arith, a)))).0 i) ∙ d.after_next a;
          gap = λ a. Chain.updated-else w.next p (w.pass q).reg.prev 0 pn ∙ d.gap a;
          aimed = λ a. Chain.updated-else w.next p (w.pass q).reg.cand 0 (off-zero (w.pass q).reg.cand (k.hand (w.pass q).reg.cand (d.hand_is ∙ grind (arith, a)))) ∙ d.aimed a;
          hand_is = d.hand_is;
          marking = λ a. let u = d.marking a in (Chain.updated-else w.next p (w.pass q).reg.last 0 t.1 ∙ u.0, u.1, λ m. let y = u.2 m in (Chain.updated-else w.next p (w.pass q).reg.cand 0 (off-zero (w.pass q).reg.cand u.1) ∙ y.0, y.1));
        }

    pub leave-order : Ordered (left w p h) (record s { line = h ∷ ys }) (suc p)
    leave-order = record {
      walks = (
        Chain.chain-map (Follows w) (Follows (left w p h)) h ys (λ a b m n r. keep a b m (grind (arith, n)) r) v.walks.1,
        Chain.updated-else w.next p (end h ys) 0 (other (end h ys) (Chain.end-in h ys)) ∙ v.stop,
        v.tail,
      );
      fronted = leave-fronted;
      stands = Chain.updated-all (λ q t. times q (h ∷ ys) + cond (link_word s.hand == suc q) 1 0 ≡ cond (is_queued t) 1 0) w.pass p (heir_pass (w.pass p) h)
          (let a = o.stands p in let u : times p s.line ≡ times p (p ∷ h ∷ ys) = ap (times p) e in let z = p-out in let y = Chain.here p (h ∷ ys) in let b = f.2 in grind (arith, nat_tests))
          (λ q n. let a = o.stands q in let u : times q s.line ≡ times q (p ∷ h ∷ ys) = ap (times q) e in grind (arith, nat_tests));
      clean = λ q. record {
        next = Chain.by_eq q p (λ i _. subst (λ z. updated w.next p 0 z ≡ 0) (sym i) (Chain.updated-same w.next p 0))
            (λ n a. Chain.updated-else w.next p q 0 n ∙ (o.clean q).next (sym (ap is_queued (Chain.updated-else w.pass p q (heir_pass (w.pass p) h) n)) ∙ a));
        init = Chain.updated-all (λ q t. t.phase ≡ Swap → ((w.node q).batch ≡ 0) × ((w.node q).shuffler ≡ false) × ((w.node q).ready ≡ false) × (t.reg.batch ≡ 0) × (t.reg.flag ≡ false)) w.pass p (heir_pass (w.pass p) h)
            (λ a. absurd (grind arith)) (λ q n. (o.clean q).init) q;
      };
      links = Chain.updated-all (λ q t. is_linking t.phase ≡ true → 0 < times q (h ∷ ys)) w.pass p (heir_pass (w.pass p) h) (λ a. absurd (grind arith))
          (λ q n a. let i = subst (λ l. 0 < times q l) e (o.links q a) in grind (arith, nat_tests, i, n));
      round = Chain.updated-all (λ q t. is_round t.phase ≡ true → Round (updated w.next p 0) (mark_of s) w.tail (h ∷ ys) (link_word s.hand) t) w.pass p (heir_pass (w.pass p) h) (λ a. absurd (grind arith)) leave-round;
      still = o.still;
    }
