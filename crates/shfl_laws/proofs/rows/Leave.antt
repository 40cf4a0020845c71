-- The order and the grouping after Link: the late link is written.
use Rattle.std.proofs.Common.{◌≡◌, ◌≢◌, ℕ, zero, suc, ◌+◌, ◌<◌, List, ◌∷◌, true, false, cond, ◌==◌, ◌||◌, refl, sym, ap, ◌∙◌, subst, arith}
use Rattle.std.proofs.lemmas.Bool.Decides.{nat_tests}
use Rattle.shfl_line.specs.Line.{Line, mark_of}
use Rattle.shfl_line.specs.Words.{link_word}
use Rattle.shfl_core.specs.declared.phase.Phase.TheVariants.{Swap, Link, Look, Ready}
use Rattle.shfl_line.specs.Passes.{updated, times, first, end, follower_after}
use Rattle.shfl_core.specs.declared.phase.PassState.{PassState}
use Rattle.shfl_core.specs.Phases.{is_round, is_queued, is_fore, is_linking}
use Rattle.shfl_core.specs.View.{View}
use Rattle.shfl_core.specs.Order.{Order as Ordered, Round, Follows}
use Rattle.shfl_core.specs.Grouping.{Grouping}
use Rattle.shfl_laws.proofs.rows.Rows.{on, row_link}
use Rattle.shfl_line.proofs.Chain
use Rattle.shfl_laws.proofs.rows.Order
use Rattle.shfl_laws.proofs.rows.Quiet.{pass-grouping}

module _ (limit : ℕ) (w : View) (s : Line) (g p x : ℕ) (xs : List ℕ) (o : Ordered w s g) (k : Grouping limit w s) (f : (w.pass p).phase ≡ Link) (v : Order.Scene w s x xs) where
  linking : is_linking (w.pass p).phase ≡ true
  linking = grind arith

  not-first : x ≢ p
  not-first e = by_giver g refl
    where
      by_giver : (n : ℕ) → g ≡ n → ⊥
      by_giver zero h = let a = o.fronted.front p h (ap first v.line ∙ ap suc e) in let b = o.fronted.linking p linking in grind (arith, f, a, b)
      by_giver (suc q) h = let t = o.fronted.heir q h in let i : (w.pass q).reg.heir ≡ p = (let l = ap first v.line in omega arith) in
          (let n : is_linking (w.pass p).phase ≡ false = subst (λ z. is_linking (w.pass z).phase ≡ false) i t.1 in grind (arith, linking))

  pred : (a : ℕ) × Follows w a p × (follower_after a x xs ≡ suc p)
  pred = Chain.chain-before (Follows w) x xs p v.once v.walks (let m = o.links p linking in let m0 : 0 < times p (x ∷ xs) = subst (λ l. 0 < times p l) v.line m in let n = not-first in grind (arith, nat_tests))

  before : ℕ
  before = (w.pass p).reg.before

  -- what the register says: the pass before p, whose word is 0
  pub late-facts : (follower_after (w.pass p).reg.before x xs ≡ suc p) × (w.next (w.pass p).reg.before ≡ 0) × (0 < times (w.pass p).reg.before s.line)
  late-facts = let t = pred in let e : (w.pass p).reg.before ≡ t.0 = t.1.late linking in (
    subst (λ z. follower_after z x xs ≡ suc p) (sym e) t.2,
    subst (λ z. w.next z ≡ 0) (sym e) (let l = linking in let u = t.1.word in grind (arith, l, u)),
    subst (λ z. 0 < times z s.line) (sym e) (subst (λ l. 0 < times t.0 l) (sym v.line) (Chain.follower-in t.0 x p xs t.2).0),
  )

  look : PassState
  look = on (w.pass p) Look

-- a word that was 0 is written: what the registers of a round say of other words stays
pub round-late : (next mark : ℕ → ℕ) (tail i u : ℕ) (line : List ℕ) (hand : ℕ) (q : PassState) → next i ≡ 0 → Round next mark tail line hand q → Round (updated next i u) mark tail line hand q
round-late next mark tail i u line hand q z r = record {
  prev_in = r.prev_in;
  prev_free = r.prev_free;
  cand_next = λ h. kept q.reg.prev q.reg.cand (r.cand_next h);
  cand_inner = r.cand_inner;
  first_next = λ h m. kept q.reg.last q.reg.first (r.first_next h m);
  first_cand = r.first_cand;
  apart = r.apart;
  after_next = λ h. kept q.reg.cand q.reg.after (r.after_next h);
  gap = λ h. kept q.reg.prev q.reg.after (r.gap h);
  aimed = λ h. kept q.reg.cand q.reg.first (r.aimed h);
  hand_is = r.hand_is;
  marking = λ h. let t = r.marking h in (kept q.reg.last q.reg.cand t.0, t.1, λ m. let l = t.2 m in (kept q.reg.cand q.reg.first l.0, l.1));
}
  where
    kept : (a b : ℕ) → next a ≡ suc b → updated next i u a ≡ suc b
    kept a b e = Chain.updated-else next i a u (λ j. (let k : next i ≡ suc b = subst (λ y. next y ≡ suc b) j e in omega arith)) ∙ e

module _ (limit : ℕ) (w : View) (s : Line) (g p x : ℕ) (xs : List ℕ) (o : Ordered w s g) (k : Grouping limit w s) (f : (w.pass p).phase ≡ Link) (v : Order.Scene w s x xs) where
  link-order : Ordered (row_link w p) s g
  link-order = let t = late-facts limit w s g p x xs o k f v in record {
    walks = rw v.line (
      Chain.chain-along (Follows w) (Follows (row_link w p)) x xs v.once (λ a b e r. pair a b e r) v.walks,
      Chain.updated-else w.next (w.pass p).reg.before (end x xs) (suc p) (λ e. (let z = Chain.follower-end x xs v.once in let i : follower_after (end x xs) x xs ≡ suc p = subst (λ y. follower_after y x xs ≡ suc p) (sym e) t.0 in omega arith)) ∙ v.stop,
      v.tail,
    );
    fronted = record {
      who = Chain.updated-all (λ q t. t.phase ≡ Ready → g ≡ suc q) w.pass p (on (w.pass p) Look) (λ h. absurd (grind arith)) (λ q n. o.fronted.who q);
      is = Chain.updated-all (λ q t. g ≡ suc q → t.phase ≡ Ready) w.pass p (on (w.pass p) Look) (λ h. absurd (let r = o.fronted.is p h in grind (arith, f))) (λ q n. o.fronted.is q);
      only = Chain.updated-all (λ q t. is_queued t ≡ true → (is_fore t || (w.node q).ready) ≡ true → (first s.line ≡ suc q) × (g ≡ 0)) w.pass p (on (w.pass p) Look)
          (λ _ h. absurd (let r = o.fronted.linking p (grind (arith, f)) in grind arith)) (λ q n. o.fronted.only q);
      front = Chain.updated-all (λ q t. g ≡ 0 → first s.line ≡ suc q → (is_fore t || (w.node q).ready) ≡ true) w.pass p (on (w.pass p) Look)
          (λ z h. let a = o.fronted.front p z h in (grind (arith, f, a))) (λ q n. o.fronted.front q);
      heir = λ q h. let r = o.fronted.is q h in let u = o.fronted.heir q h in
          let n : q ≢ p = λ e. (let y : (w.pass q).phase ≡ Link = subst (λ y. (w.pass y).phase ≡ Link) (sym e) f in grind arith) in
          rw (Chain.updated-else w.pass p q (on (w.pass p) Look) n) (u.0, Chain.updated-all (λ q t. is_linking (w.pass q).phase ≡ false → is_linking t.phase ≡ false) w.pass p (on (w.pass p) Look) (λ _. refl) (λ q m e. e) (w.pass q).reg.heir u.1);
      linking = Chain.updated-all (λ q t. is_linking t.phase ≡ true → (w.node q).ready ≡ false) w.pass p (on (w.pass p) Look) (λ h. absurd (grind arith)) (λ q n. o.fronted.linking q);
    };
    stands = Chain.updated-all (λ q t. times q s.line + cond (link_word s.hand == suc q) 1 0 ≡ cond (is_queued t) 1 0) w.pass p (on (w.pass p) Look) (o.stands p ∙ grind (arith, f)) (λ q n. o.stands q);
    clean = λ q. record {
      next = Order.clean-next w p (w.pass p).reg.before (suc p) (on (w.pass p) Look) q (grind (arith, f)) (Order.queued-in w s (w.pass p).reg.before o.stands t.2) (o.clean q).next;
      init = Chain.updated-all (λ q t. t.phase ≡ Swap → ((w.node q).batch ≡ 0) × ((w.node q).shuffler ≡ false) × ((w.node q).ready ≡ false) × (t.reg.batch ≡ 0) × (t.reg.flag ≡ false)) w.pass p (on (w.pass p) Look)
          (λ e. absurd (grind arith)) (λ q n. (o.clean q).init) q;
    };
    links = Chain.updated-all (λ q t. is_linking t.phase ≡ true → 0 < times q s.line) w.pass p (on (w.pass p) Look) (λ h. absurd (grind arith)) (λ q n. o.links q);
    round = Chain.updated-all (λ q t. is_round t.phase ≡ true → Round (row_link w p).next (mark_of s) w.tail s.line (link_word s.hand) t) w.pass p (on (w.pass p) Look) (λ h. absurd (grind arith))
        (λ q n e. round-late w.next (mark_of s) w.tail (w.pass p).reg.before (suc p) s.line (link_word s.hand) (w.pass q) t.1 (o.round q e));
    still = o.still;
  }
    where
      pair : (a b : ℕ) → follower_after a x xs ≡ suc b → Follows w a b → Follows (row_link w p) a b
      pair a b e r = Chain.by_eq b p
          (λ i. let t = late-facts limit w s g p x xs o k f v in let r0 : Follows w a p = subst (λ y. Follows w a y) i r in let j : (w.pass p).reg.before ≡ a = r0.late (grind (arith, f)) in
          subst (λ y. Follows (row_link w p) a y) (sym i) (record {
            word = subst (λ y. updated w.next (w.pass p).reg.before (suc p) y ≡ suc p) j (Chain.updated-same w.next (w.pass p).reg.before (suc p)) ∙ rw (Chain.updated-same w.pass p (on (w.pass p) Look)) refl;
            late = λ h. absurd (let l : is_linking (updated w.pass p (on (w.pass p) Look) p).phase ≡ false = rw (Chain.updated-same w.pass p (on (w.pass p) Look)) refl in grind arith);
          }))
          (λ n. let t = late-facts limit w s g p x xs o k f v in
          let m : a ≢ (w.pass p).reg.before = λ j. n (let h : follower_after (w.pass p).reg.before x xs ≡ suc b = subst (λ y. follower_after y x xs ≡ suc b) j e in let h1 = t.0 in omega arith) in record {
            word = Chain.updated-else w.next (w.pass p).reg.before a (suc p) m ∙ (r.word ∙ rw (Chain.updated-else w.pass p b (on (w.pass p) Look) n) refl);
            late = rw (Chain.updated-else w.pass p b (on (w.pass p) Look) n) r.late;
          })

pub law_link : (limit : ℕ) (w : View) (s : Line) (g p : ℕ) → Ordered w s g → Grouping limit w s → (w.pass p).phase ≡ Link → Ordered (row_link w p) s g × Grouping limit (row_link w p) s
law_link limit w s g p o k f = let t = Order.scene w s g p o (o.links p (grind (arith, f))) in (
  link-order limit w s g p t.0 t.1 o k f t.2,
  pass-grouping limit w s p (on (w.pass p) Look) k (grind (arith, f)) refl (grind (arith, f)) (λ h. absurd (grind arith)) (λ h. absurd (grind arith)),
)

pub link-room : (limit : ℕ) (w : View) (s : Line) (g p : ℕ) → Ordered w s g → Grouping limit w s → (w.pass p).phase ≡ Link → is_queued (w.pass (w.pass p).reg.before) ≡ true
link-room limit w s g p o k f = let t = Order.scene w s g p o (o.links p (grind (arith, f))) in Order.queued-in w s (w.pass p).reg.before o.stands (late-facts limit w s g p t.0 t.1 o k f t.2).2
