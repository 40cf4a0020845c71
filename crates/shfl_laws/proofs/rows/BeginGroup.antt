-- The order and the grouping after Begin, in a round and where the batch has reached the limit.
use Rattle.std.proofs.Common.{◌≡◌, ◌≢◌, ℕ, suc, ◌<◌, ◌≤◌, true, false, cond, List, refl, sym, ap, ◌∙◌, subst, arith}
use Rattle.std.specs.Prelude.{slice_index}
use Rattle.shfl_line.specs.declared.events.Role.{Role}
use Rattle.shfl_line.specs.declared.events.Role.TheVariants.{Nobody, Walk}
use Rattle.shfl_line.specs.declared.words.NodeState.{NodeState}
use Rattle.shfl_line.specs.Line.{Line, mark_of}
use Rattle.shfl_line.specs.Words.{link_word}
use Rattle.shfl_line.specs.Passes.{updated, times, EachPair, MarkedFirst, IsLastMarked}
use Rattle.shfl_line.proofs.Chain
use Rattle.shfl_core.specs.declared.phase.Phase.TheVariants.{Begin, Give, Swap}
use Rattle.shfl_core.specs.declared.phase.PassState.{PassState}
use Rattle.shfl_core.specs.Phases.{is_round, is_queued, knows}
use Rattle.shfl_core.specs.View.{View}
use Rattle.shfl_core.specs.Order.{Order as Ordered, Round}
use Rattle.shfl_core.specs.Grouping.{Grouping}
use Rattle.shfl_laws.proofs.rows.Quiet.{Quiet, moved, quiet-order}
use Rattle.shfl_laws.proofs.rows.MarkOrder.{order-remark}
use Rattle.shfl_laws.proofs.rows.BeginRow.{Start, no-hand, not-round, no-flag, in-line, hand-empty, begun-prefix, begun-last}

module _ (limit : ℕ) (w : View) (s : Line) (g p : ℕ) (o : Ordered w s g) (k : Grouping limit w s) (b : Start w s p) (was : is_queued (w.pass p) ≡ true)
    (num : ℕ) (some : 0 < num) (most : num ≤ limit) (v : PassState) (quiet : Quiet (w.pass p) v) (batch : v.reg.batch ≡ num) (flag : v.reg.flag ≡ false) (begin : v.phase ≢ Begin)
    (mark : List ℕ) (own : slice_index mark p ≡ num) (else : (q : ℕ) → q ≢ p → slice_index mark q ≡ mark_of s q) where
  abbrev new : NodeState
  new = record (w.node p) { shuffler = false; batch = num }

  abbrev nodes : ℕ → NodeState
  nodes = updated w.node p new

  abbrev pass : ℕ → PassState
  pass = updated w.pass p v

  abbrev w' : View
  w' = moved w w.held w.closed w.readers nodes p v

  m-own : 0 < slice_index mark p
  m-own = subst (λ z. 0 < z) (sym own) some

  here : 0 < times p s.line
  here = in-line limit w s g p o k b was

  -- only the pass itself may be in a round afterwards
  pub begin-order : (role : Role) → (is_round v.phase ≡ true → (m : ℕ → ℕ) → Round w.next m w.tail s.line (link_word s.hand) v) → Ordered w' (record s { mark = mark; role = role }) g
  begin-order role round = order-remark w' (record s { role = role }) g mark
      (quiet-order w s g w.held w.closed w.readers nodes p v o quiet (Chain.updated-all (λ q z. z.ready ≡ (w.node q).ready) w.node p new refl (λ q n. refl)) s.hold role
      (λ _. no-hand s.hand (hand-empty limit w s g p o k b)) (λ e. round e (mark_of s))
      (λ q e. Chain.updated-else w.node p q new (λ i. (let x : (w.pass p).phase ≡ Swap = subst (λ z. (w.pass z).phase ≡ Swap) i e in let y = was in grind (arith, x, y)))))
      (Chain.updated-all (λ q t. is_round t.phase ≡ true → Round w.next (slice_index mark) w.tail s.line (link_word s.hand) t) w.pass p v (λ e. round e (slice_index mark)) (λ q n e. absurd (not-round limit w s g p o k b q e)))

  queued-own : is_queued v ≡ true
  queued-own = quiet.queued ∙ was

  marks : (q : ℕ) → slice_index mark q ≡ cond (is_queued (pass q)) (nodes q).batch 0
  marks q = Chain.by_eq q p
      (λ e. subst (λ z. slice_index mark z ≡ cond (is_queued (pass z)) (nodes z).batch 0) (sym e)
      (own ∙ sym (λ j. cond ((ap is_queued (Chain.updated-same w.pass p v) ∙ queued-own) j) ((ap (λ (z : NodeState). z.batch) (Chain.updated-same w.node p new)) j) 0)))
      (λ n. else q n ∙ (k.mark q ∙ (λ j. cond (is_queued (sym (Chain.updated-else w.pass p q v n) j)) ((sym (Chain.updated-else w.node p q new n) j).batch) 0)))

  within : (q : ℕ) → slice_index mark q ≤ limit
  within q = Chain.by_eq q p (λ e. subst (λ z. slice_index mark z ≤ limit) (sym e) (let a = own in omega arith)) (λ n. let a = else q n in let c = k.within q in omega arith)

  -- nobody has the flag afterwards
  unflagged : (q : ℕ) → is_queued (pass q) ≡ true → (nodes q).shuffler ≡ true → ⊥
  unflagged q a c = Chain.by_eq q p
      (λ e. (let z : new.shuffler ≡ true = sym (ap (λ (z : NodeState). z.shuffler) (Chain.updated-same w.node p new)) ∙ subst (λ z. (nodes z).shuffler ≡ true) e c in absurd (cc)))
      (λ n. no-flag limit w s g p o k b q n (sym (ap is_queued (Chain.updated-else w.pass p q v n)) ∙ a) (sym (ap (λ (z : NodeState). z.shuffler) (Chain.updated-else w.node p q new n)) ∙ c))

  knowns : (q : ℕ) → knows (pass q).phase ≡ true → ((pass q).reg.batch ≡ (nodes q).batch) × ((pass q).reg.flag ≡ (nodes q).shuffler)
  knowns = Chain.updated-all (λ q t. knows t.phase ≡ true → (t.reg.batch ≡ (nodes q).batch) × (t.reg.flag ≡ (nodes q).shuffler)) w.pass p v
      (λ _. (batch ∙ ap (λ (z : NodeState). z.batch) (sym (Chain.updated-same w.node p new)), flag ∙ ap (λ (z : NodeState). z.shuffler) (sym (Chain.updated-same w.node p new))))
      (λ q n e. let t = k.known q e in let same = sym (Chain.updated-else w.node p q new n) in (t.0 ∙ ap (λ (z : NodeState). z.batch) same, t.1 ∙ ap (λ (z : NodeState). z.shuffler) same))

  begins : (q : ℕ) → (pass q).phase ≡ Begin → (pass q).reg.flag ≡ false → ((pass q).reg.headed ≡ true) × ((pass q).reg.batch ≡ 0)
  begins = Chain.updated-all (λ q t. t.phase ≡ Begin → t.reg.flag ≡ false → (t.reg.headed ≡ true) × (t.reg.batch ≡ 0)) w.pass p v (λ e. absurd (begin e)) (λ q n. k.begins q)

  prefix : EachPair (MarkedFirst (slice_index mark)) s.line
  prefix = begun-prefix limit w s g p o k b here (slice_index mark) else m-own

  last-own : IsLastMarked (slice_index mark) s.line p
  last-own = begun-last limit w s g p o k b here (slice_index mark) else m-own

  no-hand-here : (q : ℕ) → link_word s.hand ≡ suc q → slice_index mark q ≡ 0
  no-hand-here q e = absurd (let a = hand-empty limit w s g p o k b in omega arith)

  -- the pass is in a round
  pub walk-grouping : is_round v.phase ≡ true → v.reg.last ≡ p → v.reg.count ≡ num → num < limit → Grouping limit w' (record s { mark = mark; role = Walk p })
  walk-grouping r l c few = record {
    mark = marks;
    hand = no-hand-here;
    within = within;
    walks = Chain.updated-all (λ q t. is_round t.phase ≡ true → suc p ≡ suc q) w.pass p v (λ _. refl) (λ q n e. absurd (not-round limit w s g p o k b q e));
    walker = λ q e. let same : p ≡ q = omega arith in subst (λ z. (is_round (pass z).phase ≡ true) × (0 < slice_index mark z)) same (ap (λ (z : PassState). is_round z.phase) (Chain.updated-same w.pass p v) ∙ r, m-own);
    flagged = λ q a d. absurd (unflagged q a d);
    rester = λ q e. absurd (omega arith);
    prefix = prefix;
    rests = λ q e. absurd (omega arith);
    last = Chain.updated-all (λ q t. is_round t.phase ≡ true → IsLastMarked (slice_index mark) s.line t.reg.last × (slice_index mark t.reg.last ≡ t.reg.count) × (t.phase ≢ Give → t.reg.count < limit)) w.pass p v
        (λ _. (subst (λ z. IsLastMarked (slice_index mark) s.line z) (sym l) last-own, ap (slice_index mark) l ∙ (own ∙ sym c), λ _. subst (λ z. z < limit) (sym c) few))
        (λ q n e. absurd (not-round limit w s g p o k b q e));
    known = knowns;
    begins = begins;
  }

  -- the batch has reached the limit
  pub full-grouping : is_round v.phase ≡ false → Grouping limit w' (record s { mark = mark; role = Nobody })
  full-grouping r = record {
    mark = marks;
    hand = no-hand-here;
    within = within;
    walks = λ q e. absurd (none q e);
    walker = λ q e. absurd (omega arith);
    flagged = λ q a d. absurd (unflagged q a d);
    rester = λ q e. absurd (omega arith);
    prefix = prefix;
    rests = λ q e. absurd (omega arith);
    last = λ q e. absurd (none q e);
    known = knowns;
    begins = begins;
  }
    where
      none : (q : ℕ) → is_round (pass q).phase ≡ true → ⊥
      none = Chain.updated-all (λ q t. is_round t.phase ≡ true → ⊥) w.pass p v (λ e. (let z = r in absurd (cc))) (λ q n e. not-round limit w s g p o k b q e)
