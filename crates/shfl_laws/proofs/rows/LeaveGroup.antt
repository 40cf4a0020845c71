-- The grouping after the first of the line has left: its batch number and its flag go.
use Rattle.std.proofs.Common.{◌≡◌, ◌≢◌, ℕ, suc, ◌<◌, ◌≤◌, List, ◌∷◌, Bool, true, false, cond, ◌==◌, length, refl, sym, ap, ◌∙◌, subst, arith}
use Rattle.std.specs.Prelude.{slice_index, slice_set}
use Rattle.std.proofs.lemmas.Bool.Decides.{nat_tests}
use Rattle.shfl_line.specs.declared.events.Role.{Role}
use Rattle.shfl_line.specs.declared.events.Role.TheVariants.{Nobody, Rest, Walk}
use Rattle.shfl_line.specs.declared.events.LineEvent.TheVariants.{Leave}
use Rattle.shfl_line.specs.Line.{Line, mark_of, active_shuffler, idle_shuffler, IsWellFormed}
use Rattle.shfl_line.specs.Passes.{updated, times, first, without, EachPair, MarkedFirst, StopsAt, Chain, IsLastMarked}
use Rattle.shfl_line.specs.Steps.{after, role_without}
use Rattle.shfl_line.proofs.Chain
use Rattle.shfl_line.proofs.Marks
use Rattle.shfl_line.proofs.Batches.{mark-set}
use Rattle.shfl_line.proofs.KeptLine.{tail-of, role-left, role-walks}
use Rattle.shfl_core.specs.declared.phase.Phase.TheVariants.{Begin, Give}
use Rattle.shfl_core.specs.declared.phase.PassState.{PassState}
use Rattle.shfl_core.specs.Phases.{is_round, is_queued, knows}
use Rattle.shfl_core.specs.View.{View}
use Rattle.shfl_core.specs.Order.{Stands}
use Rattle.shfl_core.specs.Grouping.{Grouped, Grouping}
use Rattle.shfl_laws.proofs.rows.Remark.{last-same}

-- an active shuffler keeps its role where another pass leaves
walk-stays : (p q : ℕ) (r : Role) → active_shuffler r ≡ suc q → active_shuffler (role_without p r) ≡ suc q
walk-stays p q Nobody e = absurd (omega arith)
walk-stays p q (Rest x) e = absurd (omega arith)
walk-stays p q (Walk x) e = by (0 == suc p) refl
  where
    by : (b : Bool) → (0 == suc p) ≡ b → active_shuffler (cond b Nobody (Walk x)) ≡ suc q
    by true h = absurd (grind (arith, nat_tests))
    by false h = e

rest-stays : (p q : ℕ) (r : Role) → q ≢ p → idle_shuffler r ≡ suc q → idle_shuffler (role_without p r) ≡ suc q
rest-stays p q r n e = by (idle_shuffler r == suc p) refl
  where
    by : (b : Bool) → (idle_shuffler r == suc p) ≡ b → idle_shuffler (cond b Nobody r) ≡ suc q
    by true h = absurd (n (grind (arith, nat_tests)))
    by false h = e

module _ (limit : ℕ) (w : View) (s : Line) (p : ℕ) (v : PassState) (stands : Stands w s) (k : Grouping limit w s) (wf : IsWellFormed limit s) (wf' : IsWellFormed limit (after s (Leave p)))
    (room : p < length s.mark) (head : first s.line ≡ suc p) (was : is_round (w.pass p).phase ≡ false)
    (gone : is_queued v ≡ false) (calm : is_round v.phase ≡ false) (blind : knows v.phase ≡ false) (plain : v.phase ≢ Begin) where
  abbrev marks : ℕ → ℕ
  marks = slice_index (slice_set s.mark p 0)

  set : (q : ℕ) → marks q ≡ updated (mark_of s) p 0 q
  set q = mark-set s.mark p 0 q room

  off : marks p ≡ 0
  off = set p ∙ Chain.updated-same (mark_of s) p 0

  pub else_ : (q : ℕ) → q ≢ p → marks q ≡ mark_of s q
  else_ q n = set q ∙ Chain.updated-else (mark_of s) p q 0 n

  pub lower : (q : ℕ) → mark_of s q ≡ 0 → marks q ≡ 0
  lower q z = Chain.by_eq q p (λ i. subst (λ x. marks x ≡ 0) (sym i) off) (λ n. else_ q n ∙ z)

  pass-else : (q : ℕ) → q ≢ p → updated w.pass p v q ≡ w.pass q
  pass-else q n = Chain.updated-else w.pass p q v n

  now-queued : (q : ℕ) → is_queued (updated w.pass p v q) ≡ true → q ≢ p
  now-queued q h i = let a : is_queued (updated w.pass p v p) ≡ true = subst (λ z. is_queued (updated w.pass p v z) ≡ true) i h in
      let b : is_queued (updated w.pass p v p) ≡ false = ap is_queued (Chain.updated-same w.pass p v) ∙ gone in cc

  in-round : (q : ℕ) → is_round (w.pass q).phase ≡ true → q ≢ p
  in-round q h i = let a : is_round (w.pass p).phase ≡ true = subst (λ z. is_round (w.pass z).phase ≡ true) i h in cc

  -- the pass in a round stands behind p, and so does its batch's last
  last-behind : (q : ℕ) → is_round (w.pass q).phase ≡ true → (w.pass q).reg.last ≢ p
  last-behind q r i = let t = tail-of p s.line head in let m = (k.walker q (k.walks q r)).1 in
      let c : Chain (MarkedFirst (mark_of s)) p t.0 = subst (λ (l : List ℕ). EachPair (MarkedFirst (mark_of s)) l) t.1 k.prefix in
      let st : Chain (StopsAt (mark_of s) (w.pass q).reg.last) p t.0 = subst (λ (l : List ℕ). EachPair (StopsAt (mark_of s) (w.pass q).reg.last) l) t.1 (k.last q r).0.stops in
      let q-in : 0 < times q (p ∷ t.0) = subst (λ (l : List ℕ). 0 < times q l) t.1 (wf.in_line q m) in let n = in-round q r in
      let z = Marks.first-last (mark_of s) p q t.0 c (subst (λ x. Chain (StopsAt (mark_of s) x) p t.0) i st) (grind (arith, nat_tests)) in omega arith

  waits : 0 < times p s.line
  waits = let t = tail-of p s.line head in subst (λ (l : List ℕ). 0 < times p l) (sym t.1) (Chain.here p t.0)

  once : (q : ℕ) → times q s.line ≤ 1
  once q = let a = wf.waits_once q in omega arith

  last-left : (l : ℕ) → l ≢ p → IsLastMarked (mark_of s) s.line l → IsLastMarked marks (without p s.line) l
  last-left l n e = last-same (mark_of s) marks (without p s.line) l
      (λ z h. sym (else_ z (λ i. (let c = Chain.times-without p p s.line waits in let d = once p in let y : 0 < times p (without p s.line) = subst (λ x. 0 < times x (without p s.line)) i h in grind (arith, nat_tests)))))
      (Marks.last-without (mark_of s) p l s.line (let a = waits in let b = once p in omega arith) n k.prefix e)

  pub leave-grouping : Grouped limit w.node (updated w.pass p v) (after s (Leave p))
  leave-grouping = record {
    mark = λ q. Chain.by_eq q p
        (λ i. subst (λ z. marks z ≡ cond (is_queued (updated w.pass p v z)) (w.node z).batch 0) (sym i)
        (off ∙ sym (λ j. cond ((ap is_queued (Chain.updated-same w.pass p v) ∙ gone) j) (w.node p).batch 0)))
        (λ n. else_ q n ∙ (k.mark q ∙ (λ j. cond (is_queued (sym (pass-else q n) j)) (w.node q).batch 0)));
    hand = λ q e. lower q (k.hand q e);
    within = wf'.within;
    walks = Chain.updated-all (λ q t. is_round t.phase ≡ true → active_shuffler (role_without p s.role) ≡ suc q) w.pass p v (λ e. absurd (cc)) (λ q n e. walk-stays p q s.role (k.walks q e));
    walker = λ q e. (let t = k.walker q (role-walks p q s.role e) in let n = in-round q t.0 in (ap (λ (z : PassState). is_round z.phase) (pass-else q n) ∙ t.0, (let a = else_ q n in let b = t.1 in omega arith)));
    flagged = λ q e h. (let n = now-queued q e in rest-stays p q s.role n (k.flagged q (ap is_queued (sym (pass-else q n)) ∙ e) h));
    rester = λ q e. (let r = role-left p q s.role e in let t = k.rester q r.0 in (ap is_queued (pass-else q r.1) ∙ t.0, t.1));
    prefix = wf'.prefix;
    rests = λ q e. (let r = role-left p q s.role e in last-left q r.1 (k.rests q r.0));
    last = Chain.updated-all (λ q t. is_round t.phase ≡ true → IsLastMarked marks (without p s.line) t.reg.last × (marks t.reg.last ≡ t.reg.count) × (t.phase ≢ Give → t.reg.count < limit)) w.pass p v
        (λ e. absurd (cc))
        (λ q n e. let t = k.last q e in let m = last-behind q e in (last-left (w.pass q).reg.last m t.0, else_ (w.pass q).reg.last m ∙ t.1, t.2));
    known = Chain.updated-all (λ q t. knows t.phase ≡ true → (t.reg.batch ≡ (w.node q).batch) × (t.reg.flag ≡ (w.node q).shuffler)) w.pass p v (λ e. absurd (cc)) (λ q n. k.known q);
    begins = Chain.updated-all (λ q t. t.phase ≡ Begin → t.reg.flag ≡ false → (t.reg.headed ≡ true) × (t.reg.batch ≡ 0)) w.pass p v (λ e. absurd (plain e)) (λ q n. k.begins q);
  }
