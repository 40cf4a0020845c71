-- A world shows one line: one pass at Ready, one head, one walk.
use Rattle.std.proofs.Common.{◌≡◌, ℕ, zero, suc, ◌<◌, ◌≤◌, List, [], ◌∷◌, Bool, true, false, refl, sym, ap, ◌∙◌, subst, arith}
use Rattle.std.proofs.lemmas.Bool.Decides.{nat_tests}
use Rattle.shfl_line.specs.Line.{Line}
use Rattle.shfl_core.specs.declared.phase.Phase.{Phase}
use Rattle.shfl_core.specs.declared.phase.Phase.TheVariants.{Link}
use Rattle.shfl_line.specs.Passes.{times, first, Chain, end, follower_after}
use Rattle.shfl_core.specs.Phases.{is_linking}
use Rattle.shfl_core.specs.View.{View}
use Rattle.shfl_core.specs.Order.{Order as Ordered, Follows}
use Rattle.shfl_core.specs.Grouping.{Grouping}
use Rattle.shfl_line.proofs.Chain
use Rattle.shfl_laws.proofs.rows.Order
use Rattle.shfl_laws.proofs.rows.Leave

-- the pass at Ready is one
pub giver-one : (w : View) (s t : Line) (g h : ℕ) → Ordered w s g → Ordered w t h → g ≡ h
giver-one w s t zero zero o r = refl
giver-one w s t zero (suc q) o r = o.fronted.who q (r.fronted.is q refl)
giver-one w s t (suc q) h o r = sym (r.fronted.who q (o.fronted.is q refl))

-- and so is the front
pub first-one : (w : View) (s t : Line) (g h x y : ℕ) (xs ys : List ℕ) → Ordered w s g → Ordered w t h → s.line ≡ x ∷ xs → t.line ≡ y ∷ ys → x ≡ y
first-one w s t g h x y xs ys o r e f = by g refl
  where
    by : (n : ℕ) → g ≡ n → x ≡ y
    by zero z = let fx : first s.line ≡ suc x = ap first e in let a = o.fronted.front x z fx in
        let q = Order.queued-in w s x o.stands (subst (λ l. 0 < times x l) (sym e) (Chain.here x xs)) in let b = r.fronted.only x q a in let fy : first t.line ≡ suc y = ap first f in omega arith
    by (suc q) z = let a = o.fronted.heir q z in let i = giver-one w s t g h o r in let b = r.fronted.heir q (sym i ∙ z) in
        let fx : first s.line ≡ suc x = ap first e in let fy : first t.line ≡ suc y = ap first f in omega arith

-- two passes at Link have different `before`
pub lone : (limit : ℕ) (w : View) (s : Line) (g q r : ℕ) → Ordered w s g → Grouping limit w s → is_linking (w.pass q).phase ≡ true → is_linking (w.pass r).phase ≡ true → (w.pass q).reg.before ≡ (w.pass r).reg.before → q ≡ r
lone limit w s g q r o k a b e =
    let t = Order.scene w s g q o (o.links q a) in
    let u = (Leave.late-facts limit w s g q t.0 t.1 o k (link-is (w.pass q).phase a) t.2).0 in
    let v = (Leave.late-facts limit w s g r t.0 t.1 o k (link-is (w.pass r).phase b) t.2).0 in
    let v0 : follower_after (w.pass q).reg.before t.0 t.1 ≡ suc r = subst (λ z. follower_after z t.0 t.1 ≡ suc r) (sym e) v in omega arith
  where
    link-is : (f : Phase) → is_linking f ≡ true → f ≡ Link
    link-is f h = grind arith

-- two walks from one pass to one end are one
walk-one : (w : View) (x z : ℕ) (xs ys : List ℕ) → ((a b c : ℕ) → Follows w a b → Follows w a c → b ≡ c)
    → Chain (Follows w) x xs → Chain (Follows w) x ys → end x xs ≡ z → end x ys ≡ z → ((q : ℕ) → times q (x ∷ xs) ≤ 1) → ((q : ℕ) → times q (x ∷ ys) ≤ 1) → xs ≡ ys
walk-one w x z [] [] one c d e f m n = refl
walk-one w x z [] (y ∷ ys) one c d e f m n = absurd (let i = Chain.end-in y ys in let u = n z in let i0 : 0 < times z (y ∷ ys) = subst (λ k. 0 < times k (y ∷ ys)) f i in let j : x ≡ z = e in grind (arith, nat_tests))
walk-one w x z (y ∷ ys) [] one c d e f m n = absurd (let i = Chain.end-in y ys in let u = m z in let i0 : 0 < times z (y ∷ ys) = subst (λ k. 0 < times k (y ∷ ys)) e i in let j : x ≡ z = f in grind (arith, nat_tests))
walk-one w x z (y ∷ ys) (k ∷ ks) one c d e f m n = let i : y ≡ k = one x y k c.0 d.0 in
    let ih : ys ≡ ks = walk-one w y z ys ks one c.1 (subst (λ b. Chain (Follows w) b ks) (sym i) d.1) e (subst (λ b. end b ks ≡ z) (sym i) f) (λ q. let u = m q in omega arith) (λ q. let u = n q in subst (λ b. times q (b ∷ ks) ≤ 1) (sym i) (omega arith)) in
    λ j. i j ∷ ih j

-- a world shows one line
pub line-one : (limit : ℕ) (w : View) (s t : Line) (g h x y : ℕ) (xs ys : List ℕ) → Ordered w s g → Ordered w t h → Grouping limit w s → Order.Scene w s x xs → Order.Scene w t y ys → s.line ≡ t.line
line-one limit w s t g h x y xs ys o r k v u =
    let i : x ≡ y = first-one w s t g h x y xs ys o r v.line u.line in
    let e : xs ≡ ys = walk-one w x (end x xs) xs ys one v.walks (subst (λ b. Chain (Follows w) b ys) (sym i) u.walks) refl
    (subst (λ b. end b ys ≡ end x xs) (sym i) (let a = v.tail in let b = u.tail in omega arith)) v.once (λ q. subst (λ b. times q (b ∷ ys) ≤ 1) (sym i) (u.once q)) in
    v.line ∙ ((λ j. i j ∷ e j) ∙ sym u.line)
  where
    one : (a b c : ℕ) → Follows w a b → Follows w a c → b ≡ c
    one a b c l m = by (is_linking (w.pass b).phase) (is_linking (w.pass c).phase) refl refl
      where
        by : (p q : Bool) → is_linking (w.pass b).phase ≡ p → is_linking (w.pass c).phase ≡ q → b ≡ c
        by true true e f = lone limit w s g b c o k e f (l.late e ∙ sym (m.late f))
        by true false e f = absurd (let p = l.word in let q = m.word in grind (arith, e, f))
        by false true e f = absurd (let p = l.word in let q = m.word in grind (arith, e, f))
        by false false e f = let p = l.word in let q = m.word in grind (arith, e, f)
