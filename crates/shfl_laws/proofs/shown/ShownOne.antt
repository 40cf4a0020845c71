-- A world shows one state: line, detached waiter, shuffler, hold and batch numbers.
use Rattle.std.proofs.Common.{◌≡◌, ℕ, suc, ◌+◌, ◌<◌, ◌⊎◌, inl, inr, List, [], ◌∷◌, Bool, true, false, cond, ◌==◌, refl, sym, ap, ◌∙◌, subst, arith}
use Rattle.std.specs.Prelude.{Option, Some, None, ◌&&◌, not, slice_index, length}
use Rattle.std.proofs.lemmas.Bool.Decides.{nat_tests}
use Rattle.shfl_line.specs.declared.events.Role.{Role}
use Rattle.shfl_line.specs.declared.events.Role.TheVariants.{Nobody, Walk, Rest}
use Rattle.shfl_line.specs.declared.events.Mode.{Mode}
use Rattle.shfl_line.specs.declared.events.Mode.TheVariants.{Write, Read}
use Rattle.shfl_line.specs.Line.{Line, Rises, is_write, active_shuffler, idle_shuffler}
use Rattle.shfl_line.specs.Words.{link_word}
use Rattle.shfl_line.specs.Passes.{times}
use Rattle.shfl_line.proofs.Chain
use Rattle.shfl_core.specs.View.{View, view}
use Rattle.shfl_core.specs.Order.{Order as Ordered, Walks}
use Rattle.shfl_core.specs.Grouping.{Grouping}
use Rattle.shfl_core.specs.Holding.{write_of, read_of}
use Rattle.shfl_laws.specs.Theorem.{ShowsOne}
use Rattle.shfl_laws.proofs.rows.Order
use Rattle.shfl_laws.proofs.shown.Shown.{line-one}

module _ (limit : ℕ) (w : View) (s t : Line) (g h : ℕ) (o : Ordered w s g) (r : Ordered w t h) (k : Grouping limit w s) (m : Grouping limit w t) where
  pub lines-one : s.line ≡ t.line
  lines-one = by s.line t.line refl refl
    where
      by : (a b : List ℕ) → s.line ≡ a → t.line ≡ b → s.line ≡ t.line
      by [] [] e f = e ∙ sym f
      by [] (y ∷ ys) e f = absurd (let z : w.tail ≡ 0 = subst (Walks w) e o.walks in let u = (Order.scene-at w t h y ys r f).tail in omega arith)
      by (x ∷ xs) [] e f = absurd (let z : w.tail ≡ 0 = subst (Walks w) f r.walks in let u = (Order.scene-at w s g x xs o e).tail in omega arith)
      by (x ∷ xs) (y ∷ ys) e f = line-one limit w s t g h x y xs ys o r k (Order.scene-at w s g x xs o e) (Order.scene-at w t h y ys r f)

  pub hands-one : s.hand ≡ t.hand
  hands-one = by s.hand t.hand refl refl
    where
      same : (c : ℕ) → times c s.line ≡ times c t.line
      same c = ap (times c) lines-one

      by : (a b : Option ℕ) → s.hand ≡ a → t.hand ≡ b → s.hand ≡ t.hand
      by None None e f = e ∙ sym f
      by None (Some c) e f = absurd (let x = o.stands c in let y = r.stands c in let z = same c in let i : link_word s.hand ≡ 0 = ap link_word e in let j : link_word t.hand ≡ suc c = ap link_word f in grind (arith, nat_tests, x, y, z, i, j))
      by (Some c) None e f = absurd (let x = o.stands c in let y = r.stands c in let z = same c in let i : link_word s.hand ≡ suc c = ap link_word e in let j : link_word t.hand ≡ 0 = ap link_word f in grind (arith, nat_tests, x, y, z, i, j))
      by (Some c) (Some d) e f = e ∙ (ap Some (let x = o.stands c in let y = r.stands c in let z = same c in let i : link_word s.hand ≡ suc c = ap link_word e in let j : link_word t.hand ≡ suc d = ap link_word f in grind (arith, nat_tests, x, y, z, i, j)) ∙ sym f)

  pub roles-one : s.role ≡ t.role
  roles-one = by s.role t.role refl refl
    where
      active : (p : ℕ) → active_shuffler s.role ≡ suc p → active_shuffler t.role ≡ suc p
      active p e = m.walks p (k.walker p e).0

      active-back : (p : ℕ) → active_shuffler t.role ≡ suc p → active_shuffler s.role ≡ suc p
      active-back p e = k.walks p (m.walker p e).0

      idle : (p : ℕ) → idle_shuffler s.role ≡ suc p → idle_shuffler t.role ≡ suc p
      idle p e = let u = k.rester p e in m.flagged p u.0 u.1

      idle-back : (p : ℕ) → idle_shuffler t.role ≡ suc p → idle_shuffler s.role ≡ suc p
      idle-back p e = let u = m.rester p e in k.flagged p u.0 u.1

      by : (a b : Role) → s.role ≡ a → t.role ≡ b → s.role ≡ t.role
      by Nobody Nobody e f = e ∙ sym f
      by Nobody (Walk q) e f = absurd (let a = active-back q (ap active_shuffler f) in let b = ap active_shuffler e in omega arith)
      by Nobody (Rest q) e f = absurd (let a = idle-back q (ap idle_shuffler f) in let b = ap idle_shuffler e in omega arith)
      by (Walk p) Nobody e f = absurd (let a = active p (ap active_shuffler e) in let b = ap active_shuffler f in omega arith)
      by (Walk p) (Walk q) e f = e ∙ (ap Walk (let a = active p (ap active_shuffler e) in let b = ap active_shuffler f in omega arith) ∙ sym f)
      by (Walk p) (Rest q) e f = absurd (let a = active p (ap active_shuffler e) in let b = ap active_shuffler f in omega arith)
      by (Rest p) Nobody e f = absurd (let a = idle p (ap idle_shuffler e) in let b = ap idle_shuffler f in omega arith)
      by (Rest p) (Walk q) e f = absurd (let a = idle p (ap idle_shuffler e) in let b = ap idle_shuffler f in omega arith)
      by (Rest p) (Rest q) e f = e ∙ (ap Rest (let a = idle p (ap idle_shuffler e) in let b = ap idle_shuffler f in omega arith) ∙ sym f)

-- whoever is below the first of a rising hold isn't in it
rises-above : (least n q : ℕ) (l : List (ℕ × Mode)) → Rises least n l → q < least → (write_of q l ≡ 0) × (read_of q l ≡ 0)
rises-above least n q [] r h = (refl, refl)
rises-above least n q (x ∷ xs) r h = let a = r.0 in let t = rises-above (suc x.0) n q xs r.2 (omega arith) in let e : (x.0 == q) ≡ false = grind (arith, nat_tests) in by e t
  where
    by : (x.0 == q) ≡ false → (write_of q xs ≡ 0) × (read_of q xs ≡ 0) → (write_of q (x ∷ xs) ≡ 0) × (read_of q (x ∷ xs) ≡ 0)
    by e t = (
      ap (λ (b : Bool). cond (b && is_write x.1) 1 0 + write_of q xs) e ∙ (let u = t.0 in let z : 0 + write_of q xs ≡ 0 = omega arith in z),
      ap (λ (b : Bool). cond (b && not (is_write x.1)) 1 0 + read_of q xs) e ∙ (let u = t.1 in let z : 0 + read_of q xs ≡ 0 = omega arith in z),
    )

-- the first stands in the hold, in its mode
first-in : (x : ℕ × Mode) (xs : List (ℕ × Mode)) → (write_of x.0 (x ∷ xs) ≡ cond (is_write x.1) 1 0 + write_of x.0 xs) × (read_of x.0 (x ∷ xs) ≡ cond (not (is_write x.1)) 1 0 + read_of x.0 xs)
first-in x xs = let e : (x.0 == x.0) ≡ true = grind (arith, nat_tests) in
    (ap (λ (b : Bool). cond (b && is_write x.1) 1 0 + write_of x.0 xs) e, ap (λ (b : Bool). cond (b && not (is_write x.1)) 1 0 + read_of x.0 xs) e)

in-some : (m : Mode) (a b c d : ℕ) → a ≡ cond (is_write m) 1 0 + c → b ≡ cond (not (is_write m)) 1 0 + d → 0 < a + b
in-some Write a b c d e f = omega arith
in-some Read a b c d e f = omega arith

abbrev write_here : ℕ → ℕ × Mode → ℕ
write_here q x = cond ((x.0 == q) && is_write x.1) 1 0

abbrev read_here : ℕ → ℕ × Mode → ℕ
read_here q x = cond ((x.0 == q) && not (is_write x.1)) 1 0

abbrev num : Mode → ℕ
num m = cond (is_write m) 1 0

-- a rising hold is told by who stands in it, and how
pub holds-one : (least n : ℕ) (a b : List (ℕ × Mode)) → Rises least n a → Rises least n b → ((q : ℕ) → write_of q a ≡ write_of q b) → ((q : ℕ) → read_of q a ≡ read_of q b) → a ≡ b
holds-one least n [] [] r u f g = refl
holds-one least n [] (y ∷ ys) r u f g = absurd (let t = first-in y ys in let s = in-some y.1 (write_of y.0 (y ∷ ys)) (read_of y.0 (y ∷ ys)) (write_of y.0 ys) (read_of y.0 ys) t.0 t.1 in let c = f y.0 in let d = g y.0 in omega arith)
holds-one least n (x ∷ xs) [] r u f g = absurd (let t = first-in x xs in let s = in-some x.1 (write_of x.0 (x ∷ xs)) (read_of x.0 (x ∷ xs)) (write_of x.0 xs) (read_of x.0 xs) t.0 t.1 in let c = f x.0 in let d = g x.0 in omega arith)
holds-one least n (x ∷ xs) (y ∷ ys) r u f g = λ j. (same j, modes j) ∷ tails (holds-one (suc x.0) n xs ys) j
  where
    not-below : (v z : ℕ × Mode) (vs zs : List (ℕ × Mode)) → Rises least n (z ∷ zs) → ((q : ℕ) → write_of q (v ∷ vs) ≡ write_of q (z ∷ zs)) → ((q : ℕ) → read_of q (v ∷ vs) ≡ read_of q (z ∷ zs)) → v.0 < z.0 → ⊥
    not-below v z vs zs h c d less = let t = first-in v vs in let s = in-some v.1 (write_of v.0 (v ∷ vs)) (read_of v.0 (v ∷ vs)) (write_of v.0 vs) (read_of v.0 vs) t.0 t.1 in
        let k : Rises z.0 n (z ∷ zs) = (omega arith, h.1, h.2) in let o = rises-above z.0 n v.0 (z ∷ zs) k less in let e = c v.0 in let i = d v.0 in omega arith

    same : x.0 ≡ y.0
    same = Chain.by_eq x.0 y.0 (λ e. e) (λ m. absurd (by (grind arith)))
      where
        by : (x.0 < y.0) ⊎ (y.0 < x.0) → ⊥
        by (inl h) = not-below x y xs ys u f g h
        by (inr h) = not-below y x ys xs r (λ q. sym (f q)) (λ q. sym (g q)) h

    here : write_of x.0 (y ∷ ys) ≡ cond (is_write y.1) 1 0 + write_of x.0 ys
    here = subst (λ z. write_of z (y ∷ ys) ≡ cond (is_write y.1) 1 0 + write_of z ys) (sym same) (first-in y ys).0

    modes : x.1 ≡ y.1
    modes = by x.1 y.1 refl refl ((sym (first-in x xs).0 ∙ f x.0) ∙ here) (rises-above (suc x.0) n x.0 xs r.2 (omega arith)).0 (rises-above (suc y.0) n x.0 ys u.2 (let e = same in omega arith)).0
      where
        by : (a b : Mode) → x.1 ≡ a → y.1 ≡ b → cond (is_write x.1) 1 0 + write_of x.0 xs ≡ cond (is_write y.1) 1 0 + write_of x.0 ys → write_of x.0 xs ≡ 0 → write_of x.0 ys ≡ 0 → x.1 ≡ y.1
        by Write Write e i k l m = e ∙ sym i
        by Read Read e i k l m = e ∙ sym i
        by Write Read e i k l m = absurd (let c : num x.1 ≡ 1 = ap num e in let d : num y.1 ≡ 0 = ap num i in let z : num x.1 + write_of x.0 xs ≡ num y.1 + write_of x.0 ys = k in omega arith)
        by Read Write e i k l m = absurd (let c : num x.1 ≡ 0 = ap num e in let d : num y.1 ≡ 1 = ap num i in let z : num x.1 + write_of x.0 xs ≡ num y.1 + write_of x.0 ys = k in omega arith)

    tails : (Rises (suc x.0) n xs → Rises (suc x.0) n ys → ((q : ℕ) → write_of q xs ≡ write_of q ys) → ((q : ℕ) → read_of q xs ≡ read_of q ys) → xs ≡ ys) → xs ≡ ys
    tails rec = rec r.2 (subst (λ z. Rises (suc z) n ys) (sym same) u.2)
        (λ q. (let c : write_here q x + write_of q xs ≡ write_here q y + write_of q ys = f q in let d : write_here q x ≡ write_here q y = (λ j. write_here q (same j, modes j)) in omega arith))
        (λ q. (let c : read_here q x + read_of q xs ≡ read_here q y + read_of q ys = g q in let d : read_here q x ≡ read_here q y = (λ j. read_here q (same j, modes j)) in omega arith))

-- a list of numbers is told by its numbers
pub numbers-one : (a b : List ℕ) → length a ≡ length b → ((q : ℕ) → slice_index a q ≡ slice_index b q) → a ≡ b
numbers-one [] [] e f = refl
numbers-one [] (y ∷ ys) e f = absurd (omega arith)
numbers-one (x ∷ xs) [] e f = absurd (omega arith)
numbers-one (x ∷ xs) (y ∷ ys) e f = λ j. f 0 j ∷ numbers-one xs ys (omega arith) (λ q. f (suc q)) j

pub shows-one : ShowsOne
shows-one t w a b = let v : View = view w in let g = a.agrees in let h = b.agrees in
    let hold = holds-one 0 (length t.attrs) a.shown.hold b.shown.hold a.of_passes.hold b.of_passes.hold (λ q. g.holding.writer q ∙ sym (h.holding.writer q)) (λ q. g.holding.reader q ∙ sym (h.holding.reader q)) in
    let line = lines-one t.rules.limit v a.shown b.shown a.giver b.giver g.order h.order g.grouping h.grouping in
    let hand = hands-one t.rules.limit v a.shown b.shown a.giver b.giver g.order h.order g.grouping h.grouping in
    let role = roles-one t.rules.limit v a.shown b.shown a.giver b.giver g.order h.order g.grouping h.grouping in
    let mark = numbers-one a.shown.mark b.shown.mark (a.of_passes.marks ∙ sym b.of_passes.marks) (λ q. g.grouping.mark q ∙ sym (h.grouping.mark q)) in
    λ j. record { hold = hold j; line = line j; hand = hand j; role = role j; mark = mark j }
