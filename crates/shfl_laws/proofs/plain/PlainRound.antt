-- What the registers of a round say in plain words is what the invariant has them say.
use Rattle.std.proofs.Common.{◌≡◌, ◌≢◌, ℕ, suc, ◌<◌, ◌≤◌, List, [], ◌∷◌, Bool, true, false, cond, refl, sym, ap, ◌∙◌, subst, ⊎_elim, inl, inr, arith}
use Rattle.std.specs.Prelude.{Option, Some, None}
use Rattle.std.proofs.lemmas.Bool.Decides.{nat_tests}
use Rattle.shfl_line.specs.Line.{Line, mark_of, active_shuffler, IsWellFormed}
use Rattle.shfl_line.specs.Words.{link_word}
use Rattle.shfl_line.specs.Passes.{times, first, last, behind, last_marked}
use Rattle.shfl_line.proofs.Chain
use Rattle.shfl_line.proofs.Behind.{behind-inside, follower_behind}
use Rattle.shfl_line.proofs.Batches.{last-cong, behind-unmarked}
use Rattle.shfl_core.specs.declared.phase.Phase.TheVariants.{Mark}
use Rattle.shfl_core.specs.declared.phase.PassState.{PassState}
use Rattle.shfl_core.specs.declared.words.Word.TheVariants.{Tail}
use Rattle.shfl_core.specs.Words.{look}
use Rattle.shfl_core.specs.Phases.{has_hand}
use Rattle.shfl_core.specs.Worlds.{World, known}
use Rattle.shfl_core.specs.View.{View, view}
use Rattle.shfl_core.specs.Order.{Order as Ordered, Round, Walks}
use Rattle.shfl_core.specs.Lawful.{Terms, count, Lawful}
use Rattle.shfl_laws.specs.Headline.{IsWaitLine, Shuffles, batch}
use Rattle.shfl_laws.specs.Shows.{ShowsPlainly}
use Rattle.shfl_laws.specs.PlainFacts.{RoundWords, PlainFacts}
use Rattle.shfl_laws.proofs.rows.Order
use Rattle.shfl_laws.proofs.plain.Headline.{hand-round}
use Rattle.shfl_laws.proofs.plain.Facts.{facts}
use Rattle.shfl_laws.proofs.plain.PlainGrouping.{in-queue}

behind-hit : (l x : ℕ) (xs : List ℕ) → x ≡ l → behind l (x ∷ xs) ≡ xs
behind-hit l x xs e = grind (arith, nat_tests)

behind-miss : (l x : ℕ) (xs : List ℕ) → x ≢ l → behind l (x ∷ xs) ≡ behind l xs
behind-miss l x xs n = grind (arith, nat_tests)

-- nobody who stands once stands behind itself
not-behind-itself : (c : ℕ) (xs : List ℕ) → times c xs ≤ 1 → 0 < times c (behind c xs) → ⊥
not-behind-itself c [] o h = omega arith
not-behind-itself c (x ∷ xs) o h = Chain.by_eq x c
    (λ e. (let a = subst (λ y. 0 < times c y) (behind-hit c x xs e) h in grind (arith, nat_tests, a, o, e)))
    (λ n. not-behind-itself c xs (grind (arith, nat_tests, o)) (subst (λ y. 0 < times c y) (behind-miss c x xs n) h))

-- whoever stands behind l, but not directly, stands behind the one that does
behind-next : (l c q : ℕ) (xs : List ℕ) → ((p : ℕ) → times p xs ≤ 1) → first (behind l xs) ≡ suc c → 0 < times q (behind l xs) → q ≢ c → 0 < times q (behind c xs)
behind-next l c q [] o e h n = absurd (omega arith)
behind-next l c q (x ∷ xs) o e h n = Chain.by_eq x l
    (λ i. (let b = behind-hit l x xs i in directly xs refl (subst (λ y. first y ≡ suc c) b e) (subst (λ y. 0 < times q y) b h)))
    (λ i. (let b = behind-miss l x xs i in further (subst (λ y. first y ≡ suc c) b e) (subst (λ y. 0 < times q y) b h) (behind-next l c q xs (λ p. (let u = o p in omega arith)))))
  where
    directly : (ys : List ℕ) → xs ≡ ys → first ys ≡ suc c → 0 < times q ys → 0 < times q (behind c (x ∷ xs))
    directly [] i f g = absurd (omega arith)
    directly (y ∷ ys) i f g = let j : y ≡ c = (omega arith) in
        let d : x ≢ c = (λ k. (let u : times c (x ∷ y ∷ ys) ≤ 1 = subst (λ z. times c (x ∷ z) ≤ 1) i (o c) in grind (arith, nat_tests, u, j, k))) in
        let b : behind c (x ∷ xs) ≡ ys = behind-miss c x xs d ∙ (ap (behind c) i ∙ behind-hit c y ys j) in
        subst (λ z. 0 < times q z) (sym b) (grind (arith, nat_tests, g, j, n))

    in-first : (ys : List ℕ) → first ys ≡ suc c → 0 < times c ys
    in-first [] f = absurd (omega arith)
    in-first (y ∷ ys) f = grind (arith, nat_tests)

    further : first (behind l xs) ≡ suc c → 0 < times q (behind l xs) → (first (behind l xs) ≡ suc c → 0 < times q (behind l xs) → q ≢ c → 0 < times q (behind c xs)) → 0 < times q (behind c (x ∷ xs))
    further f g rec = let m = behind-inside c l xs (in-first (behind l xs) f) in let u = o c in
        let d : x ≢ c = (λ k. grind (arith, nat_tests, u, m, k)) in subst (λ z. 0 < times q z) (sym (behind-miss c x xs d)) (rec f g n)

-- the tail word names the line's last
tail-walks : (v : View) (l : List ℕ) → Walks v l → v.tail ≡ last l
tail-walks v [] h = h
tail-walks v (x ∷ xs) h = h.2

tail-line : (w : World) (l : List ℕ) → IsWaitLine w l → look w.words Tail ≡ last l
tail-line w [] h = h.0
tail-line w (x ∷ xs) h = h.3

module _ (t : Terms) (w : World) (ok : Lawful t w) (p : ℕ) (r : Shuffles w p) where
  abbrev s : Line
  s = ok.shown

  abbrev q : PassState
  q = known w.passes p

  o : Ordered (view w) s ok.giver
  o = ok.agrees.order

  d : Round (view w).next (mark_of s) (view w).tail s.line (link_word s.hand) q
  d = o.round p r

  -- at Mark, what stands behind the batch's last but the candidate stands behind the candidate
  rear : q.phase ≡ Mark → q.reg.prev ≢ q.reg.last → 0 < times q.reg.prev (behind q.reg.cand s.line)
  rear f m = let a = d.marking f in let b = a.2 m in let k = facts t w ok in let place = k.round p r in
      let far : 0 < times q.reg.prev (behind q.reg.last s.line) = ⊎_elim (λ e. absurd (m e)) (λ h. h) place.prev in
      let z = Order.scene (view w) s ok.giver q.reg.prev o d.prev_in in let v = z.2 in
      let inside : 0 < times q.reg.last (z.0 ∷ z.1) = subst (λ l. 0 < times q.reg.last l) v.line (ok.agrees.grouping.last p r).0.inside in
      let e = Order.follower-next (view w) z.0 z.1 q.reg.last q.reg.cand v.walks v.stop v.once inside a.0 in
      let g : first (behind q.reg.last s.line) ≡ suc q.reg.cand = subst (λ l. first (behind q.reg.last l) ≡ suc q.reg.cand) (sym v.line) (sym (follower_behind q.reg.last (z.0 ∷ z.1)) ∙ e) in
      behind-next q.reg.last q.reg.cand q.reg.prev s.line (λ x. (let u = ok.of_passes.once x in omega arith)) g far b.1

  pub round-words : RoundWords w s q
  round-words = record {
    cand_next = d.cand_next;
    cand_inner = λ f e. d.cand_inner f (tail-walks (view w) s.line o.walks ∙ e);
    first_next = d.first_next;
    first_cand = d.first_cand;
    apart = d.apart;
    after_next = d.after_next;
    gap = d.gap;
    aimed = d.aimed;
    marking = λ f. (let a = d.marking f in record { follows = a.0; unmarked = a.1; moved = λ m. (a.2 m).0; rear = rear f });
  }

module _ (t : Terms) (w : World) (s : Line) (sh : ShowsPlainly (count t) w s) (good : IsWellFormed t.rules.limit s) (fa : PlainFacts t w s) (p : ℕ) (r : Shuffles w p) where
  abbrev walker : PassState
  walker = known w.passes p

  once : (c : ℕ) → times c s.line ≤ 1
  once c = let a = good.waits_once c in omega arith

  words : RoundWords w s walker
  words = fa.rounds p r

  last-is : last_marked (mark_of s) s.line ≡ suc walker.reg.last
  last-is = sym (last-cong (batch w) (mark_of s) s.line (λ c h. sym (sh.mark c (in-queue t w s sh good fa c h)))) ∙ (fa.facts.round p r).last

  hand-is : link_word s.hand ≡ cond (has_hand walker.phase) (suc walker.reg.cand) 0
  hand-is = by (has_hand walker.phase) refl
    where
      none : has_hand walker.phase ≡ false → (h : Option ℕ) → s.hand ≡ h → link_word s.hand ≡ 0
      none e None f = ap link_word f
      none e (Some c) f = absurd (let x = (sh.hand c).0 f in let a = (sh.active x.0).1 (hand-round (known w.passes x.0).phase x.1.takes) in let b = (sh.active p).1 r in
          let i : x.0 ≡ p = (let e = ap active_shuffler (sym a ∙ b) in omega arith) in let z : has_hand walker.phase ≡ true = subst (λ y. has_hand (known w.passes y).phase ≡ true) i x.1.takes in cc)

      by : (b : Bool) → has_hand walker.phase ≡ b → link_word s.hand ≡ cond (has_hand walker.phase) (suc walker.reg.cand) 0
      by true e = ap link_word ((sh.hand walker.reg.cand).1 (p, record { takes = e; candidate = refl })) ∙ sym (ap (λ b. cond b (suc walker.reg.cand) 0) e)
      by false e = none e s.hand refl ∙ sym (ap (λ b. cond b (suc walker.reg.cand) 0) e)

  pub round-plain : Round (view w).next (mark_of s) (view w).tail s.line (link_word s.hand) walker
  round-plain = let place = fa.facts.round p r in record {
    prev_in = place.inside;
    prev_free = ⊎_elim (λ e. inl e) (λ h. inr (behind-unmarked (mark_of s) walker.reg.last walker.reg.prev s.line once last-is h)) place.prev;
    cand_next = words.cand_next;
    cand_inner = λ f e. words.cand_inner f (sym (tail-line w s.line sh.queue) ∙ e);
    first_next = words.first_next;
    first_cand = words.first_cand;
    apart = words.apart;
    after_next = words.after_next;
    gap = words.gap;
    aimed = words.aimed;
    hand_is = hand-is;
    marking = λ f. (let a = words.marking f in (a.follows, a.unmarked, λ m. (a.moved m, λ e. not-behind-itself walker.reg.cand s.line (once walker.reg.cand) (subst (λ y. 0 < times y (behind walker.reg.cand s.line)) e (a.rear m)))));
  }
