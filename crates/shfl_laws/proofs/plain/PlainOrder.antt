-- The order that the plain words give is that of the invariant.
use Rattle.std.proofs.Common.{◌≡◌, ◌≢◌, ℕ, zero, suc, ◌+◌, ◌<◌, ◌≤◌, ◌⊎◌, List, [], ◌∷◌, Bool, true, false, cond, ◌==◌, ◌||◌, refl, sym, ap, ◌∙◌, subst, ⊎_elim, inl, inr, length, arith}
use Rattle.std.specs.Prelude.{Option, Some, None}
use Rattle.std.proofs.lemmas.Bool.Decides.{nat_tests}
use Rattle.shfl_line.specs.Line.{Line, IsWellFormed}
use Rattle.shfl_line.specs.Words.{link_word, ready_of, shuffler_of, batch_of}
use Rattle.shfl_line.specs.Passes.{times, first, Chain, end, follower_after}
use Rattle.shfl_line.proofs.Chain
use Rattle.shfl_core.specs.declared.phase.Phase.{Phase}
use Rattle.shfl_core.specs.declared.phase.Phase.TheVariants.{Link, Ready}
use Rattle.shfl_core.specs.declared.phase.PassState.{PassState}
use Rattle.shfl_core.specs.declared.words.Word.TheVariants.{Next, State}
use Rattle.shfl_core.specs.Words.{look}
use Rattle.shfl_core.specs.Phases.{is_queued, is_fore, is_linking}
use Rattle.shfl_core.specs.Worlds.{World, known}
use Rattle.shfl_core.specs.Waiting.{idle}
use Rattle.shfl_core.specs.View.{View, view}
use Rattle.shfl_core.specs.Order.{Follows, Walks, is_head, Fronted, Stands, Clean}
use Rattle.shfl_core.specs.ShownLine.{least, is_ready}
use Rattle.shfl_core.proofs.Lists.{past, below-or}
use Rattle.shfl_laws.specs.Headline.{IsLinkingTo, IsSuccessor, HasNoSuccessor, IsHead, Named, Active, Called, IsWaitLine, IsQueued}
use Rattle.shfl_laws.specs.Facts.{WaitsUncalled, Facts}
use Rattle.shfl_laws.specs.Shows.{ShowsPlainly}
use Rattle.shfl_laws.proofs.plain.Headline.{link-is}
use Rattle.shfl_laws.proofs.words.Leasts.{least-none, least-some}
use Rattle.shfl_laws.proofs.shown.ShownLine.{ready-is}

-- two passes with one follower are one
one-before : (x : ℕ) (xs : List ℕ) (a c b : ℕ) → times b xs ≤ 1 → follower_after a x xs ≡ suc b → follower_after c x xs ≡ suc b → a ≡ c
one-before x [] a c b o e f = absurd (omega arith)
one-before x (y ∷ ys) a c b o e f = Chain.by_eq a x
    (λ i. Chain.by_eq c x (λ j. i ∙ sym j)
    (λ n. absurd (let u = Chain.follower-here x y ys in let k : y ≡ b = (let z : follower_after x x (y ∷ ys) ≡ suc b = subst (λ z. follower_after z x (y ∷ ys) ≡ suc b) i e in omega arith) in
    let m = (Chain.follower-in c y b ys (sym (Chain.follower-there c x y ys n) ∙ f)).1 in twice k m)))
    (λ n. Chain.by_eq c x
    (λ j. absurd (let u = Chain.follower-here x y ys in let k : y ≡ b = (let z : follower_after x x (y ∷ ys) ≡ suc b = subst (λ z. follower_after z x (y ∷ ys) ≡ suc b) j f in omega arith) in
    let m = (Chain.follower-in a y b ys (sym (Chain.follower-there a x y ys n) ∙ e)).1 in twice k m))
    (λ j. one-before y ys a c b (omega arith) (sym (Chain.follower-there a x y ys n) ∙ e) (sym (Chain.follower-there c x y ys j) ∙ f)))
  where
    twice : y ≡ b → 0 < times b ys → ⊥
    twice k m = grind (arith, nat_tests, o, k, m)

module _ (limit n : ℕ) (w : World) (s : Line) (sh : ShowsPlainly n w s) (good : IsWellFormed limit s) (fa : Facts limit w s) where
  abbrev pass : ℕ → PassState
  pass q = known w.passes q

  abbrev v : View
  v = view w

  -- the pass at Ready plus 1, or 0
  abbrev pub giver : ℕ
  giver = least (λ p. is_ready (pass p).phase) (length w.passes)

  link-to : (q : ℕ) → is_linking (pass q).phase ≡ true → IsLinkingTo w (pass q).reg.before q
  link-to q e = record { links = link-is (pass q).phase e; before = refl }

  stands-one : (q : ℕ) → times q s.line ≤ 1
  stands-one q = let a = good.waits_once q in omega arith

  -- whoever has yet to write a next word is the follower of the pass before it
  late-in : (x : ℕ) (xs : List ℕ) → s.line ≡ x ∷ xs → Chain (IsSuccessor w) x xs → HasNoSuccessor w (end x xs) → (c b : ℕ) → IsLinkingTo w c b → (follower_after c x xs ≡ suc b) × (0 < times b xs)
  late-in x xs e k z c b l = ⊎_elim
      (λ i. absurd (z.links b (subst (λ y. IsLinkingTo w y b) i l)))
      (λ t. (let i : t.0 ≡ b = same t.0 t.1.0 in (t.1.1 ∙ ap suc i, subst (λ y. 0 < times y xs) i t.2)))
      (Chain.chain-next (λ a d. IsSuccessor w a d × (follower_after a x xs ≡ suc d)) x xs c paired (subst (λ y. 0 < times c y) e u.0))
    where
      u : (0 < times c s.line) × (look w.words (Next c) ≡ 0) × (ready_of (look w.words (State b)) ≡ false)
      u = fa.late c b l

      paired : Chain (λ a d. IsSuccessor w a d × (follower_after a x xs ≡ suc d)) x xs
      paired = Chain.chain-along (IsSuccessor w) (λ a d. IsSuccessor w a d × (follower_after a x xs ≡ suc d)) x xs (λ q. subst (λ y. times q y ≤ 1) e (stands-one q)) (λ a d f r. (r, f)) k

      same : (d : ℕ) → IsSuccessor w c d → d ≡ b
      same d (inl i) = absurd (let z = u.1 in omega arith)
      same d (inr i) = fa.late_one c d b i.1 l

  follows : (x : ℕ) (xs : List ℕ) → s.line ≡ x ∷ xs → Chain (IsSuccessor w) x xs → HasNoSuccessor w (end x xs) → (a b : ℕ) → follower_after a x xs ≡ suc b → IsSuccessor w a b → Follows v a b
  follows x xs e k z a b f (inl i) = by (is_linking (pass b).phase) refl
    where
      by : (l : Bool) → is_linking (pass b).phase ≡ l → Follows v a b
      by false j = record { word = i ∙ sym (ap (λ l. cond l 0 (suc b)) j); late = λ y. absurd (cc) }
      by true j = absurd (let t = late-in x xs e k z (pass b).reg.before b (link-to b j) in
          let o : times b xs ≤ 1 = (let m = subst (λ y. times b y ≤ 1) e (stands-one b) in omega arith) in
          let h : a ≡ (pass b).reg.before = one-before x xs a (pass b).reg.before b o f t.0 in
          let y = (fa.late (pass b).reg.before b (link-to b j)).1 in let g : look w.words (Next a) ≡ 0 = subst (λ d. look w.words (Next d) ≡ 0) (sym h) y in omega arith)
  follows x xs e k z a b f (inr i) = let l : is_linking (pass b).phase ≡ true = ap is_linking i.1.links in record {
    word = i.0 ∙ sym (ap (λ l. cond l 0 (suc b)) l);
    late = λ y. i.1.before;
  }

  walks : (l : List ℕ) → s.line ≡ l → IsWaitLine w l → Walks v l
  walks [] e h = h.0
  walks (x ∷ xs) e h = (
    Chain.chain-along (IsSuccessor w) (Follows v) x xs (λ q. subst (λ y. times q y ≤ 1) e (stands-one q)) (follows x xs e h.2 h.4) h.2,
    h.4.word,
    h.3,
  )

  links-in : (l : List ℕ) → s.line ≡ l → IsWaitLine w l → (q : ℕ) → is_linking (pass q).phase ≡ true → 0 < times q l
  links-in [] e h q i = absurd (let u = (fa.late (pass q).reg.before q (link-to q i)).0 in let z = ap (times (pass q).reg.before) e in omega arith)
  links-in (x ∷ xs) e h q i = let t = (late-in x xs e h.2 h.4 (pass q).reg.before q (link-to q i)).1 in omega arith

  pub links : (q : ℕ) → is_linking (pass q).phase ≡ true → 0 < times q s.line
  links = links-in s.line refl sh.queue

  pub order-walks : Walks v s.line
  order-walks = walks s.line refl sh.queue

  -- a head is the line's first, and the line's first is the head
  head-first : (l : List ℕ) → IsWaitLine w l → (a : ℕ) → IsHead w a → first l ≡ suc a
  head-first [] h a i = absurd (h.1 a i)
  head-first (x ∷ xs) h a i = ap suc (sym (h.1 a i))

  first-head : (l : List ℕ) → IsWaitLine w l → (a : ℕ) → first l ≡ suc a → IsHead w a
  first-head [] h a i = absurd (omega arith)
  first-head (x ∷ xs) h a i = let j : x ≡ a = (omega arith) in subst (λ y. IsHead w y) j h.0

  -- whoever waits without being called doesn't count as the head
  asleep : (q : ℕ) → WaitsUncalled w q → is_head v q ≡ true → ⊥
  asleep q u e = let a = u.waits.rear in let b = u.ready in let c : is_head v q ≡ false = (λ j. a j || b j) in cc

  -- who counts as the head is the line's first
  awake-first : (q : ℕ) → IsQueued w q → is_head v q ≡ true → first s.line ≡ suc q
  awake-first q i e = ⊎_elim
      (λ m. in-line s.line sh.queue m (fa.line q m))
      (λ h. absurd (asleep q (fa.detached q h) e))
      ((sh.queued q).0 i)
    where
      in-line : (l : List ℕ) → IsWaitLine w l → 0 < times q l → (¬ (IsHead w q) → WaitsUncalled w q) → first l ≡ suc q
      in-line [] h m f = absurd (omega arith)
      in-line (x ∷ xs) h m f = Chain.by_eq x q (λ j. ap suc j) (λ j. absurd (asleep q (f (λ y. j (sym (h.1 q y)))) e))

  -- the giver is the pass at Ready
  giver-is : (q : ℕ) → giver ≡ suc q → (pass q).phase ≡ Ready
  giver-is q e = ready-is (pass q).phase (least-some (λ p. is_ready (pass p).phase) (length w.passes) q e).1

  ready-there : (q : ℕ) → (pass q).phase ≡ Ready → q < length w.passes
  ready-there q f = ⊎_elim (λ b. b) (λ b. absurd (let e : pass q ≡ idle q = past w.passes q (idle q) b in let z : is_ready (idle q).phase ≡ true = subst (λ (x : PassState). is_ready x.phase ≡ true) e (ap is_ready f) in cc)) (below-or q (length w.passes))

  giver-who : (q : ℕ) → (pass q).phase ≡ Ready → giver ≡ suc q
  giver-who q f = by giver refl
    where
      by : (g : ℕ) → giver ≡ g → giver ≡ suc q
      by zero e = absurd (let a = least-none (λ p. is_ready (pass p).phase) (length w.passes) e q (ready-there q f) in let b = ap is_ready f in cc)
      by (suc r) e = e ∙ ap suc (fa.ready_one r q (giver-is r e) f)

  nobody-gives : (q : ℕ) → is_head v q ≡ true → first s.line ≡ suc q → giver ≡ 0
  nobody-gives q e f = by giver refl
    where
      by : (g : ℕ) → giver ≡ g → giver ≡ 0
      by zero i = i
      by (suc r) i = absurd (let t = fa.grants r (giver-is r i) in let a = t.first in let j : (pass r).reg.heir ≡ q = (omega arith) in asleep q (subst (λ y. WaitsUncalled w y) j t.uncalled) e)

  awake-head : (q : ℕ) → giver ≡ 0 → IsHead w q → is_head v q ≡ true
  awake-head q z (Named p f e) = absurd (let a = giver-who p f in omega arith)
  awake-head q z (Active a f) = ap (λ b. b || ready_of (look w.words (State q))) f
  awake-head q z (Called a b c d) = by (is_fore (pass q)) d
    where
      by : (b : Bool) → ready_of (look w.words (State q)) ≡ true → (b || ready_of (look w.words (State q))) ≡ true
      by true e = refl
      by false e = e

  pub fronted : Fronted v s.line giver
  fronted = record {
    who = giver-who;
    is = giver-is;
    only = λ q i e. (let f = awake-first q i e in (f, nobody-gives q e f));
    front = λ q z f. awake-head q z (first-head s.line sh.queue q f);
    heir = λ q e. (let t = fa.grants q (giver-is q e) in (t.first, apart (pass (pass q).reg.heir).phase t.linked));
    linking = λ q e. (fa.late (pass q).reg.before q (link-to q e)).2;
  }
    where
      apart : (f : Phase) → f ≢ Link → is_linking f ≡ false
      apart f h = grind arith

  -- each queued pass stands once
  pub stands : Stands v s
  stands q = by (is_queued (pass q)) refl
    where
      by : (b : Bool) → is_queued (pass q) ≡ b → times q s.line + cond (link_word s.hand == suc q) 1 0 ≡ cond (is_queued (pass q)) 1 0
      by true e = ⊎_elim (λ m. (let a = good.waits_once q in omega arith)) (λ m. (let a = good.waits_once q in let c : link_word s.hand ≡ suc q = ap link_word m in grind (arith, nat_tests, a, c))) ((sh.queued q).0 e)
          ∙ sym (ap (λ b. cond b 1 0) e)
      by false e = away s.hand refl ∙ sym (ap (λ b. cond b 1 0) e)
        where
          out : (0 < times q s.line) ⊎ (s.hand ≡ Some q) → ⊥
          out h = let a : is_queued (pass q) ≡ true = (sh.queued q).1 h in cc

          off : times q s.line ≡ 0
          off = ⊎_elim (λ h. absurd (out (inl h))) (λ h. (let a : times q s.line ≤ 0 = h in omega arith)) (below-or 0 (times q s.line))

          away : (h : Option ℕ) → s.hand ≡ h → times q s.line + cond (link_word s.hand == suc q) 1 0 ≡ 0
          away None i = let a = off in let c : link_word s.hand ≡ 0 = ap link_word i in grind (arith, nat_tests, a, c)
          away (Some d) i = let a = off in let c : link_word s.hand ≡ suc d = ap link_word i in let k : d ≢ q = (λ j. out (inr (i ∙ ap Some j))) in grind (arith, nat_tests, a, c, k)

  pub clean : (q : ℕ) → Clean v q
  clean q = record {
    next = λ e. fa.unlinked q (λ h. (let a : is_queued (pass q) ≡ true = h in cc));
    init = λ f. (let c = fa.cleared q f in (ap batch_of c.0, ap shuffler_of c.0, ap ready_of c.0, c.1, c.2));
  }
