-- The line state that is computed from a world is the one that it shows.
use Rattle.std.proofs.Common.{◌≡◌, ◌≢◌, ℕ, zero, suc, ◌<◌, ◌≤◌, List, [], ◌∷◌, Bool, true, false, cond, ◌==◌, ◌&&◌, not, length, refl, sym, ap, ◌∙◌, ⊎_elim, subst, arith}
use Rattle.std.specs.Prelude.{Option, Some, None}
use Rattle.std.proofs.lemmas.Bool.Decides.{nat_tests}
use Rattle.shfl_line.specs.declared.events.Role.{Role}
use Rattle.shfl_line.specs.declared.events.Role.TheVariants.{Nobody, Walk, Rest}
use Rattle.shfl_line.specs.Line.{Line, is_write, active_shuffler, idle_shuffler}
use Rattle.shfl_line.specs.Words.{ready_of, shuffler_of, batch_of}
use Rattle.shfl_line.specs.Passes.{Chain, end}
use Rattle.shfl_line.proofs.Pigeons.{distinct-length}
use Rattle.shfl_core.specs.declared.phase.Phase.{Phase}
use Rattle.shfl_core.specs.declared.phase.Phase.TheVariants.{Ready, Link}
use Rattle.shfl_core.specs.declared.phase.PassState.{PassState}
use Rattle.shfl_core.specs.declared.words.Word.TheVariants.{State}
use Rattle.shfl_core.specs.Words.{look}
use Rattle.shfl_core.specs.Phases.{is_queued, is_fore, is_round, is_linking, has_hand, is_holding}
use Rattle.shfl_core.specs.Worlds.{World, known}
use Rattle.shfl_core.specs.Waiting.{idle}
use Rattle.shfl_core.specs.Lawful.{Terms, count, Lawful}
use Rattle.shfl_core.proofs.Lists.{past, below-or}
use Rattle.shfl_laws.specs.Headline.{IsLinkingTo, IsSuccessor, HasNoSuccessor, IsHead, Named, Active, Called, IsWaitLine, Headline}
use Rattle.shfl_laws.specs.Facts.{Facts}
use Rattle.shfl_core.specs.ShownLine.{least, each_below, holders, is_ready, then, or_else, head_of, successor_of, walk, named, role_of}
use Rattle.shfl_laws.specs.Theorem.{ShownLineLaw}
use Rattle.shfl_laws.proofs.plain.Facts.{facts}
use Rattle.shfl_laws.proofs.plain.Headline.{headline}
use Rattle.shfl_laws.proofs.shown.HoldersBelow.{told}
use Rattle.shfl_laws.proofs.words.Leasts.{least-none, least-some, least-is, least-zero, each-long, each-read}
use Rattle.shfl_laws.proofs.laws.NextRows.{queued-below}
use Rattle.shfl_laws.proofs.shown.ShownOne.{holds-one, numbers-one}

is-both : (a b : Bool) → (a && b) ≡ true → (a ≡ true) × (b ≡ true)
is-both true b e = (refl, e)
is-both false b e = absurd (cc)

both : (a b : Bool) → a ≡ true → b ≡ true → (a && b) ≡ true
both a b e f = λ j. e j && f j

pub ready-is : (f : Phase) → is_ready f ≡ true → f ≡ Ready
ready-is f h = grind arith

link-is : (f : Phase) → is_linking f ≡ true → f ≡ Link
link-is f h = grind arith

module _ (t : Terms) (w : World) (ok : Lawful t w) (full : length w.passes ≡ count t) where
  abbrev s : Line
  s = ok.shown

  abbrev n : ℕ
  n = length w.passes

  abbrev pass : ℕ → PassState
  pass q = known w.passes q

  plain : Headline t.rules.limit w s.line s.hand
  plain = headline t w ok

  plainly : Facts t.rules.limit w s
  plainly = facts t w ok

  queued-there : (q : ℕ) → is_queued (pass q) ≡ true → q < n
  queued-there q h = queued-below w.passes q h

  -- whoever isn't there is idle
  there : (f : PassState → Bool) → ((q : ℕ) → f (idle q) ≡ false) → (q : ℕ) → f (pass q) ≡ true → q < n
  there f no_idle q h = ⊎_elim (λ b. b) (λ b. absurd (let e : pass q ≡ idle q = past w.passes q (idle q) b in let a = no_idle q in let z : f (idle q) ≡ true = subst (λ (x : PassState). f x ≡ true) e h in cc)) (below-or q n)

  abbrev readies : ℕ → Bool
  readies p = is_ready (pass p).phase

  abbrev calls : ℕ → Bool
  calls p = is_queued (pass p) && ready_of (look w.words (State p))

  -- the head, as the function finds it
  head-is : (x : ℕ) → IsHead w x → ((a : ℕ) → IsHead w a → a ≡ x) → head_of w ≡ suc x
  head-is x (Named p f e) one = let a : least readies n ≡ suc p = least-is readies n p (there (λ q. is_ready q.phase) (λ q. refl) p (ap is_ready f)) (ap is_ready f) (λ q g. plainly.ready_one q p (ready-is (pass q).phase g) f) in
      ap (λ z. or_else (then z (λ q. (pass q).reg.heir)) (or_else (least (λ q. is_fore (pass q)) n) (least calls n))) a ∙ ap suc e
  head-is x (Active nobody f) one = let a : least readies n ≡ 0 = least-zero readies n (λ p g. nobody p (ready-is (pass p).phase g)) in
      let b : least (λ q. is_fore (pass q)) n ≡ suc x = least-is (λ q. is_fore (pass q)) n x (there (λ q. is_fore q) (λ q. refl) x f) f (λ q g. one q (Active nobody g)) in
      λ j. or_else (then (a j) (λ q. (pass q).reg.heir)) (or_else (b j) (least calls n))
  head-is x (Called nobody none q r) one = let a : least readies n ≡ 0 = least-zero readies n (λ p g. nobody p (ready-is (pass p).phase g)) in
      let b : least (λ q. is_fore (pass q)) n ≡ 0 = least-zero (λ q. is_fore (pass q)) n (λ p g. (let z = none p in cc)) in
      let c : least calls n ≡ suc x = least-is calls n x (queued-there x q) (both (is_queued (pass x)) (ready_of (look w.words (State x))) q r) (λ p g. (let z = is-both (is_queued (pass p)) (ready_of (look w.words (State p))) g in one p (Called nobody none z.0 z.1))) in
      λ j. or_else (then (a j) (λ q. (pass q).reg.heir)) (or_else (b j) (c j))

  -- where there is none
  no-head : ((a : ℕ) → ¬ (IsHead w a)) → head_of w ≡ 0
  no-head none = let nobody : (p : ℕ) → (pass p).phase ≢ Ready = (λ p f. none (pass p).reg.heir (Named p f refl)) in
      let rear : (p : ℕ) → is_fore (pass p) ≡ true → ⊥ = (λ p f. none p (Active nobody f)) in
      let a : least readies n ≡ 0 = least-zero readies n (λ p g. nobody p (ready-is (pass p).phase g)) in
      let b : least (λ q. is_fore (pass q)) n ≡ 0 = least-zero (λ q. is_fore (pass q)) n rear in
      let c : least calls n ≡ 0 = least-zero calls n (λ p g. (let z = is-both (is_queued (pass p)) (ready_of (look w.words (State p))) g in none p (Called nobody (λ q. not-fore (is_fore (pass q)) (rear q)) z.0 z.1))) in
      λ j. or_else (then (a j) (λ q. (pass q).reg.heir)) (or_else (b j) (c j))
    where
      not-fore : (b : Bool) → (b ≡ true → ⊥) → b ≡ false
      not-fore true h = absurd (h refl)
      not-fore false h = refl

  abbrev links_to : ℕ → ℕ → Bool
  links_to a p = is_linking (pass p).phase && ((pass p).reg.before == a)

  linking : (a p : ℕ) → links_to a p ≡ true → IsLinkingTo w a p
  linking a p h = let z = is-both (is_linking (pass p).phase) ((pass p).reg.before == a) h in let u = z.1 in record { links = link-is (pass p).phase z.0; before = grind (arith, nat_tests, u) }

  tests : (a p : ℕ) → IsLinkingTo w a p → links_to a p ≡ true
  tests a p h = let b = h.before in both (is_linking (pass p).phase) ((pass p).reg.before == a) (ap is_linking h.links) (grind (arith, nat_tests, b))

  successor-is : (a b : ℕ) → IsSuccessor w a b → successor_of w a ≡ suc b
  successor-is a b h = ⊎_elim
      (λ e. ap (λ z. or_else z (least (links_to a) n)) e)
      (λ e. (let c : least (links_to a) n ≡ suc b = least-is (links_to a) n b (there (λ q. is_linking q.phase) (λ q. refl) b (ap is_linking e.1.links)) (tests a b e.1) (λ p g. plainly.late_one a p b (linking a p g) e.1) in λ j. or_else (e.0 j) (c j)))
      h

  no-successor-is : (a : ℕ) → HasNoSuccessor w a → successor_of w a ≡ 0
  no-successor-is a h = let c : least (links_to a) n ≡ 0 = least-zero (links_to a) n (λ p g. h.links p (linking a p g)) in λ j. or_else (h.word j) (c j)

  walk-none : (m link : ℕ) → link ≡ 0 → walk w m link ≡ []
  walk-none m link e = ap (walk w m) e ∙ by m
    where
      by : (m : ℕ) → walk w m 0 ≡ []
      by zero = refl
      by (suc m) = refl

  walk-is : (m x : ℕ) (xs : List ℕ) → length xs < m → Chain (IsSuccessor w) x xs → HasNoSuccessor w (end x xs) → walk w m (suc x) ≡ x ∷ xs
  walk-is zero x xs h c e = absurd (omega arith)
  walk-is (suc m) x [] h c e = ap (λ l. x ∷ l) (walk-none m (successor_of w x) (no-successor-is x e))
  walk-is (suc m) x (y ∷ ys) h c e = ap (λ l. x ∷ l) (ap (walk w m) (successor-is x y c.0) ∙ walk-is m y ys (omega arith) c.1 e)

  line-is : (l : List ℕ) → s.line ≡ l → IsWaitLine w l → l ≡ walk w n (head_of w)
  line-is [] e h = sym (walk-none n (head_of w) (no-head h.1))
  line-is (x ∷ xs) e h = let d = distinct-length n s.line (λ q m. (let z = ok.of_passes.line q m in omega arith)) (λ q. (let z = ok.of_passes.once q in omega arith)) in let long = ap length e in
      sym (ap (walk w n) (head-is x h.0 h.1) ∙ walk-is n x xs (omega arith) h.2 h.4)

  abbrev hands : ℕ → Bool
  hands p = has_hand (pass p).phase

  hand-is : s.hand ≡ named (then (least hands n) (λ p. (pass p).reg.cand))
  hand-is = by (least hands n) refl s.hand refl
    where
      by : (a : ℕ) → least hands n ≡ a → (h : Option ℕ) → s.hand ≡ h → s.hand ≡ named (then a (λ p. (pass p).reg.cand))
      by (suc p) e h f = plain.detaches p (least-some hands n p e).1
      by zero e None f = f
      by zero e (Some c) f = absurd (let z = plain.detached_by c f in let u = z.2 in let v = least-none hands n e z.0 (there (λ q. has_hand q.phase) (λ q. refl) z.0 u) in cc)

  abbrev rounds : ℕ → Bool
  rounds p = is_round (pass p).phase

  abbrev flags : ℕ → Bool
  flags p = is_queued (pass p) && shuffler_of (look w.words (State p))

  role-is : s.role ≡ role_of (least rounds n) (least flags n)
  role-is = by s.role refl
    where
      by : (r : Role) → s.role ≡ r → s.role ≡ role_of (least rounds n) (least flags n)
      by Nobody e = let a : least rounds n ≡ 0 = least-zero rounds n (λ p g. (let z = ok.agrees.grouping.walks p g in let y = ap active_shuffler e in omega arith)) in
          let b : least flags n ≡ 0 = least-zero flags n (λ p g. (let u = is-both (is_queued (pass p)) (shuffler_of (look w.words (State p))) g in let z = ok.agrees.grouping.flagged p u.0 u.1 in let y = ap idle_shuffler e in omega arith)) in
          e ∙ sym (λ j. role_of (a j) (b j))
      by (Walk p) e = let u = ok.agrees.grouping.walker p (ap active_shuffler e) in
          let a : least rounds n ≡ suc p = least-is rounds n p (there (λ q. is_round q.phase) (λ q. refl) p u.0) u.0 (λ q g. plain.one_shuffler q p g u.0) in e ∙ sym (ap (λ z. role_of z (least flags n)) a)
      by (Rest p) e = let u = ok.agrees.grouping.rester p (ap idle_shuffler e) in
          let a : least rounds n ≡ 0 = least-zero rounds n (λ q g. (let z = ok.agrees.grouping.walks q g in let y = ap active_shuffler e in omega arith)) in
          let b : least flags n ≡ suc p = least-is flags n p (queued-there p u.0) (both (is_queued (pass p)) (shuffler_of (look w.words (State p))) u.0 u.1)
          (λ q g. (let v = is-both (is_queued (pass q)) (shuffler_of (look w.words (State q))) g in let z = ok.agrees.grouping.flagged q v.0 v.1 in let y = ap idle_shuffler e in omega arith)) in
          e ∙ sym (λ j. role_of (a j) (b j))

  abbrev number : ℕ → ℕ
  number p = cond (is_queued (pass p)) (batch_of (look w.words (State p))) 0

  mark-is : s.mark ≡ each_below number n
  mark-is = numbers-one s.mark (each_below number n) (ok.of_passes.marks ∙ (sym full ∙ sym (each-long number n)))
      (λ q. ok.agrees.grouping.mark q ∙ sym (each-read number n q (λ h. (let e : pass q ≡ idle q = past w.passes q (idle q) h in ap (λ (z : PassState). cond (is_queued z) (batch_of (look w.words (State q))) 0) e))))

  abbrev writes : PassState → ℕ
  writes z = cond (is_holding z.phase && is_write z.reg.mode) 1 0

  abbrev reads : PassState → ℕ
  reads z = cond (is_holding z.phase && not (is_write z.reg.mode)) 1 0

  -- whoever isn't there doesn't hold
  outside-write : (q : ℕ) → n ≤ q → writes (pass q) ≡ 0
  outside-write q h = let e : pass q ≡ idle q = past w.passes q (idle q) h in ap writes e

  outside-read : (q : ℕ) → n ≤ q → reads (pass q) ≡ 0
  outside-read q h = let e : pass q ≡ idle q = past w.passes q (idle q) h in ap reads e

  hold-is : s.hold ≡ holders pass n
  hold-is = let a = told pass n in let h = ok.agrees.holding in holds-one 0 (count t) s.hold (holders pass n) ok.of_passes.hold (a.rises (count t) (omega arith))
      (λ q. ⊎_elim (λ b. h.writer q ∙ sym (a.below q b).0) (λ b. h.writer q ∙ (outside-write q b ∙ sym (a.above q b).0)) (below-or q n))
      (λ q. ⊎_elim (λ b. h.reader q ∙ sym (a.below q b).1) (λ b. h.reader q ∙ (outside-read q b ∙ sym (a.above q b).1)) (below-or q n))

pub shown-line-law : ShownLineLaw
shown-line-law t w ok full = let l = line-is t w ok full ok.shown.line refl (plain t w ok full).queue in
    λ j. record { hold = hold-is t w ok full j; line = l j; hand = hand-is t w ok full j; role = role-is t w ok full j; mark = mark-is t w ok full j }
