-- A lawful world in which nobody goes on and nobody may free the lock: all are idle, and the lock is free and empty.
use Rattle.std.proofs.Common.{◌≡◌, ℕ, zero, suc, ◌<◌, ◌⊎◌, List, [], ◌∷◌, Bool, true, false, cond, ◌==◌, refl, sym, ap, ◌∙◌, inl, inr, subst, ⊎_elim, arith}
use Rattle.std.specs.Prelude.{◌&&◌, ◌||◌, not, None, Contains}
use Rattle.std.proofs.lemmas.Bool.Decides.{nat_tests}
use Rattle.shfl_line.specs.declared.events.Mode.{Mode}
use Rattle.shfl_line.specs.Line.{Line, reader_count, active_shuffler}
use Rattle.shfl_line.specs.Words.{link_word, held_of, readers_of}
use Rattle.shfl_line.specs.Passes.{times, first}
use Rattle.shfl_core.specs.declared.phase.Phase.{Phase}
use Rattle.shfl_core.specs.declared.phase.Phase.TheVariants as phase
use Rattle.shfl_core.specs.declared.phase.Nap.TheVariants.{Hear, Ring}
use Rattle.shfl_core.specs.declared.phase.PassState.{PassState}
use Rattle.shfl_core.specs.declared.words.Word.TheVariants.{Lock, Next as NextOf, Bell}
use Rattle.shfl_core.specs.Words.{look}
use Rattle.shfl_core.specs.Phases.{is_holding, is_backing, queued_rank, rank, fore_rank, is_linking, is_queued}
use Rattle.shfl_core.specs.Plan.{is_idle, is_resting, moving}
use Rattle.shfl_core.specs.Owed.{fits, called}
use Rattle.shfl_core.specs.Worlds.{World, known}
use Rattle.shfl_core.specs.View.{view}
use Rattle.shfl_core.specs.Order.{Order as Ordered, Walks, is_head}
use Rattle.shfl_core.specs.Holding.{backs}
use Rattle.shfl_core.specs.Lawful.{Terms, count, Lawful}
use Rattle.shfl_laws.proofs.rows.Order
use Rattle.shfl_laws.proofs.plain.HoldersPlain.{word-has-writer}
use Rattle.shfl_laws.proofs.plain.PlainHolding.{plain-hold}
use Rattle.shfl_laws.proofs.shown.WellFormed.{agrees-well-formed}
use Rattle.shfl_drain.specs.GoingOn.{waits_at, waits_by, waits, goes_on, IsAtRest}
use Rattle.shfl_drain.specs.Progress.{IsFreeAndEmpty}
use Rattle.shfl_drain.proofs.Bools.{not-true, true-not-false, not-both, total-none, nobody-detached}
use Rattle.shfl_drain.proofs.Phases.{idle-is, idle-or-moving, hear-looks, waits-how, waits-queued, holder-waits, counted-waits, linking-waits, head-waits}

taken-not : (b : Bool) → not (not b) ≡ true → b ≡ false → ⊥
taken-not true e f = cc
taken-not false e f = cc

free-not : (b c : Bool) → not (not b && c) ≡ true → b ≡ false → c ≡ true → ⊥
free-not true c e f g = cc
free-not false true e f g = cc
free-not false false e f g = cc

module _ (t : Terms) (w : World) (ok : Lawful t w) (still : (p : ℕ) → goes_on w p ≡ false) (held : (p : ℕ) → is_resting (known w.passes p) ≡ false) where
  abbrev pass : ℕ → PassState
  pass q = known w.passes q

  abbrev s : Line
  s = ok.shown

  o : Ordered (view w) ok.shown ok.giver
  o = ok.agrees.order

  idle-or-waits : (p : ℕ) → ((known w.passes p).phase ≡ phase.Idle) ⊎ (waits w p ≡ true)
  idle-or-waits p = ⊎_elim
      (λ i. inl (idle-is (pass p).phase i))
      (λ m. inr (not-both (moving (pass p)) (waits w p) m (still p)))
      (idle-or-moving (is_idle (pass p).phase) (is_resting (pass p)) (held p))

  hears : (p : ℕ) → (pass p).nap ≡ Hear → (pass p).phase ≡ phase.Look
  hears p e = hear-looks (pass p).phase (subst (λ z. fits z (pass p).phase ≡ true) e (ok.agrees.owed.places p))

  -- whoever is at such a phase waits there
  waits-there : (of : Phase → Bool) → of phase.Idle ≡ false → of phase.Look ≡ false → (p : ℕ) → of (known w.passes p).phase ≡ true → waits_at w p (known w.passes p).phase ≡ true
  waits-there of idles looks p h = ⊎_elim
      (λ i. absurd (true-not-false (of (pass p).phase) h (ap of i ∙ idles)))
      (λ v. ⊎_elim (λ a. a.1) (λ b. absurd (true-not-false (of (pass p).phase) h (ap of (hears p b.0) ∙ looks)))
      (waits-how w p (pass p).nap (pass p).phase v))
      (idle-or-waits p)

  linked : (p : ℕ) → is_linking (pass p).phase ≡ false
  linked p = not-true (is_linking (pass p).phase) (λ h. linking-waits w p (pass p).phase h (waits-there is_linking refl refl p h))

  -- nobody waits for its successor's name
  nobody-late : (p : ℕ) → (known w.passes p).phase ≡ phase.Late → ⊥
  nobody-late p e = by ok.shown.line refl (o.fronted.only p queued head).0
    where
      queued : is_queued (known w.passes p) ≡ true
      queued = ap (λ f. queued_rank (rank f)) e

      head : is_head (view w) p ≡ true
      head = ap (λ f. fore_rank (rank f) (known w.passes p).reg.headed || ((view w).node p).ready) e

      none : (look w.words (NextOf p) == 0) ≡ true
      none = subst (λ f. waits_at w p f ≡ true) e (waits-there is_holding refl refl p (ap is_holding e))

      word : look w.words (NextOf p) ≡ 0
      word = grind (arith, nat_tests, none)

      behind : (x : ℕ) (xs : List ℕ) → x ≡ p → Walks (view w) (x ∷ xs) → ⊥
      behind x [] i walk = ok.agrees.registered.late p e (walk.2 ∙ ap suc i)
      behind x (b ∷ ys) i walk = let a : look w.words (NextOf x) ≡ suc b = walk.0.0.word ∙ ap (λ z. cond z 0 (suc b)) (linked b) in let d = word in let c : look w.words (NextOf p) ≡ suc b = ap (λ z. look w.words (NextOf z)) (sym i) ∙ a in omega arith

      by : (l : List ℕ) → ok.shown.line ≡ l → first l ≡ suc p → ⊥
      by [] i f = omega arith
      by (x ∷ xs) i f = behind x xs (omega arith) (subst (Walks (view w)) i o.walks)

  nobody-holds : (p : ℕ) → is_holding (known w.passes p).phase ≡ false
  nobody-holds p = not-true (is_holding (pass p).phase) (λ h. nobody-late p (holder-waits w p (pass p).phase h (waits-there is_holding refl refl p h)))

  pub no-writer : held_of (look w.words Lock) ≡ false
  no-writer = not-true (held_of (look w.words Lock)) (λ e. (let h = word-has-writer t w ok e in true-not-false (is_holding (pass h.0).phase) h.1.holds (nobody-holds h.0)))

  nobody-counted : (p : ℕ) → is_backing (pass p).phase ≡ false
  nobody-counted p = not-true (is_backing (pass p).phase) (λ h. (let v = waits-there is_backing refl refl p h in
      let e = counted-waits w p (pass p).phase h v in
      taken-not (held_of (look w.words Lock)) (subst (λ f. waits_at w p f ≡ true) e v) no-writer))

  pub no-hold : ok.shown.hold ≡ []
  no-hold = by ok.shown.hold refl
    where
      by : (l : List (ℕ × Mode)) → ok.shown.hold ≡ l → ok.shown.hold ≡ []
      by [] e = e
      by (x ∷ xs) e = absurd (let h = (plain-hold t w ok x.0 x.1).0 (subst (λ (l : List (ℕ × Mode)). Contains l (x.0, x.1)) (sym e) (0, omega arith, refl)) in
          true-not-false (is_holding (pass x.0).phase) h.holds (nobody-holds x.0))

  pub no-readers : readers_of (look w.words Lock) ≡ 0
  no-readers = let a = ok.agrees.holding.count in let b = ap reader_count no-hold in
      let c = total-none (count t) (λ q. backs (pass q)) (λ q. ap (λ z. cond z 1 0) (nobody-counted q)) in omega arith

  -- nobody is about to wake a pass
  nobody-rings : (r q : ℕ) → (known w.passes r).nap ≡ Ring q → ⊥
  nobody-rings r q e = ⊎_elim
      (λ i. true-not-false (fits (pass r).nap (pass r).phase) (ok.agrees.owed.places r) (λ j. fits (e j) (i j)))
      (λ v. true-not-false (waits w r) v (ap (λ n. waits_by w r n (pass r).phase) e))
      (idle-or-waits r)

  granted : ok.giver ≡ 0
  granted = by ok.giver refl
    where
      by : (n : ℕ) → ok.giver ≡ n → ok.giver ≡ 0
      by zero e = e
      by (suc r) e = absurd (true-not-false (is_holding (pass r).phase) (ap is_holding (o.fronted.is r e)) (nobody-holds r))

  -- the first of the line would go on
  no-first : (q : ℕ) → first ok.shown.line ≡ suc q → ⊥
  no-first q f = ⊎_elim (λ i. true-not-false (is_queued (pass q)) queued (ap (λ z. queued_rank (rank z)) i)) waiting (idle-or-waits q)
    where
      inside : (l : List ℕ) → first l ≡ suc q → 0 < times q l
      inside [] e = absurd (omega arith)
      inside (x ∷ xs) e = grind (arith, nat_tests)

      queued : is_queued (known w.passes q) ≡ true
      queued = Order.queued-in (view w) ok.shown q o.stands (inside ok.shown.line f)

      head : is_head (view w) q ≡ true
      head = o.fronted.front q granted f

      free : (readers_of (look w.words Lock) == 0) ≡ true
      free = let a = no-readers in grind (arith, nat_tests, a)

      awake : waits_at w q (known w.passes q).phase ≡ true → ⊥
      awake v = ⊎_elim
          (λ e. free-not (held_of (look w.words Lock)) (readers_of (look w.words Lock) == 0) (subst (λ z. waits_at w q z ≡ true) e v) no-writer free)
          (λ d. ⊎_elim
          (λ e. taken-not (held_of (look w.words Lock)) (subst (λ z. waits_at w q z ≡ true) e v) no-writer)
          (λ e. nobody-late q e) d)
          (head-waits w q (known w.passes q).phase v head)

      -- a sleeper that was made ready would be woken
      ready-of : (n : Phase) (b : Bool) → n ≡ phase.Look → (fore_rank (rank n) (known w.passes q).reg.headed || b) ≡ true → b ≡ true
      ready-of n b e h = sym (ap (λ z. fore_rank (rank z) (known w.passes q).reg.headed || b) e) ∙ h

      asleep : (known w.passes q).nap ≡ Hear → (look w.words (Bell q) == 0) ≡ true → ⊥
      asleep e b = let ready = ready-of (known w.passes q).phase ((view w).node q).ready (hears q e) head in
          let c : called ((view w).node q) ≡ true = ap (λ z. z || ((view w).node q).spin) ready in
          let n : look w.words (Bell q) ≡ 0 = grind (arith, nat_tests, b) in
          let r = ok.agrees.owed.owed q (record { sleeps = e; called = c }) n in
          nobody-rings r.0 q r.1

      waiting : waits w q ≡ true → ⊥
      waiting v = ⊎_elim (λ a. awake a.1) (λ b. asleep b.0 b.1) (waits-how w q (known w.passes q).nap (known w.passes q).phase v)

  pub no-line : ok.shown.line ≡ []
  no-line = by ok.shown.line refl
    where
      by : (l : List ℕ) → ok.shown.line ≡ l → ok.shown.line ≡ []
      by [] e = e
      by (x ∷ xs) e = absurd (no-first x (ap first e))

  pub no-hand : ok.shown.hand ≡ None
  no-hand = by (active_shuffler ok.shown.role) refl
    where
      by : (n : ℕ) → active_shuffler ok.shown.role ≡ n → ok.shown.hand ≡ None
      by zero e = o.still e
      by (suc a) e = absurd (let m = (ok.agrees.grouping.walker a e).1 in
          let i = (agrees-well-formed t (view w) ok.shown ok.giver ok.of_passes ok.agrees).in_line a m in
          let z = ap (times a) no-line in omega arith)

  nobody-queued : (q : ℕ) → is_queued (known w.passes q) ≡ false
  nobody-queued q = by (is_queued (known w.passes q)) (let a = o.stands q in let b : times q ok.shown.line ≡ 0 = ap (times q) no-line in let c : ◌≡◌ {A = ℕ} (cond (link_word ok.shown.hand == suc q) 1 0) 0 = unhanded in let d : ◌≡◌ {A = ℕ} (cond (is_queued (known w.passes q)) 1 0) 0 = omega arith in d)
    where
      unhanded : ◌≡◌ {A = ℕ} (cond (link_word ok.shown.hand == suc q) 1 0) 0
      unhanded = nobody-detached ok.shown.hand q no-hand

      by : (z : Bool) → ◌≡◌ {A = ℕ} (cond z 1 0) 0 → z ≡ false
      by true h = absurd (omega arith)
      by false h = refl

  pub at-rest : IsAtRest w
  at-rest p = ⊎_elim (λ i. i) (λ v. absurd (true-not-false (is_queued (pass p)) (queued v) (nobody-queued p))) (idle-or-waits p)
    where
      queued : waits w p ≡ true → is_queued (known w.passes p) ≡ true
      queued v = ⊎_elim (λ a. waits-queued w p (known w.passes p).phase a.1) (λ b. ap (λ z. queued_rank (rank z)) (hears p b.0)) (waits-how w p (known w.passes p).nap (known w.passes p).phase v)

  pub free-and-empty : IsFreeAndEmpty w ok.shown
  free-and-empty = record {
    held = no-writer;
    readers = no-readers;
    tail = subst (Walks (view w)) no-line o.walks;
    hold = no-hold;
    line = no-line;
    hand = no-hand;
  }
