-- Whoever doesn't go on by itself waits for another pass.
use Rattle.std.proofs.Common.{◌≡◌, ◌≢◌, ℕ, zero, suc, ◌<◌, ◌⊎◌, List, [], ◌∷◌, Bool, true, false, cond, ◌==◌, refl, sym, ap, ◌∙◌, inl, inr, subst, ⊎_elim, arith}
use Rattle.std.specs.Prelude.{◌&&◌, ◌||◌, not, None, Contains}
use Rattle.std.proofs.lemmas.Bool.Decides.{nat_tests}
use Rattle.shfl_line.specs.declared.events.Mode.{Mode}
use Rattle.shfl_line.specs.declared.events.Mode.TheVariants.{Write, Read}
use Rattle.shfl_line.specs.Line.{active_shuffler, reader_count}
use Rattle.shfl_line.specs.Words.{link_word, held_of, readers_of}
use Rattle.shfl_line.specs.Passes.{times, first}
use Rattle.shfl_core.specs.declared.phase.Phase.{Phase}
use Rattle.shfl_core.specs.declared.phase.Phase.TheVariants as phase
use Rattle.shfl_core.specs.declared.phase.Nap.{Nap}
use Rattle.shfl_core.specs.declared.phase.Nap.TheVariants.{Hear, Ring}
use Rattle.shfl_core.specs.declared.phase.PassState.{PassState}
use Rattle.shfl_core.specs.declared.words.Word.TheVariants.{Lock, Next as NextOf, Bell}
use Rattle.shfl_core.specs.Words.{look, free_for}
use Rattle.shfl_core.specs.Phases.{is_holding, is_backing, queued_rank, rank, fore_rank, is_linking, is_queued}
use Rattle.shfl_core.specs.Plan.{is_idle, is_held, is_awake}
use Rattle.shfl_core.specs.Owed.{fits, called}
use Rattle.shfl_core.specs.Worlds.{World, known}
use Rattle.shfl_core.specs.View.{view}
use Rattle.shfl_core.specs.Order.{Order as Ordered, Walks, Follows, is_head}
use Rattle.shfl_core.specs.Holding.{total, backs}
use Rattle.shfl_core.specs.Lawful.{Terms, count, Lawful}
use Rattle.shfl_laws.specs.PlainOwed.{Rings, SleepsToldOn}
use Rattle.shfl_laws.proofs.plain.Headline.{link-is}
use Rattle.shfl_laws.proofs.plain.HoldersPlain.{word-has-writer}
use Rattle.shfl_laws.proofs.plain.PlainHolding.{plain-hold}
use Rattle.shfl_laws.proofs.shown.WellFormed.{agrees-well-formed}
use Rattle.shfl_drain.specs.GoingOn.{waits_at, waits_by, waits, goes_on}
use Rattle.shfl_drain.specs.Progress.{WaitsFor, ForHolder, ForSuccessor, ForWaker, ForFirst, ForGranter, WaitsForAnother, SleeperIsWoken}
use Rattle.shfl_drain.proofs.Bools.{true-or, true-not-false, some-total, nobody-detached}
use Rattle.shfl_drain.proofs.Phases.{hear-looks, waits-how, waits-queued, Kind, Writer, Reader, Leaver, Uncalled, waits-kind, goes-link, goes-ready, goes-ring}

taken-is : (b : Bool) → not (not b) ≡ true → b ≡ true
taken-is true e = refl
taken-is false e = absurd (cc)

free-or : (b c : Bool) → not (not b && c) ≡ true → (b ≡ true) ⊎ (c ≡ false)
free-or true c e = inl refl
free-or false false e = inr refl
free-or false true e = absurd (cc)

backs-is : (b : Bool) → 0 < cond b 1 0 → b ≡ true
backs-is true h = refl
backs-is false h = absurd (omega arith)

module _ (t : Terms) (w : World) (ok : Lawful t w) (p : ℕ) where
  abbrev pass : ℕ → PassState
  pass q = known w.passes q

  o : Ordered (view w) ok.shown ok.giver
  o = ok.agrees.order

  looks : (known w.passes p).nap ≡ Hear → (known w.passes p).phase ≡ phase.Look
  looks e = hear-looks (pass p).phase (subst (λ z. fits z (pass p).phase ≡ true) e (ok.agrees.owed.places p))

  ringer : (r q : ℕ) → (known w.passes r).nap ≡ Ring q → goes_on w r ≡ true
  ringer r q e = (λ j. (not (is_idle (pass r).phase) && not (is_held (pass r).phase && is_awake (e j))) && not (waits_by w r (e j) (pass r).phase))
      ∙ goes-ring w r q (pass r).phase (subst (λ n. fits n (pass r).phase ≡ true) e (ok.agrees.owed.places r))

  -- who wakes a sleeper that was told to go on
  waker : (known w.passes p).nap ≡ Hear → called ((view w).node p) ≡ true → look w.words (Bell p) ≡ 0 → (r : ℕ) × (r ≢ p) × Rings w r p × (goes_on w r ≡ true)
  waker e c b = let r = ok.agrees.owed.owed p (record { sleeps = e; called = c }) b in
      (r.0, (λ i. ring-not (known w.passes p).nap p e (subst (λ z. (known w.passes z).nap ≡ Ring p) i r.1)), r.1, ringer r.0 p r.1)
    where
      ring-not : (n : Nap) (q : ℕ) → n ≡ Hear → n ≡ Ring q → ⊥
      ring-not n q e f = cc

  for-holder : (known w.passes p).phase ≡ phase.Peek → not (free_for Write (look w.words Lock)) ≡ true → WaitsFor w ok.shown p
  for-holder e v = ⊎_elim writer readers (free-or (held_of (look w.words Lock)) (readers_of (look w.words Lock) == 0) v)
    where
      writer : held_of (look w.words Lock) ≡ true → WaitsFor w ok.shown p
      writer h = let q = word-has-writer t w ok h in ForHolder q.0 (λ i. true-not-false (is_holding (pass p).phase) (subst (λ z. is_holding (known w.passes z).phase ≡ true) i q.1.holds) (ap is_holding e)) (inl q.1.holds)

      reader : (l : List (ℕ × Mode)) → ok.shown.hold ≡ l → 0 < reader_count l → WaitsFor w ok.shown p
      reader [] i h = absurd (omega arith)
      reader (x ∷ xs) i h = let q = (plain-hold t w ok x.0 x.1).0 (subst (λ (l : List (ℕ × Mode)). Contains l (x.0, x.1)) (sym i) (0, omega arith, refl)) in
          ForHolder x.0 (λ i. true-not-false (is_holding (pass p).phase) (subst (λ z. is_holding (known w.passes z).phase ≡ true) i q.holds) (ap is_holding e)) (inl q.holds)

      counted : 0 < total (count t) (λ q. backs (known w.passes q)) → WaitsFor w ok.shown p
      counted h = let q = some-total (count t) (λ z. backs (known w.passes z)) h in let b = backs-is (is_backing (known w.passes q.0).phase) q.1 in
          ForHolder q.0 (λ i. true-not-false (is_backing (pass p).phase) (subst (λ z. is_backing (known w.passes z).phase ≡ true) i b) (ap is_backing e)) (inr b)

      readers : (readers_of (look w.words Lock) == 0) ≡ false → WaitsFor w ok.shown p
      readers z = by (reader_count ok.shown.hold) refl
        where
          some : readers_of (look w.words Lock) ≢ 0
          some = grind (arith, nat_tests, z)

          by : (n : ℕ) → reader_count ok.shown.hold ≡ n → WaitsFor w ok.shown p
          by (suc n) i = reader ok.shown.hold refl (omega arith)
          by zero i = counted (let d = some in let a = ok.agrees.holding.count in omega arith)

  for-writer : (known w.passes p).phase ≡ phase.HeadLook → not (free_for Read (look w.words Lock)) ≡ true → WaitsFor w ok.shown p
  for-writer e v = let q = word-has-writer t w ok (taken-is (held_of (look w.words Lock)) v) in
      ForHolder q.0 (λ i. true-not-false (is_holding (pass p).phase) (subst (λ z. is_holding (known w.passes z).phase ≡ true) i q.1.holds) (ap is_holding e)) (inl q.1.holds)

  for-successor : (known w.passes p).phase ≡ phase.Late → (look w.words (NextOf p) == 0) ≡ true → WaitsFor w ok.shown p
  for-successor e v = by ok.shown.line refl (o.fronted.only p (ap (λ f. queued_rank (rank f)) e) (ap (λ f. fore_rank (rank f) (known w.passes p).reg.headed || ((view w).node p).ready) e)).0
    where
      word : look w.words (NextOf p) ≡ 0
      word = grind (arith, nat_tests, v)

      named : (x b : ℕ) → x ≡ p → Follows (view w) x b → WaitsFor w ok.shown p
      named x b i f = ⊎_elim
          (λ l. let g = link-is (pass b).phase l in
          ForSuccessor b (record { links = g; before = f.late l ∙ i })
          ((λ j. (not (is_idle (g j)) && not (is_held (g j) && is_awake (pass b).nap)) && not (waits_by w b (pass b).nap (g j)))
          ∙ goes-link w b (pass b).nap (subst (λ z. fits (pass b).nap z ≡ true) g (ok.agrees.owed.places b))))
          (λ l. absurd (let a : look w.words (NextOf x) ≡ suc b = f.word ∙ ap (λ z. cond z 0 (suc b)) l in let c : look w.words (NextOf x) ≡ look w.words (NextOf p) = ap (λ z. look w.words (NextOf z)) i in let d = word in omega arith))
          (true-or (is_linking (pass b).phase))

      behind : (x : ℕ) (xs : List ℕ) → x ≡ p → Walks (view w) (x ∷ xs) → WaitsFor w ok.shown p
      behind x [] i walk = absurd (ok.agrees.registered.late p e (walk.2 ∙ ap suc i))
      behind x (b ∷ ys) i walk = named x b i walk.0.0

      by : (l : List ℕ) → ok.shown.line ≡ l → first l ≡ suc p → WaitsFor w ok.shown p
      by [] i f = absurd (omega arith)
      by (x ∷ xs) i f = behind x xs (omega arith) (subst (Walks (view w)) i o.walks)

  -- a waiter that isn't the head
  for-first : is_queued (known w.passes p) ≡ true → is_head (view w) p ≡ false → WaitsFor w ok.shown p
  for-first queued off = by ok.giver refl
    where
      hand-none : ok.shown.line ≡ [] → ok.shown.hand ≡ None
      hand-none empty = active (active_shuffler ok.shown.role) refl
        where
          active : (n : ℕ) → active_shuffler ok.shown.role ≡ n → ok.shown.hand ≡ None
          active zero e = o.still e
          active (suc a) e = absurd (let m = (ok.agrees.grouping.walker a e).1 in
              let i = (agrees-well-formed t (view w) ok.shown ok.giver ok.of_passes ok.agrees).in_line a m in
              let z = ap (times a) empty in omega arith)

      inside : ok.shown.line ≡ [] → ⊥
      inside empty = let a = o.stands p in let b : times p ok.shown.line ≡ 0 = ap (times p) empty in
          let c : ◌≡◌ {A = ℕ} (cond (link_word ok.shown.hand == suc p) 1 0) 0 = nobody-detached ok.shown.hand p (hand-none empty) in
          let d : ◌≡◌ {A = ℕ} (cond (is_queued (known w.passes p)) 1 0) 1 = ap (λ z. cond z 1 0) queued in omega arith

      head : ok.giver ≡ 0 → (l : List ℕ) → ok.shown.line ≡ l → WaitsFor w ok.shown p
      head g [] e = absurd (inside e)
      head g (x ∷ xs) e = ForFirst x (ap first e) (λ i. true-not-false (is_head (view w) p) (subst (λ z. is_head (view w) z ≡ true) i (o.fronted.front x g (ap first e))) off)

      by : (n : ℕ) → ok.giver ≡ n → WaitsFor w ok.shown p
      by zero g = head g ok.shown.line refl
      by (suc r) g = let f = o.fronted.is r g in
          ForGranter r (λ i. true-not-false (is_queued (pass p)) queued (ap (λ z. is_queued (known w.passes z)) (sym i) ∙ ap (λ z. queued_rank (rank z)) f)) (ap is_holding f)
          ((λ j. (not (is_idle (f j)) && not (is_held (f j) && is_awake (pass r).nap)) && not (waits_by w r (pass r).nap (f j)))
          ∙ goes-ready w r (pass r).nap (subst (λ z. fits (pass r).nap z ≡ true) f (ok.agrees.owed.places r)))

  awake : waits_at w p (known w.passes p).phase ≡ true → Kind w p (known w.passes p).phase → WaitsFor w ok.shown p
  awake v (Writer e h) = for-holder e h
  awake v (Reader e h) = for-writer e h
  awake v (Leaver e h) = for-successor e h
  awake v (Uncalled h) = for-first (waits-queued w p (known w.passes p).phase v) h

  asleep : (known w.passes p).nap ≡ Hear → (look w.words (Bell p) == 0) ≡ true → WaitsFor w ok.shown p
  asleep e b = ⊎_elim
      (λ c. let r = waker e c (let z : look w.words (Bell p) ≡ 0 = grind (arith, nat_tests, b) in z) in ForWaker r.0 r.1 r.2 r.3)
      (λ c. for-first (ap (λ z. queued_rank (rank z)) (looks e)) (unready (known w.passes p).phase ((view w).node p).ready ((view w).node p).spin (looks e) c))
      (true-or (called ((view w).node p)))
    where
      off : (a b : Bool) → (a || b) ≡ false → a ≡ false
      off true b e = absurd (cc)
      off false b e = refl

      unready : (f : Phase) (a b : Bool) → f ≡ phase.Look → (a || b) ≡ false → (fore_rank (rank f) (known w.passes p).reg.headed || a) ≡ false
      unready f a b e h = ap (λ z. fore_rank (rank z) (known w.passes p).reg.headed || a) e ∙ off a b h

  pub waits-for : waits w p ≡ true → WaitsFor w ok.shown p
  waits-for v = ⊎_elim (λ a. awake a.1 (waits-kind w p (known w.passes p).phase a.1)) (λ b. asleep b.0 b.1) (waits-how w p (known w.passes p).nap (known w.passes p).phase v)

  pub woken : SleepsToldOn w p → (goes_on w p ≡ true) ⊎ ((r : ℕ) × (r ≢ p) × Rings w r p × (goes_on w r ≡ true))
  woken s = ⊎_elim
      (λ b. inr (waker s.sleeps told (let z : look w.words (Bell p) ≡ 0 = grind (arith, nat_tests, b) in z)))
      (λ b. inl ((λ j. (not (is_idle (looks s.sleeps j)) && not (is_held (looks s.sleeps j) && is_awake (s.sleeps j))) && not (waits_by w p (s.sleeps j) (looks s.sleeps j))) ∙ ap not b))
      (true-or (look w.words (Bell p) == 0))
    where
      or-first : (a b : Bool) → a ≡ true → (a || b) ≡ true
      or-first a b e = ap (λ z. z || b) e

      or-second : (a b : Bool) → b ≡ true → (a || b) ≡ true
      or-second true b e = refl
      or-second false b e = e

      told : called ((view w).node p) ≡ true
      told = ⊎_elim (λ e. or-first ((view w).node p).ready ((view w).node p).spin e) (λ e. or-second ((view w).node p).ready ((view w).node p).spin e) s.told

pub waits-for-another : (t : Terms) → WaitsForAnother t
waits-for-another t w ok p m v = waits-for t w ok p v

pub sleeper-is-woken : (t : Terms) → SleeperIsWoken t
sleeper-is-woken t w ok p s = woken t w ok p s
