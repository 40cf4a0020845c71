-- A pass tells another to go on, and is about to set its wakeup word where that one sleeps: no wakeup is lost.
use Rattle.std.proofs.Common.{◌≡◌, ◌≢◌, ℕ, zero, suc, ◌<◌, ◌⊎◌, Bool, true, false, cond, refl, sym, ap, ◌∙◌, subst, ⊎_elim, inl, inr, arith}
use Rattle.std.specs.Prelude.{◌||◌, ◌&&◌, not}
use Rattle.shfl_line.specs.declared.events.Form.{Form}
use Rattle.shfl_line.specs.declared.words.NodeState.{NodeState}
use Rattle.shfl_line.specs.Passes.{updated}
use Rattle.shfl_line.proofs.Chain
use Rattle.shfl_core.specs.declared.phase.Phase.TheVariants.{Swap}
use Rattle.shfl_core.specs.declared.phase.Nap.{Nap}
use Rattle.shfl_core.specs.declared.phase.Nap.TheVariants.{Awake, Doze, Hear, Rouse, Ring}
use Rattle.shfl_core.specs.declared.phase.PassState.{PassState}
use Rattle.shfl_core.specs.Plan.{parks}
use Rattle.shfl_core.specs.Phases.{is_queued, is_fore}
use Rattle.shfl_core.specs.View.{View}
use Rattle.shfl_core.specs.Owed.{Owed, IsCalledSleeper, called, announces, fits}

-- the pass is parked, and nobody has told it to go on
abbrev pub asleep : NodeState → Bool
asleep n = n.parked && not n.ready && not n.spin

-- what the step must say of the two passes besides
pub record Calls (form : Form) (w : View) (p c : ℕ) (n : NodeState) (v : PassState) : Type 0 where
  pub awake : (w.pass p).nap ≡ Awake
  pub other : c ≢ p
  pub parked : n.parked ≡ (w.node c).parked
  pub keeps : called (w.node c) ≡ true → called n ≡ true
  pub wakes : asleep (w.node c) ≡ true → called n ≡ true
  pub rings : v.nap ≡ cond (asleep (w.node c)) (Ring c) Awake
  pub same : asleep (w.node c) ≡ false → called n ≡ true → (w.node c).parked ≡ true → called (w.node c) ≡ true
  pub places : fits v.nap v.phase ≡ true
  pub spinning : parks form ≡ false → n.spin ≡ false
  pub told : is_queued (w.pass c) ≡ true → n.spin ≡ true → 0 < n.batch
  pub grouped : parks form ≡ true → is_queued (w.pass c) ≡ true → is_fore (w.pass c) ≡ false → 0 < n.batch → n.spin ≡ true
  pub fresh : (w.pass c).phase ≡ Swap → n.spin ≡ false
  pub own_told : is_queued v ≡ true → (w.node p).spin ≡ true → 0 < (w.node p).batch
  pub own_grouped : parks form ≡ true → is_queued v ≡ true → is_fore v ≡ false → 0 < (w.node p).batch → (w.node p).spin ≡ true
  pub own_fresh : v.phase ≡ Swap → (w.node p).spin ≡ false

hears : (x : Nap) → announces x ≡ true → (x ≢ Rouse) → x ≡ Hear
hears Awake e n = absurd (cc)
hears Doze e n = absurd (cc)
hears Hear e n = refl
hears Rouse e n = absurd (n refl)
hears (Ring r) e n = absurd (cc)

parts : (a b c : Bool) → (a && not b && not c) ≡ true → (a ≡ true) × ((b || c) ≡ false)
parts true false false e = (refl, refl)
parts true true c e = absurd (cc)
parts true false true e = absurd (cc)
parts false b c e = absurd (cc)

module _ (form : Form) (w : View) (p c : ℕ) (n : NodeState) (v : PassState) (h : Owed form w) (k : Calls form w p c n v) where
  abbrev pass : ℕ → PassState
  pass = updated w.pass p v

  abbrev node : ℕ → NodeState
  node = updated w.node c n

  abbrev w' : View
  w' = record w { node = node; pass = pass }

  -- the one that is called sleeps, and nobody else knows of it
  record Asleep : Type 0 where
    hears : (w.pass c).nap ≡ Hear
    called : called (w.node c) ≡ false

  sleeping : asleep (w.node c) ≡ true → Asleep
  sleeping e = let t = parts (w.node c).parked (w.node c).ready (w.node c).spin e in record {
    hears = hears (w.pass c).nap (sym (h.parked c) ∙ t.0) (λ r. (let z = h.roused c r in let y = t.1 in absurd (cc)));
    called = t.1;
  }

  nap-else : (q : ℕ) → q ≢ p → (pass q).nap ≡ (w.pass q).nap
  nap-else q d = ap (λ (z : PassState). z.nap) (Chain.updated-else w.pass p q v d)

  nap-own : (pass p).nap ≡ v.nap
  nap-own = ap (λ (z : PassState). z.nap) (Chain.updated-same w.pass p v)

  node-else : (q : ℕ) → q ≢ c → node q ≡ w.node q
  node-else q d = Chain.updated-else w.node c q n d

  node-own : node c ≡ n
  node-own = Chain.updated-same w.node c n

  -- who is about to set which wakeup word
  ringer : (b : Bool) → asleep (w.node c) ≡ b → (r q : ℕ) → (pass r).nap ≡ Ring q → ((b ≡ true) × (r ≡ p) × (q ≡ c)) ⊎ ((r ≢ p) × ((w.pass r).nap ≡ Ring q))
  ringer b e r q x = Chain.by_eq r p
      (λ i. let y : v.nap ≡ Ring q = sym nap-own ∙ (subst (λ z. (pass z).nap ≡ Ring q) i x) in own b i (sym (k.rings ∙ (λ j. cond (e j) (Ring c) Awake)) ∙ y))
      (λ d. inr (d, sym (nap-else r d) ∙ x))
    where
      own : (b : Bool) → r ≡ p → cond b (Ring c) Awake ≡ Ring q → ((b ≡ true) × (r ≡ p) × (q ≡ c)) ⊎ ((r ≢ p) × ((w.pass r).nap ≡ Ring q))
      own true i y = inl (refl, i, (let z : q ≡ c = cc in z))
      own false i y = absurd (cc)

  sleeper-else : (q : ℕ) → q ≢ c → q ≢ p → IsCalledSleeper w q → IsCalledSleeper w' q
  sleeper-else q d f s = record { sleeps = nap-else q f ∙ s.sleeps; called = ap called (node-else q d) ∙ s.called }

  sleeper-back : (q : ℕ) → q ≢ c → IsCalledSleeper w' q → (q ≢ p) × IsCalledSleeper w q
  sleeper-back q d s = let f : q ≢ p = (λ i. (let y : v.nap ≡ Hear = sym nap-own ∙ subst (λ z. (pass z).nap ≡ Hear) i s.sleeps in not-hear (asleep (w.node c)) (sym k.rings ∙ y))) in
      (f, record { sleeps = sym (nap-else q f) ∙ s.sleeps; called = sym (ap called (node-else q d)) ∙ s.called })
    where
      not-hear : (b : Bool) → cond b (Ring c) Awake ≡ Hear → ⊥
      not-hear true e = cc
      not-hear false e = cc

  -- an awake pass is no sleeper
  not-own : (q : ℕ) → IsCalledSleeper w q → q ≢ p
  not-own q s i = let y : (w.pass p).nap ≡ Hear = subst (λ z. (w.pass z).nap ≡ Hear) i s.sleeps in let z = k.awake in absurd (cc)

  -- a sleeper that was called stays one
  stays : (q : ℕ) → IsCalledSleeper w q → IsCalledSleeper w' q
  stays q s = Chain.by_eq q c
      (λ e. subst (λ z. IsCalledSleeper w' z) (sym e) (let s0 : IsCalledSleeper w c = subst (λ z. IsCalledSleeper w z) e s in record { sleeps = nap-else c k.other ∙ s0.sleeps; called = ap called node-own ∙ k.keeps s0.called }))
      (λ d. sleeper-else q d (not-own q s) s)

  owed-by : (b : Bool) → asleep (w.node c) ≡ b → Owed form w'
  owed-by b e = record {
    places = Chain.updated-all (λ q t. fits t.nap t.phase ≡ true) w.pass p v k.places (λ q d. h.places q);
    parked = λ q. parked q;
    roused = λ q x. roused q x;
    spinning = λ s q. spins s q;
    told = λ q a x. Chain.by_eq q c
        (λ i. subst (λ z. is_queued (pass z) ≡ true → (node z).spin ≡ true → 0 < (node z).batch) (sym i) (λ a x. subst (λ (y : NodeState). 0 < y.batch) (sym node-own) (k.told (sym (ap is_queued (Chain.updated-else w.pass p c v k.other)) ∙ a) (sym (ap (λ (y : NodeState). y.spin) node-own) ∙ x))) a x)
        (λ d. subst (λ (y : NodeState). 0 < y.batch) (sym (node-else q d)) (Chain.updated-all (λ q t. is_queued t ≡ true → (w.node q).spin ≡ true → 0 < (w.node q).batch) w.pass p v k.own_told (λ q _. h.told q) q a (sym (ap (λ (y : NodeState). y.spin) (node-else q d)) ∙ x)));
    grouped = λ s q a r x. Chain.by_eq q c
        (λ i. subst (λ z. is_queued (pass z) ≡ true → is_fore (pass z) ≡ false → 0 < (node z).batch → (node z).spin ≡ true) (sym i)
        (λ a r x. ap (λ (y : NodeState). y.spin) node-own ∙ k.grouped s (sym (ap is_queued (Chain.updated-else w.pass p c v k.other)) ∙ a) (sym (ap is_fore (Chain.updated-else w.pass p c v k.other)) ∙ r) (subst (λ (y : NodeState). 0 < y.batch) node-own x)) a r x)
        (λ d. ap (λ (y : NodeState). y.spin) (node-else q d) ∙ Chain.updated-all (λ q t. is_queued t ≡ true → is_fore t ≡ false → 0 < (w.node q).batch → (w.node q).spin ≡ true) w.pass p v (k.own_grouped s) (λ q _. h.grouped s q) q a r (subst (λ (y : NodeState). 0 < y.batch) (node-else q d) x));
    fresh = λ q x. Chain.by_eq q c
        (λ i. subst (λ z. (pass z).phase ≡ Swap → (node z).spin ≡ false) (sym i) (λ x. ap (λ (y : NodeState). y.spin) node-own ∙ k.fresh (sym (ap (λ (y : PassState). y.phase) (Chain.updated-else w.pass p c v k.other)) ∙ x)) x)
        (λ d. ap (λ (y : NodeState). y.spin) (node-else q d) ∙ Chain.updated-all (λ q t. t.phase ≡ Swap → (w.node q).spin ≡ false) w.pass p v k.own_fresh (λ q _. h.fresh q) q x);
    owed = λ q s z. Chain.by_eq q c
        (λ i. subst (λ x. IsCalledSleeper w' x → w.bell x ≡ 0 → (r : ℕ) × ((pass r).nap ≡ Ring x)) (sym i) (owed-c b e) s z)
        (λ d. let t = sleeper-back q d s in old-ringer q (h.owed q t.1 z));
    one = λ q a a' x y. only q a a' x y;
    rung = λ q z. let t = h.rung q z in (stays q t.0, λ r x. ⊎_elim (λ y. silent q t.0 y.0 y.2) (λ y. t.1 r y.1) (ringer b e r q x));
    rings = λ r q x. ⊎_elim (λ y. rings-c y.0 q y.2) (λ y. let t = h.rings r q y.1 in (stays q t.0, t.1)) (ringer b e r q x);
  }
    where
      parked : (q : ℕ) → (node q).parked ≡ announces (pass q).nap
      parked q = Chain.by_eq q c
          (λ i. subst (λ z. (node z).parked ≡ announces (pass z).nap) (sym i) (ap (λ (y : NodeState). y.parked) node-own ∙ (k.parked ∙ (h.parked c ∙ ap announces (sym (nap-else c k.other))))))
          (λ d. ap (λ (y : NodeState). y.parked) (node-else q d) ∙ Chain.by_eq q p
          (λ i. subst (λ z. (w.node z).parked ≡ announces (pass z).nap) (sym i) (h.parked p ∙ (ap announces k.awake ∙ (quiet (asleep (w.node c)) ∙ ap announces (sym k.rings ∙ sym nap-own)))))
          (λ f. h.parked q ∙ ap announces (sym (nap-else q f))))
        where
          quiet : (b : Bool) → false ≡ announces (cond b (Ring c) Awake)
          quiet true = refl
          quiet false = refl

      roused : (q : ℕ) → (pass q).nap ≡ Rouse → called (node q) ≡ true
      roused q x = Chain.by_eq q p
          (λ i. absurd (let y : v.nap ≡ Rouse = sym nap-own ∙ subst (λ z. (pass z).nap ≡ Rouse) i x in no (asleep (w.node c)) (sym k.rings ∙ y)))
          (λ f. let t = h.roused q (sym (nap-else q f) ∙ x) in Chain.by_eq q c
          (λ i. subst (λ z. called (node z) ≡ true) (sym i) (ap called node-own ∙ k.keeps (subst (λ z. called (w.node z) ≡ true) i t)))
          (λ d. ap called (node-else q d) ∙ t))
        where
          no : (b : Bool) → cond b (Ring c) Awake ≡ Rouse → ⊥
          no true e = cc
          no false e = cc

      spins : parks form ≡ false → (q : ℕ) → ((pass q).nap ≡ Awake) × ((node q).spin ≡ false) × (w.bell q ≡ 0)
      spins s q = let t = h.spinning s q in (
        Chain.by_eq q p
            (λ i. subst (λ z. (pass z).nap ≡ Awake) (sym i) (nap-own ∙ (k.rings ∙ idle (asleep (w.node c)) refl)))
            (λ f. nap-else q f ∙ t.0),
        Chain.by_eq q c (λ i. subst (λ z. (node z).spin ≡ false) (sym i) (ap (λ (y : NodeState). y.spin) node-own ∙ k.spinning s)) (λ d. ap (λ (y : NodeState). y.spin) (node-else q d) ∙ t.1),
        t.2,
      )
        where
          idle : (b : Bool) → asleep (w.node c) ≡ b → cond b (Ring c) Awake ≡ Awake
          idle false i = refl
          idle true i = absurd (let u = (sleeping i).hears in let z = (h.spinning s c).0 in cc)

      -- nobody was about to ring one that wasn't called
      silent : (q : ℕ) → IsCalledSleeper w q → b ≡ true → q ≡ c → ⊥
      silent q s i j = let u = (sleeping (e ∙ i)).called in let z : called (w.node c) ≡ true = subst (λ x. called (w.node x) ≡ true) j s.called in absurd (cc)

      old-ringer : (q : ℕ) → ((r : ℕ) × ((w.pass r).nap ≡ Ring q)) → (r : ℕ) × ((pass r).nap ≡ Ring q)
      old-ringer q t = (t.0, nap-else t.0 (λ i. (let y : (w.pass p).nap ≡ Ring q = subst (λ z. (w.pass z).nap ≡ Ring q) i t.1 in let z = k.awake in absurd (cc))) ∙ t.1)

      owed-c : (b : Bool) → asleep (w.node c) ≡ b → IsCalledSleeper w' c → w.bell c ≡ 0 → (r : ℕ) × ((pass r).nap ≡ Ring c)
      owed-c true i s z = (p, nap-own ∙ (k.rings ∙ (λ j. cond (i j) (Ring c) Awake)))
      owed-c false i s z = old-ringer c (h.owed c (record { sleeps = sym (nap-else c k.other) ∙ s.sleeps; called = k.same i (sym (ap called node-own) ∙ s.called) (h.parked c ∙ ap announces (sym (nap-else c k.other) ∙ s.sleeps)) }) z)

      only : (q a a' : ℕ) → (pass a).nap ≡ Ring q → (pass a').nap ≡ Ring q → a ≡ a'
      only q a a' x y = ⊎_elim
          (λ i. ⊎_elim (λ j. i.1 ∙ sym j.1) (λ j. absurd (silent q (h.rings a' q j.1).0 i.0 i.2)) (ringer b e a' q y))
          (λ i. ⊎_elim (λ j. absurd (silent q (h.rings a q i.1).0 j.0 j.2)) (λ j. h.one q a a' i.1 j.1) (ringer b e a' q y))
          (ringer b e a q x)

      rings-c : b ≡ true → (q : ℕ) → q ≡ c → IsCalledSleeper w' q × (w.bell q ≡ 0)
      rings-c i q j = let t = sleeping (e ∙ i) in subst (λ x. IsCalledSleeper w' x × (w.bell x ≡ 0)) (sym j)
          (record { sleeps = nap-else c k.other ∙ t.hears; called = ap called node-own ∙ k.wakes (e ∙ i) }, no-bell (w.bell c) refl)
        where
          no-bell : (m : ℕ) → w.bell c ≡ m → w.bell c ≡ 0
          no-bell zero x = x
          no-bell (suc m) x = absurd (let u = (h.rung c (omega arith)).0.called in let z = (sleeping (e ∙ i)).called in cc)

  pub owed-call : Owed form w'
  owed-call = owed-by (asleep (w.node c)) refl
