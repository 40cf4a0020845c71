-- The law of Ring: a pass sets the wakeup word of another.
use Rattle.std.proofs.Common.{◌≡◌, ◌≢◌, ℕ, ◌<◌, true, List, length, refl, sym, ap, ◌∙◌, subst, ⊎_elim, arith}
use Rattle.std.proofs.lemmas.Bool.{cases_lt}
use Rattle.std.proofs.lemmas.List.{get_or_past}
use Rattle.shfl_line.specs.declared.events.Form.{Form}
use Rattle.shfl_line.specs.Passes.{updated}
use Rattle.shfl_line.proofs.Chain
use Rattle.shfl_core.specs.declared.phase.Nap.TheVariants.{Awake, Hear, Rouse, Ring}
use Rattle.shfl_core.specs.declared.phase.PassState.{PassState}
use Rattle.shfl_line.specs.declared.events.LineEvent.TheVariants.{Nothing}
use Rattle.shfl_core.specs.Waiting.{idle}
use Rattle.shfl_core.specs.Worlds.{known}
use Rattle.shfl_core.specs.View.{View, view}
use Rattle.shfl_core.specs.Owed.{Owed, IsCalledSleeper, called, announces, fits}
use Rattle.shfl_core.specs.Lawful.{Terms, Agrees, NapLawOf}
use Rattle.shfl_laws.proofs.words.Advance.{at-nap, advance-bell, below-count}
use Rattle.shfl_laws.proofs.kept.Slept.{slept, slept-agrees, slept-bell, naps_at, parked_at}
use Rattle.shfl_laws.proofs.laws.NapRows.{must-park}

-- the pass p sets the wakeup word of whom, and is awake
module _ (form : Form) (w : View) (p whom : ℕ) (h : Owed form w) (was : (w.pass p).nap ≡ Ring whom) where
  waked : (q : ℕ) → q ≢ p → naps_at w p Awake q ≡ (w.pass q).nap
  waked q n = Chain.updated-else (λ z. (w.pass z).nap) p q Awake n

  here-awake : naps_at w p Awake p ≡ Awake
  here-awake = Chain.updated-same (λ z. (w.pass z).nap) p Awake

  abbrev rang : View
  rang = slept w (naps_at w p Awake) (parked_at w p (w.node p).parked) (updated w.bell whom 1)

  -- no other pass is about to do so
  ring-past : (r q : ℕ) → naps_at w p Awake r ≡ Ring q → (r ≢ p) × ((w.pass r).nap ≡ Ring q)
  ring-past r q e = let n : r ≢ p = λ i. (let a : naps_at w p Awake p ≡ Ring q = subst (λ z. naps_at w p Awake z ≡ Ring q) i e in let b = here-awake in cc) in (n, sym (waked r n) ∙ e)

  ring-other : (r q : ℕ) → naps_at w p Awake r ≡ Ring q → q ≢ whom
  ring-other r q e i = let t = ring-past r q e in t.0 (h.one whom r p (t.1 ∙ ap Ring i) was)

  not-sleeper : (q : ℕ) → IsCalledSleeper w q → q ≢ p
  not-sleeper q c i = let a : (w.pass p).nap ≡ Hear = subst (λ z. (w.pass z).nap ≡ Hear) i c.sleeps in cc

  kept : (q : ℕ) → IsCalledSleeper w q → IsCalledSleeper rang q
  kept q c = record { sleeps = waked q (not-sleeper q c) ∙ c.sleeps; called = c.called }

  past : (q : ℕ) → IsCalledSleeper rang q → IsCalledSleeper w q
  past q c = record { sleeps = sym (waked q (λ i. (let a : naps_at w p Awake p ≡ Hear = subst (λ z. naps_at w p Awake z ≡ Hear) i c.sleeps in let b = here-awake in cc))) ∙ c.sleeps; called = c.called }

  rung-owed : Owed form rang
  rung-owed = record {
    places = Chain.updated-all (λ q z. fits z (w.pass q).phase ≡ true) (λ z. (w.pass z).nap) p Awake refl (λ q n. h.places q);
    parked = λ q. Chain.updated-all (λ z b. b ≡ (w.node z).parked) (λ z. (w.node z).parked) p (w.node p).parked refl (λ z n. refl) q ∙ Chain.by_eq q p
        (λ i. subst (λ z. (w.node z).parked ≡ announces (naps_at w p Awake z)) (sym i) (h.parked p ∙ (ap announces was ∙ ap announces (sym here-awake))))
        (λ n. h.parked q ∙ ap announces (sym (waked q n)));
    roused = Chain.updated-all (λ q z. z ≡ Rouse → called (w.node q) ≡ true) (λ z. (w.pass z).nap) p Awake (λ e. absurd (cc)) (λ q n. h.roused q);
    spinning = λ s. absurd (must-park form w p h (λ e. absurd (cc)) s);
    told = h.told;
    grouped = h.grouped;
    fresh = h.fresh;
    owed = λ q c e. (let n : q ≢ whom = λ i. (let a : updated w.bell whom 1 whom ≡ 0 = subst (λ z. updated w.bell whom 1 z ≡ 0) i e in let b = Chain.updated-same w.bell whom 1 in omega arith) in
        let t = h.owed q (past q c) (sym (Chain.updated-else w.bell whom q 1 n) ∙ e) in
        let m : t.0 ≢ p = λ i. n (let a : (w.pass p).nap ≡ Ring q = subst (λ z. (w.pass z).nap ≡ Ring q) i t.1 in let b : Ring q ≡ Ring whom = sym a ∙ was in cc) in
        (t.0, waked t.0 m ∙ t.1));
    one = λ q a b c d. h.one q a b (ring-past a q c).1 (ring-past b q d).1;
    rung = λ q. Chain.by_eq q whom
        (λ i. subst (λ z. 0 < updated w.bell whom 1 z → IsCalledSleeper rang z × ((r : ℕ) → naps_at w p Awake r ≢ Ring z)) (sym i)
        (λ e. (kept whom (h.rings p whom was).0, λ r f. ring-other r whom f refl)))
        (λ n e. let t = h.rung q (subst (λ z. 0 < z) (Chain.updated-else w.bell whom q 1 n) e) in (kept q t.0, λ r f. t.1 r (ring-past r q f).1));
    rings = λ r q e. let t = h.rings r q (ring-past r q e).1 in (kept q t.0, Chain.updated-else w.bell whom q 1 (ring-other r q e) ∙ t.1);
  }

-- a pass that isn't awake is one of the lock's
sleepy-in : (l : List PassState) (q : ℕ) → (known l q).nap ≢ Awake → q < length l
sleepy-in l q n = ⊎_elim (λ h. h) (λ h. absurd (n (ap (λ (z : PassState). z.nap) (get_or_past l q (idle q) h)))) (cases_lt q (length l))

pub ring-law : (t : Terms) (whom : ℕ) → NapLawOf t (Ring whom)
ring-law t whom = at-nap t (Ring whom) (λ w p c ok below nap.
    let sleeps = (ok.agrees.owed.rings p whom nap).0.sleeps in
    let in-lock : whom < length w.passes = sleepy-in w.passes whom (λ e. absurd (cc)) in
    advance-bell t w ok p below (record (known w.passes p) { nap = Awake }) Nothing ok.giver refl tt tt whom 1 (below-count t w ok whom in-lock) (omega arith)
    (subst (λ (z : View). Agrees t z ok.shown ok.giver) (slept-bell (view w) p whom 1 Awake)
    (slept-agrees (view w) (naps_at (view w) p Awake) (parked_at (view w) p ((view w).node p).parked) (updated (view w).bell whom 1) t ok.shown ok.giver ok.agrees
    (rung-owed t.rules.form (view w) p whom ok.agrees.owed nap))))
