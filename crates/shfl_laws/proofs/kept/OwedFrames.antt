-- Parking, where a pass goes on awake and stays in its class.
use Rattle.std.proofs.Common.{◌≡◌, ℕ, ◌<◌, true, false, refl, sym, ap, ◌∙◌, subst}
use Rattle.shfl_line.specs.declared.events.Form.{Form}
use Rattle.shfl_line.specs.declared.words.NodeState.{NodeState}
use Rattle.shfl_line.specs.Passes.{updated}
use Rattle.shfl_line.proofs.Chain
use Rattle.shfl_core.specs.declared.phase.Phase.TheVariants.{Swap}
use Rattle.shfl_core.specs.declared.phase.Nap.TheVariants.{Awake}
use Rattle.shfl_core.specs.declared.phase.PassState.{PassState}
use Rattle.shfl_core.specs.Plan.{parks}
use Rattle.shfl_core.specs.Phases.{is_queued, is_fore}
use Rattle.shfl_core.specs.View.{View}
use Rattle.shfl_core.specs.Owed.{Owed, IsCalledSleeper, announces, fits}

-- what an awake pass has to show at its new place
pub record Awoken (form : Form) (node : ℕ → NodeState) (p : ℕ) (v : PassState) : Type 0 where
  pub awake : v.nap ≡ Awake
  pub told : is_queued v ≡ true → (node p).spin ≡ true → 0 < (node p).batch
  pub grouped : parks form ≡ true → is_queued v ≡ true → is_fore v ≡ false → 0 < (node p).batch → (node p).spin ≡ true
  pub fresh : v.phase ≡ Swap → (node p).spin ≡ false

module _ (form : Form) (w w' : View) (p : ℕ) (v : PassState) (nodes : w'.node ≡ w.node) (bells : w'.bell ≡ w.bell) (passes : w'.pass ≡ updated w.pass p v) (was : (w.pass p).nap ≡ Awake) (h : Owed form w) (o : Awoken form w.node p v) where
  nap-same : (r : ℕ) → (updated w.pass p v r).nap ≡ (w.pass r).nap
  nap-same = Chain.updated-all (λ q t. t.nap ≡ (w.pass q).nap) w.pass p v (o.awake ∙ sym was) (λ q n. refl)

  forward : (q : ℕ) → IsCalledSleeper w q → IsCalledSleeper (record w { pass = updated w.pass p v }) q
  forward q c = record { sleeps = nap-same q ∙ c.sleeps; called = c.called }

  backward : (q : ℕ) → IsCalledSleeper (record w { pass = updated w.pass p v }) q → IsCalledSleeper w q
  backward q c = record { sleeps = sym (nap-same q) ∙ c.sleeps; called = c.called }

  awake-same : Owed form (record w { pass = updated w.pass p v })
  awake-same = record {
    places = Chain.updated-all (λ q t. fits t.nap t.phase ≡ true) w.pass p v (ap (λ z. fits z v.phase) o.awake) (λ q n. h.places q);
    parked = λ q. h.parked q ∙ ap announces (sym (nap-same q));
    roused = λ q e. h.roused q (sym (nap-same q) ∙ e);
    spinning = λ s q. let t = h.spinning s q in (nap-same q ∙ t.0, t.1, t.2);
    told = Chain.updated-all (λ q t. is_queued t ≡ true → (w.node q).spin ≡ true → 0 < (w.node q).batch) w.pass p v o.told (λ q n. h.told q);
    grouped = λ s. Chain.updated-all (λ q t. is_queued t ≡ true → is_fore t ≡ false → 0 < (w.node q).batch → (w.node q).spin ≡ true) w.pass p v (o.grouped s) (λ q n. h.grouped s q);
    fresh = Chain.updated-all (λ q t. t.phase ≡ Swap → (w.node q).spin ≡ false) w.pass p v o.fresh (λ q n. h.fresh q);
    owed = λ q c e. let t = h.owed q (backward q c) e in (t.0, nap-same t.0 ∙ t.1);
    one = λ q a b x y. h.one q a b (sym (nap-same a) ∙ x) (sym (nap-same b) ∙ y);
    rung = λ q e. let t = h.rung q e in (forward q t.0, λ r x. t.1 r (sym (nap-same r) ∙ x));
    rings = λ r q e. let t = h.rings r q (sym (nap-same r) ∙ e) in (forward q t.0, t.1);
  }

  -- the state words and the wakeup words stay
  pub owed-awake : Owed form w'
  owed-awake = subst (λ (z : (ℕ → NodeState) × (ℕ → ℕ) × (ℕ → PassState)). Owed form (record w' { node = z.0; bell = z.1; pass = z.2 })) (λ j. (sym nodes j, sym bells j, sym passes j)) (reads w' awake-same)
    where
      reads : (x : View) → Owed form (record w { pass = updated w.pass p v }) → Owed form (record x { node = w.node; bell = w.bell; pass = updated w.pass p v })
      reads x k = record {
        places = k.places;
        parked = k.parked;
        roused = k.roused;
        spinning = k.spinning;
        told = k.told;
        grouped = k.grouped;
        fresh = k.fresh;
        owed = λ q c e. k.owed q (record { sleeps = c.sleeps; called = c.called }) e;
        one = k.one;
        rung = λ q e. let t = k.rung q e in (record { sleeps = t.0.sleeps; called = t.0.called }, t.1);
        rings = λ r q e. let t = k.rings r q e in (record { sleeps = t.0.sleeps; called = t.0.called }, t.1);
      }
