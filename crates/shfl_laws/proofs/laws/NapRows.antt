-- The laws of Doze, Hear and Rouse: no wakeup is lost.
use Rattle.std.proofs.Common.{◌≡◌, ◌≢◌, ℕ, ◌<◌, ◌≤◌, ◌==◌, Bool, true, false, cond, refl, sym, ap, ◌∙◌, subst, arith}
use Rattle.std.specs.Prelude.{bit_and, bit_or}
use Rattle.std.proofs.lemmas.Bool.Decides.{nat_tests}
use Rattle.shfl_line.specs.declared.events.Form.{Form}
use Rattle.shfl_line.specs.Words.{state_of}
use Rattle.shfl_line.specs.Passes.{updated}
use Rattle.shfl_line.proofs.Chain
use Rattle.shfl_core.specs.declared.phase.Phase.{Phase}
use Rattle.shfl_core.specs.declared.phase.Phase.TheVariants.{Look}
use Rattle.shfl_core.specs.declared.phase.Nap.{Nap}
use Rattle.shfl_core.specs.declared.phase.Nap.TheVariants.{Awake, Doze, Hear, Rouse, Ring}
use Rattle.shfl_core.specs.declared.words.Word.TheVariants.{State, Bell}
use Rattle.shfl_line.specs.declared.events.LineEvent.TheVariants.{Nothing}
use Rattle.shfl_core.specs.Words.{look}
use Rattle.shfl_core.specs.Plan.{parks}
use Rattle.shfl_core.specs.Worlds.{known}
use Rattle.shfl_core.specs.View.{View, view}
use Rattle.shfl_core.specs.Owed.{Owed, IsCalledSleeper, called, announces, fits}
use Rattle.shfl_core.specs.Lawful.{Terms, Agrees, NapLawOf}
use Rattle.shfl_laws.proofs.words.Advance.{at-nap, advance-state, advance-bell, below-count}
use Rattle.shfl_laws.proofs.words.StateBits.{or-parked, and-parked}
use Rattle.shfl_laws.proofs.kept.Slept.{slept, slept-agrees, slept-state, slept-bell, naps_at, parked_at}

-- what a step of the pass p that neither sets a wakeup word nor is about to must show
pub record Naps (form : Form) (w : View) (p : ℕ) (x : Nap) (y : Bool) (bells : ℕ → ℕ) : Type 0 where
  pub before : (q : ℕ) → (w.pass p).nap ≢ Ring q
  pub now : (q : ℕ) → x ≢ Ring q
  pub place : fits x (w.pass p).phase ≡ true
  pub announced : y ≡ announces x
  pub roused : x ≡ Rouse → called (w.node p) ≡ true
  pub parking : parks form ≡ false → ⊥
  pub others : (q : ℕ) → q ≢ p → bells q ≡ w.bell q
  pub owed : x ≡ Hear → called (w.node p) ≡ true → bells p ≡ 0 → (r : ℕ) × ((w.pass r).nap ≡ Ring p)
  pub rung : 0 < bells p → (x ≡ Hear) × (called (w.node p) ≡ true) × ((r : ℕ) → (w.pass r).nap ≢ Ring p)
  pub rings : (r : ℕ) → (w.pass r).nap ≡ Ring p → (x ≡ Hear) × (called (w.node p) ≡ true) × (bells p ≡ 0)

module _ (form : Form) (w : View) (p : ℕ) (x : Nap) (y : Bool) (bells : ℕ → ℕ) (h : Owed form w) (k : Naps form w p x y bells) where
  nap-else : (q : ℕ) → q ≢ p → naps_at w p x q ≡ (w.pass q).nap
  nap-else q n = Chain.updated-else (λ z. (w.pass z).nap) p q x n

  nap-here : naps_at w p x p ≡ x
  nap-here = Chain.updated-same (λ z. (w.pass z).nap) p x

  abbrev then : View
  then = slept w (naps_at w p x) (parked_at w p y) bells

  -- who is about to set a wakeup word
  ring-old : (r q : ℕ) → naps_at w p x r ≡ Ring q → (w.pass r).nap ≡ Ring q
  ring-old r q e = Chain.by_eq r p
      (λ i. absurd (k.now q (sym nap-here ∙ (subst (λ z. naps_at w p x z ≡ Ring q) i e))))
      (λ n. sym (nap-else r n) ∙ e)

  ring-new : (r q : ℕ) → (w.pass r).nap ≡ Ring q → naps_at w p x r ≡ Ring q
  ring-new r q e = nap-else r (λ i. k.before q (subst (λ z. (w.pass z).nap ≡ Ring q) i e)) ∙ e

  sleeper-new : (q : ℕ) → q ≢ p → IsCalledSleeper w q → IsCalledSleeper then q
  sleeper-new q n c = record { sleeps = nap-else q n ∙ c.sleeps; called = c.called }

  sleeper-old : (q : ℕ) → q ≢ p → IsCalledSleeper then q → IsCalledSleeper w q
  sleeper-old q n c = record { sleeps = sym (nap-else q n) ∙ c.sleeps; called = c.called }

  -- the pass itself as a sleeper
  here-new : x ≡ Hear → called (w.node p) ≡ true → IsCalledSleeper then p
  here-new e c = record { sleeps = nap-here ∙ e; called = c }

  pub napped : Owed form then
  napped = record {
    places = Chain.updated-all (λ q z. fits z (w.pass q).phase ≡ true) (λ z. (w.pass z).nap) p x k.place (λ q n. h.places q);
    parked = λ q. Chain.by_eq q p
        (λ i. subst (λ z. parked_at w p y z ≡ announces (naps_at w p x z)) (sym i) (Chain.updated-same (λ z. (w.node z).parked) p y ∙ (k.announced ∙ ap announces (sym nap-here))))
        (λ n. Chain.updated-else (λ z. (w.node z).parked) p q y n ∙ (h.parked q ∙ ap announces (sym (nap-else q n))));
    roused = Chain.updated-all (λ q z. z ≡ Rouse → called (w.node q) ≡ true) (λ z. (w.pass z).nap) p x k.roused (λ q n. h.roused q);
    spinning = λ s. absurd (k.parking s);
    told = h.told;
    grouped = h.grouped;
    fresh = h.fresh;
    owed = λ q. Chain.by_eq q p
        (λ i. subst (λ z. IsCalledSleeper then z → bells z ≡ 0 → (r : ℕ) × (naps_at w p x r ≡ Ring z)) (sym i)
        (λ c e. let t = k.owed (sym nap-here ∙ c.sleeps) c.called e in (t.0, ring-new t.0 p t.1)))
        (λ n c e. let t = h.owed q (sleeper-old q n c) (sym (k.others q n) ∙ e) in (t.0, ring-new t.0 q t.1));
    one = λ q a b c d. h.one q a b (ring-old a q c) (ring-old b q d);
    rung = λ q. Chain.by_eq q p
        (λ i. subst (λ z. 0 < bells z → IsCalledSleeper then z × ((r : ℕ) → naps_at w p x r ≢ Ring z)) (sym i)
        (λ e. let t = k.rung e in (here-new t.0 t.1, λ r f. t.2 r (ring-old r p f))))
        (λ n e. let t = h.rung q (subst (λ z. 0 < z) (k.others q n) e) in (sleeper-new q n t.0, λ r f. t.1 r (ring-old r q f)));
    rings = λ r q e. (let old = ring-old r q e in Chain.by_eq q p
        (λ i. subst (λ z. IsCalledSleeper then z × (bells z ≡ 0)) (sym i) (let t = k.rings r (old ∙ ap Ring i) in (here-new t.0 t.1, t.2)))
        (λ n. let t = h.rings r q old in (sleeper-new q n t.0, k.others q n ∙ t.1)));
  }

-- a park state fits at Look alone, but those of a pass that is awake or about to wake another
at-look : (f : Phase) → fits Doze f ≡ true → f ≡ Look
at-look f e = grind arith

hears-look : (f : Phase) → fits Hear f ≡ true → f ≡ Look
hears-look f e = grind arith

-- whoever parks is in a form with parking
pub must-park : (form : Form) (w : View) (p : ℕ) → Owed form w → (w.pass p).nap ≢ Awake → parks form ≡ false → ⊥
must-park form w p h n s = n (h.spinning s p).0

doze-naps : (form : Form) (w : View) (p : ℕ) → Owed form w → (w.pass p).nap ≡ Doze → Naps form w p (cond (called (w.node p)) Rouse Hear) true w.bell
doze-naps form w p h was = let f = at-look (w.pass p).phase (ap (λ z. fits z (w.pass p).phase) (sym was) ∙ h.places p) in record {
  before = λ q e. absurd (cc);
  now = λ q. by-now (called (w.node p)) q;
  place = ap (fits (cond (called (w.node p)) Rouse Hear)) f ∙ by-place (called (w.node p));
  announced = by-announced (called (w.node p));
  roused = by-roused (called (w.node p));
  parking = must-park form w p h (λ e. absurd (cc));
  others = λ q n. refl;
  owed = λ e c. absurd (by-hear (called (w.node p)) e c);
  rung = λ e. absurd (let t = (h.rung p e).0.sleeps in cc);
  rings = λ r e. absurd (let t = (h.rings r p e).0.sleeps in cc);
}
  where
    by-now : (b : Bool) (q : ℕ) → cond b Rouse Hear ≢ Ring q
    by-now true q e = absurd (cc)
    by-now false q e = absurd (cc)

    by-place : (b : Bool) → fits (cond b Rouse Hear) Look ≡ true
    by-place true = refl
    by-place false = refl

    by-announced : (b : Bool) → true ≡ announces (cond b Rouse Hear)
    by-announced true = refl
    by-announced false = refl

    by-roused : (b : Bool) → cond b Rouse Hear ≡ Rouse → b ≡ true
    by-roused true e = refl
    by-roused false e = absurd (cc)

    by-hear : (b : Bool) → cond b Rouse Hear ≡ Hear → b ≡ true → ⊥
    by-hear true e c = cc
    by-hear false e c = cc

hear-naps : (form : Form) (w : View) (p n : ℕ) → Owed form w → (w.pass p).nap ≡ Hear → w.bell p ≡ n → n ≤ 1 → (b : Bool) → (n == 1) ≡ b → Naps form w p (cond b Rouse Hear) (w.node p).parked (updated w.bell p 0)
hear-naps form w p n h was bell few true i = let one : 0 < w.bell p = grind (arith, nat_tests) in record {
  before = λ q e. absurd (cc);
  now = λ q e. absurd (cc);
  place = ap (fits Rouse) (hears-look (w.pass p).phase (ap (λ z. fits z (w.pass p).phase) (sym was) ∙ h.places p));
  announced = h.parked p ∙ ap announces was;
  roused = λ _. (h.rung p one).0.called;
  parking = must-park form w p h (λ e. absurd (cc));
  others = λ q m. Chain.updated-else w.bell p q 0 m;
  owed = λ e. absurd (cc);
  rung = λ e. absurd (let z = Chain.updated-same w.bell p 0 in omega arith);
  rings = λ r e. absurd ((h.rung p one).1 r e);
}
hear-naps form w p n h was bell few false i = let none : w.bell p ≡ 0 = grind (arith, nat_tests) in record {
  before = λ q e. absurd (cc);
  now = λ q e. absurd (cc);
  place = ap (fits Hear) (hears-look (w.pass p).phase (ap (λ z. fits z (w.pass p).phase) (sym was) ∙ h.places p));
  announced = h.parked p ∙ ap announces was;
  roused = λ e. absurd (cc);
  parking = must-park form w p h (λ e. absurd (cc));
  others = λ q m. Chain.updated-else w.bell p q 0 m;
  owed = λ e c _. h.owed p (record { sleeps = was; called = c }) none;
  rung = λ e. absurd (let z = Chain.updated-same w.bell p 0 in omega arith);
  rings = λ r e. let t = h.rings r p e in (refl, t.0.called, Chain.updated-same w.bell p 0);
}

rouse-naps : (form : Form) (w : View) (p : ℕ) → Owed form w → (w.pass p).nap ≡ Rouse → Naps form w p Awake false w.bell
rouse-naps form w p h was = record {
  before = λ q e. absurd (cc);
  now = λ q e. absurd (cc);
  place = refl;
  announced = refl;
  roused = λ e. absurd (cc);
  parking = must-park form w p h (λ e. absurd (cc));
  others = λ q n. refl;
  owed = λ e. absurd (cc);
  rung = λ e. absurd (let t = (h.rung p e).0.sleeps in cc);
  rings = λ r e. absurd (let t = (h.rings r p e).0.sleeps in cc);
}

pub doze-law : (t : Terms) → NapLawOf t Doze
doze-law t = at-nap t Doze (λ w p c ok below nap.
    let s = or-parked (look w.words (State p)) (ok.formed (State p)) in
    let k = doze-naps t.rules.form (view w) p ok.agrees.owed nap in
    advance-state t w ok p below (record (known w.passes p) { nap = cond (called (state_of (look w.words (State p)))) Rouse Hear }) Nothing ok.giver refl tt tt p (bit_or (look w.words (State p)) 4) (below-count t w ok p below) s.form
    (subst (λ (z : View). Agrees t z ok.shown ok.giver) (slept-state (view w) p (bit_or (look w.words (State p)) 4) (cond (called (state_of (look w.words (State p)))) Rouse Hear) true s.is)
    (slept-agrees (view w) (naps_at (view w) p (cond (called (state_of (look w.words (State p)))) Rouse Hear)) (parked_at (view w) p true) (view w).bell t ok.shown ok.giver ok.agrees
    (napped t.rules.form (view w) p (cond (called (state_of (look w.words (State p)))) Rouse Hear) true (view w).bell ok.agrees.owed k))))

pub rouse-law : (t : Terms) → NapLawOf t Rouse
rouse-law t = at-nap t Rouse (λ w p c ok below nap.
    let s = and-parked (look w.words (State p)) (ok.formed (State p)) in
    let k = rouse-naps t.rules.form (view w) p ok.agrees.owed nap in
    advance-state t w ok p below (record (known w.passes p) { nap = Awake }) Nothing ok.giver refl tt tt p (bit_and (look w.words (State p)) 18446744073709551611) (below-count t w ok p below) s.form
    (subst (λ (z : View). Agrees t z ok.shown ok.giver) (slept-state (view w) p (bit_and (look w.words (State p)) 18446744073709551611) Awake false s.is)
    (slept-agrees (view w) (naps_at (view w) p Awake) (parked_at (view w) p false) (view w).bell t ok.shown ok.giver ok.agrees
    (napped t.rules.form (view w) p Awake false (view w).bell ok.agrees.owed k))))

pub hear-law : (t : Terms) → NapLawOf t Hear
hear-law t = at-nap t Hear (λ w p c ok below nap.
    let n = look w.words (Bell p) in
    let x = cond (n == 1) Rouse Hear in
    let k = hear-naps t.rules.form (view w) p n ok.agrees.owed nap refl (ok.formed (Bell p)) (n == 1) refl in
    advance-bell t w ok p below (record (known w.passes p) { nap = cond (look w.words (Bell p) == 1) Rouse Hear }) Nothing ok.giver refl tt tt p 0 (below-count t w ok p below) (omega arith)
    (subst (λ (z : View). Agrees t z ok.shown ok.giver) (slept-bell (view w) p p 0 (cond (look w.words (Bell p) == 1) Rouse Hear))
    (slept-agrees (view w) (naps_at (view w) p (cond (look w.words (Bell p) == 1) Rouse Hear)) (parked_at (view w) p ((view w).node p).parked) (updated (view w).bell p 0) t ok.shown ok.giver ok.agrees
    (napped t.rules.form (view w) p (cond (look w.words (Bell p) == 1) Rouse Hear) ((view w).node p).parked (updated (view w).bell p 0) ok.agrees.owed k))))
