-- Parking in plain words is parking as the invariant has it.
use Rattle.std.proofs.Common.{◌≡◌, ℕ, ◌<◌, Bool, true, false, ◌||◌, refl, sym, ap, ◌∙◌, ◌⊎◌, inl, inr, subst, arith}
use Rattle.shfl_line.specs.declared.events.Form.{Form}
use Rattle.shfl_line.specs.Words.{spin_of, parked_of}
use Rattle.shfl_core.specs.declared.phase.Phase.{Phase}
use Rattle.shfl_core.specs.declared.phase.Phase.TheVariants.{Swap, Look, Held, Give, Next}
use Rattle.shfl_core.specs.declared.phase.Nap.{Nap}
use Rattle.shfl_core.specs.declared.phase.Nap.TheVariants.{Awake, Doze, Hear, Rouse, Ring}
use Rattle.shfl_core.specs.declared.phase.PassState.{PassState}
use Rattle.shfl_core.specs.declared.words.Word.TheVariants.{State}
use Rattle.shfl_core.specs.Words.{look}
use Rattle.shfl_core.specs.Plan.{parks}
use Rattle.shfl_core.specs.Worlds.{World, known}
use Rattle.shfl_core.specs.View.{View, view}
use Rattle.shfl_core.specs.Owed.{called, announces, fits, IsCalledSleeper, Owed}
use Rattle.shfl_laws.specs.Headline.{IsQueued, batch}
use Rattle.shfl_laws.specs.PlainOwed.{IsToldOn, SleepsToldOn, WakesAt, PlainOwed}

pub both-or : (a b : Bool) → (a || b) ≡ true → (a ≡ true) ⊎ (b ≡ true)
both-or true b e = inl refl
both-or false b e = inr e

pub or-both : (a b : Bool) → (a ≡ true) ⊎ (b ≡ true) → (a || b) ≡ true
or-both true b e = refl
or-both false b (inl e) = absurd (cc)
or-both false b (inr e) = e

-- two tests are equal where each follows from the other
pub same-test : (a b : Bool) → (a ≡ true → b ≡ true) → (b ≡ true → a ≡ true) → a ≡ b
same-test true b f g = sym (f refl)
same-test false true f g = g refl
same-test false false f g = refl

look-doze : (f : Phase) → fits Doze f ≡ true → f ≡ Look
look-doze f e = grind arith

look-hear : (f : Phase) → fits Hear f ≡ true → f ≡ Look
look-hear f e = grind arith

look-rouse : (f : Phase) → fits Rouse f ≡ true → f ≡ Look
look-rouse f e = grind arith

wakes-at : (p : ℕ) (f : Phase) → fits (Ring p) f ≡ true → WakesAt f
wakes-at p Held e = inl refl
wakes-at p Give e = inr (inl refl)
wakes-at p Next e = inr (inr refl)
wakes-at p _ e = absurd (cc)

announced : (n : Nap) → announces n ≡ true → (n ≡ Hear) ⊎ (n ≡ Rouse)
announced Hear e = inl refl
announced Rouse e = inr refl
announced _ e = absurd (cc)

announcing : (n : Nap) → (n ≡ Hear) ⊎ (n ≡ Rouse) → announces n ≡ true
announcing n (inl e) = ap announces e
announcing n (inr e) = ap announces e

-- a sleeper isn't about to wake another
no-ring : (n : Nap) (p : ℕ) → n ≡ Hear → n ≡ Ring p → ⊥
no-ring n p e f = grind arith

module _ (form : Form) (w : World) where
  abbrev pass : ℕ → PassState
  pass p = known w.passes p

  abbrev v : View
  v = view w

  told-on : (p : ℕ) → called (v.node p) ≡ true → IsToldOn w p
  told-on p e = both-or (v.node p).ready (v.node p).spin e

  sleeps-told : (p : ℕ) → IsCalledSleeper v p → SleepsToldOn w p
  sleeps-told p s = record { sleeps = s.sleeps; told = told-on p s.called }

  calls : (p : ℕ) → IsToldOn w p → called (v.node p) ≡ true
  calls p e = or-both (v.node p).ready (v.node p).spin e

  called-sleeper : (p : ℕ) → SleepsToldOn w p → IsCalledSleeper v p
  called-sleeper p s = record { sleeps = s.sleeps; called = calls p s.told }

  pub plain-owed : Owed form v → PlainOwed form w
  plain-owed o = record {
    dozes = λ p e. look-doze (pass p).phase (fit p Doze e);
    sleeps = λ p e. look-hear (pass p).phase (fit p Hear e);
    rouses = λ p e. look-rouse (pass p).phase (fit p Rouse e);
    wakes = λ r p e. wakes-at p (pass r).phase (fit r (Ring p) e);
    never = λ f p. (let s = o.spinning f p in record { awake = s.0; parked = o.parked p ∙ ap announces s.0; spin = s.1; bell = s.2 });
    parked = λ p. ((λ e. announced (pass p).nap (sym (o.parked p) ∙ e)), (λ e. o.parked p ∙ announcing (pass p).nap e));
    roused = λ p e. told-on p (o.roused p e);
    grouped = λ f p q e. o.told p q e;
    spins = λ f p q e. o.grouped f p q.queued q.rear e;
    owed = λ p s e. (let r = o.owed p (called-sleeper p s) e in record {
      who = r.0;
      rings = r.1;
      other = λ i. no-ring (pass p).nap p s.sleeps (subst (λ z. (pass z).nap ≡ Ring p) i r.1);
      only = λ q f. o.one p q r.0 f r.1;
    });
    rung = λ p e. (let r = o.rung p e in (sleeps-told p r.0, r.1));
    rings = λ r p e. (let s = o.rings r p e in (sleeps-told p s.0, s.1));
  }
    where
      fit : (p : ℕ) (n : Nap) → (pass p).nap ≡ n → fits n (pass p).phase ≡ true
      fit p n e = sym (ap (λ m. fits m (pass p).phase) e) ∙ o.places p

  pub owed-plain : PlainOwed form w → ((p : ℕ) → (pass p).phase ≡ Swap → look w.words (State p) ≡ 0) → Owed form v
  owed-plain h cleared = record {
    places = λ p. place p (pass p).nap refl;
    parked = λ p. same-test (parked_of (look w.words (State p))) (announces (pass p).nap)
        (λ e. announcing (pass p).nap ((h.parked p).0 e)) (λ e. (h.parked p).1 (announced (pass p).nap e));
    roused = λ p e. calls p (h.roused p e);
    spinning = λ f p. (let n = h.never f p in (n.awake, n.spin, n.bell));
    told = λ p q e. told p q e (parks form) refl;
    grouped = λ f p q i e. h.spins f p (record { queued = q; rear = i }) e;
    fresh = λ p e. ap spin_of (cleared p e);
    owed = λ p s e. (let r = h.owed p (sleeps-told p s) e in (r.who, r.rings));
    one = λ p a b e f. (let s = h.rings a p e in let r = h.owed p s.0 s.1 in r.only a e ∙ sym (r.only b f));
    rung = λ p e. (let r = h.rung p e in (called-sleeper p r.0, r.1));
    rings = λ r p e. (let s = h.rings r p e in (called-sleeper p s.0, s.1));
  }
    where
      place : (p : ℕ) (n : Nap) → (pass p).nap ≡ n → fits (pass p).nap (pass p).phase ≡ true
      place p Awake e = ap (λ m. fits m (pass p).phase) e
      place p Doze e = λ j. fits (e j) (h.dozes p e j)
      place p Hear e = λ j. fits (e j) (h.sleeps p e j)
      place p Rouse e = λ j. fits (e j) (h.rouses p e j)
      place p (Ring q) e = ap (λ m. fits m (pass p).phase) e ∙ at q (pass p).phase (h.wakes p q e)
        where
          at : (q : ℕ) (f : Phase) → WakesAt f → fits (Ring q) f ≡ true
          at q f (inl i) = ap (fits (Ring q)) i
          at q f (inr (inl i)) = ap (fits (Ring q)) i
          at q f (inr (inr i)) = ap (fits (Ring q)) i

      told : (p : ℕ) → IsQueued w p → spin_of (look w.words (State p)) ≡ true → (b : Bool) → parks form ≡ b → 0 < batch w p
      told p q e true f = h.grouped f p q e
      told p q e false f = absurd (let n = (h.never f p).spin in cc)
