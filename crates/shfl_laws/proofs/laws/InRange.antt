-- In a lawful world the word that a pass plans to touch is there, and what is told of it has its form.
use Rattle.std.proofs.Common.{◌≡◌, ℕ, ◌<◌, Bool, true, false, cond, length, refl, sym, ap, ◌∙◌, subst, ⊎_elim, arith}
use Rattle.shfl_core.specs.declared.phase.Phase.{Phase}
use Rattle.shfl_core.specs.declared.phase.Phase.TheVariants.{Idle, Steal, Init, Swap, Link, Close, Look, Begin, Next, Tail, Attr, Decide, After, Pick, Aim, Place, Mark, Give, Peek, Grab, WriteGrab, Take, Cut, Late, Ready, Open, Held, Release, Count, Uncount, TryUncount, HeadCount, HeadLook, ReadRelease}
use Rattle.shfl_core.specs.declared.phase.Nap.{Nap}
use Rattle.shfl_core.specs.declared.phase.Nap.TheVariants.{Awake, Doze, Hear, Rouse, Ring}
use Rattle.shfl_core.specs.declared.phase.PassState.{PassState}
use Rattle.shfl_core.specs.declared.words.Word.TheVariants.{Lock, State as StateOf}
use Rattle.shfl_core.specs.declared.words.Access.{Access}
use Rattle.shfl_core.specs.Words.{look, index, site, wide, told}
use Rattle.shfl_core.specs.Plan.{plan, plan_at, plan_by}
use Rattle.shfl_core.specs.Waiting.{idle}
use Rattle.shfl_core.specs.Worlds.{World, known}
use Rattle.shfl_core.specs.Phases.{is_round, tail_to_pick, has_hand}
use Rattle.shfl_core.specs.View.{view}
use Rattle.shfl_core.specs.Lawful.{Terms, count, Lawful, Formed, InRange}
use Rattle.shfl_core.proofs.Blind.{told-found, formed-names}
use Rattle.shfl_core.proofs.Lists.{seen-at, past, below-or}
use Rattle.shfl_laws.specs.Seen.{InRangeLaw, ToldLaw, ToldNames, BellsInRange}
use Rattle.shfl_laws.proofs.words.Advance.{below-count}
use Rattle.shfl_laws.proofs.rows.Leave.{link-room}
use Rattle.shfl_laws.proofs.laws.NextRows.{queued-below, named, hand-there}
use Rattle.shfl_laws.proofs.rows.ReadyRow.{heir-in}
use Rattle.shfl_laws.proofs.laws.RoundReads.{prev-there, cand-there}

module _ (t : Terms) (w : World) (p : ℕ) (ok : Lawful t w) (below : p < length w.passes) where
  abbrev q : PassState
  q = known w.passes p

  own : p < count t
  own = below-count t w ok p below

  module _ (nap : q.nap ≡ Awake) where
    last-there : is_round q.phase ≡ true → q.reg.last < count t
    last-there r = ok.of_passes.line q.reg.last (ok.agrees.grouping.last p r).0.inside

    at : (f : Phase) → q.phase ≡ f → index (site (plan_at t.rules p q.reg f)) < wide (count t)
    at Idle e = omega arith
    at Held e = omega arith
    at Steal e = omega arith
    at Init e = let h = own in omega arith
    at Swap e = omega arith
    at Link e = let h = queued-below w.passes q.reg.before (link-room t.rules.limit (view w) ok.shown ok.giver p ok.agrees.order ok.agrees.grouping e) in let s = ok.seats in omega arith
    at Close e = omega arith
    at Look e = let h = own in omega arith
    at Begin e = let h = own in omega arith
    at Next e = let h = prev-there t w p ok below nap (ap is_round e) in omega arith
    at Tail e = omega arith
    at Attr e = let h = cand-there t w p ok below nap (ap is_round e) (ap tail_to_pick e) in omega arith
    at Decide e = by q.reg.headed
      where
        by : (b : Bool) → index (cond b Lock (StateOf p)) < wide (count t)
        by true = omega arith
        by false = let h = own in omega arith
    at After e = let h = cand-there t w p ok below nap (ap is_round e) (ap tail_to_pick e) in omega arith
    at Pick e = let h = prev-there t w p ok below nap (ap is_round e) in omega arith
    at Aim e = let h = (hand-there t w p ok below nap (ap is_round e) (ap has_hand e)).1 in omega arith
    at Place e = let h = last-there (ap is_round e) in omega arith
    at Mark e = let r = ok.agrees.order.round p (ap is_round e) in let h = named t w p ok below nap q.reg.last q.reg.cand (ok.agrees.grouping.last p (ap is_round e)).0.inside (r.marking e).0 in omega arith
    at Give e = let h = last-there (ap is_round e) in omega arith
    at Peek e = omega arith
    at Grab e = omega arith
    at WriteGrab e = omega arith
    at Take e = let h = own in omega arith
    at Cut e = omega arith
    at Late e = let h = own in omega arith
    at Ready e = let h = ok.of_passes.line q.reg.heir (heir-in (view w) ok.shown ok.giver p q.reg.heir ok.agrees.order e refl Awake) in omega arith
    at Open e = omega arith
    at Release e = omega arith
    at Count e = omega arith
    at Uncount e = omega arith
    at TryUncount e = omega arith
    at HeadCount e = omega arith
    at HeadLook e = omega arith
    at ReadRelease e = omega arith

  -- the pass that it is about to wake is there
  woken : (whom : ℕ) → q.nap ≡ Ring whom → whom < count t
  woken whom e = ⊎_elim
      (λ b. (let s = ok.seats in omega arith))
      (λ b. absurd (let s : (known w.passes whom).nap ≡ Hear = (ok.agrees.owed.rings p whom e).0.sleeps in let i : known w.passes whom ≡ idle whom = past w.passes whom (idle whom) b in
      let j : Awake ≡ Hear = sym (ap (λ (z : PassState). z.nap) i) ∙ s in grind arith))
      (below-or whom (length w.passes))

  by-nap : (n : Nap) → q.nap ≡ n → index (site (plan_by t.rules p q.reg n q.phase)) < wide (count t)
  by-nap Awake e = at e q.phase refl
  by-nap Doze e = let h = own in omega arith
  by-nap Hear e = let h = own in omega arith
  by-nap Rouse e = let h = own in omega arith
  by-nap (Ring whom) e = let h = woken whom e in omega arith

pub in-range-law : (t : Terms) → InRangeLaw t
in-range-law t w p q ok at = let e = seen-at w.passes p q (idle p) at in
    subst (λ (z : PassState). InRange t p z) e.0 (by-nap t w p ok e.1 (known w.passes p).nap refl)

pub told-law : (t : Terms) → ToldLaw t
told-law t w p q ok e = let a : Access = plan t.rules p q in subst (Formed (site a)) (sym (told-found a (look w.words (site a)) e)) (ok.formed (site a))

pub bells-in-range : (t : Terms) → BellsInRange t
bells-in-range t = record {
  own = λ w p q ok at. let h = (seen-at w.passes p q (idle p) at).1 in let s = ok.seats in omega arith;
  woken = λ w p q whom ok at e. let s = seen-at w.passes p q (idle p) at in woken t w p ok s.1 whom (ap (λ (z : PassState). z.nap) s.0 ∙ e);
}

pub told-names : (t : Terms) → ToldNames t
told-names t w p q ok e = let a : Access = plan t.rules p q in formed-names (site a) (told a (look w.words (site a))) (told-law t w p q ok e)
