-- Locality, leaving and rest, and worlds that read alike.
use Rattle.std.proofs.Common.{◌≡◌, ℕ, suc, ◌<◌, ◌≤◌, ◌⊎◌, List, ◌∷◌, Bool, true, false, cond, length, refl, sym, ap, ◌∙◌, subst, inl, inr, ⊎_elim, arith}
use Rattle.std.specs.Prelude.{◌||◌}
use Rattle.std.proofs.lemmas.Bool.Decides.{nat_tests}
use lib.ListN.{get_elem?}
use Rattle.shfl_line.specs.Words.{held_of, closed_of, readers_of, state_of, link_word}
use Rattle.shfl_line.specs.Passes.{times}
use Rattle.shfl_core.specs.declared.phase.Phase.{Phase}
use Rattle.shfl_core.specs.declared.phase.Phase.TheVariants.{Idle, Steal, Init, Swap, Link, Close, Look, Begin, Next, Tail, Attr, Decide, After, Pick, Aim, Place, Mark, Give, Peek, Grab, WriteGrab, Take, Cut, Late, Ready, Open, Held, Release, Count, Uncount, TryUncount, HeadCount, HeadLook, ReadRelease}
use Rattle.shfl_core.specs.declared.phase.Nap.{Nap}
use Rattle.shfl_core.specs.declared.phase.Nap.TheVariants.{Awake, Doze, Hear, Rouse, Ring}
use Rattle.shfl_core.specs.declared.phase.PassState.{PassState}
use Rattle.shfl_core.specs.declared.words.Word.TheVariants.{Lock, Tail as TailWord, Next as NextOf, State as StateOf, Attr as AttrOf, Bell as BellOf}
use Rattle.shfl_core.specs.Words.{look, site}
use Rattle.shfl_core.specs.Plan.{plan, plan_at, plan_by}
use Rattle.shfl_core.specs.Waiting.{idle}
use Rattle.shfl_core.specs.Worlds.{World, known}
use Rattle.shfl_core.specs.Phases.{Rank, Away, Fore, Rear, Either, rank, queued_rank, knows_rank, is_round, is_queued, tail_to_pick, has_hand, is_holding, is_writing, is_reading, is_backing}
use Rattle.shfl_core.specs.View.{View, view}
use Rattle.shfl_core.specs.Owed.{announces, fits}
use Rattle.shfl_core.specs.Holding.{backs}
use Rattle.shfl_core.specs.Lawful.{Terms, count, Lawful, Formed, Agrees}
use Rattle.shfl_core.proofs.Lists.{seen-at}
use Rattle.shfl_laws.proofs.words.Advance.{below-count}
use Rattle.shfl_laws.proofs.rows.Leave.{link-room}
use Rattle.shfl_laws.proofs.rows.Order as Orders
use Rattle.shfl_laws.proofs.rows.RoundLaws.{candidate}
use Rattle.shfl_laws.proofs.rows.Holding.{stay}
use Rattle.shfl_laws.proofs.rows.ReadyRow.{heir-in}
use Rattle.shfl_laws.proofs.laws.NextRows.{hand-there}
use Rattle.shfl_laws.proofs.laws.MoveLaws.{resting-is}
use Rattle.shfl_laws.proofs.laws.MoveRows.{advance-still}
use Rattle.shfl_laws.proofs.laws.OutsideRows.{outside, goes-outside}
use Rattle.shfl_laws.proofs.kept.QuietAgrees.{quiet-agrees}
use Rattle.shfl_arena.specs.Nodes.{is_swap, uses_node, MayTouch}
use Rattle.shfl_arena.specs.NodeLaws.{TouchLaw, ClearNodeLaw, RestingLaw, AlikeLaw}

-- who announces that it parks is queued
only-look : (f : Phase) → fits Hear f ≡ true → queued_rank (rank f) ≡ true
only-look Look e = refl
only-look _ e = absurd (cc)

only-looks : (f : Phase) → fits Rouse f ≡ true → queued_rank (rank f) ≡ true
only-looks Look e = refl
only-looks _ e = absurd (cc)

only-doze : (f : Phase) → fits Doze f ≡ true → queued_rank (rank f) ≡ true
only-doze Look e = refl
only-doze _ e = absurd (cc)

pub away-nap : (n : Nap) (f : Phase) → queued_rank (rank f) ≡ false → fits n f ≡ true → announces n ≡ false
away-nap Awake f a e = refl
away-nap Doze f a e = refl
away-nap Hear f a e = absurd (let b = only-look f e in cc)
away-nap Rouse f a e = absurd (let b = only-looks f e in cc)
away-nap (Ring whom) f a e = refl

pub knows-queued : (r : Rank) → knows_rank r ≡ true → queued_rank r ≡ true
knows-queued Away e = absurd (cc)
knows-queued Fore e = refl
knows-queued Rear e = refl
knows-queued Either e = refl

sleeper-queued : (n : Nap) (f : Phase) → n ≡ Hear → fits n f ≡ true → queued_rank (rank f) ≡ true
sleeper-queued n f e h = only-look f (sym (ap (λ z. fits z f) e) ∙ h)

-- who is queued uses its node
pub queued-uses : (z : PassState) → is_queued z ≡ true → uses_node z ≡ true
queued-uses z e = ap (λ b. b || is_swap z.phase) e

module _ (t : Terms) (w : World) (p : ℕ) (ok : Lawful t w) (below : p < length w.passes) where
  abbrev q : PassState
  q = known w.passes p

  in-line : (r : ℕ) → 0 < times r ok.shown.line → uses_node (known w.passes r) ≡ true
  in-line r h = queued-uses (known w.passes r) (Orders.queued-in (view w) ok.shown r ok.agrees.order.stands h)

  own : (f : Phase) → q.phase ≡ f → queued_rank (rank f) ≡ true → uses_node (known w.passes p) ≡ true
  own f e h = queued-uses q (ap (λ z. queued_rank (rank z)) e ∙ h)

  named-in : (a b : ℕ) → 0 < times a ok.shown.line → look w.words (NextOf a) ≡ suc b → 0 < times b ok.shown.line
  named-in a b h e = let z = Orders.scene (view w) ok.shown ok.giver a ok.agrees.order h in let v = z.2 in
      let i = Orders.succ-in (view w) z.0 z.1 a b v.walks v.stop (subst (λ l. 0 < times a l) v.line h) e in
      subst (λ l. 0 < times b l) (sym v.line) (let y = i.0 in let x : 0 < times b (z.0 ∷ z.1) = omega arith in x)

  module _ (nap : q.nap ≡ Awake) where
    prev-in : is_round q.phase ≡ true → uses_node (known w.passes q.reg.prev) ≡ true
    prev-in h = in-line q.reg.prev (ok.agrees.order.round p h).prev_in

    last-in : is_round q.phase ≡ true → 0 < times q.reg.last ok.shown.line
    last-in h = (ok.agrees.grouping.last p h).0.inside

    cand-in : is_round q.phase ≡ true → tail_to_pick q.phase ≡ true → uses_node (known w.passes q.reg.cand) ≡ true
    cand-in h k = in-line q.reg.cand (candidate t.rules.limit (view w) ok.shown ok.giver p ok.agrees.order ok.agrees.grouping h k).inside

    hand-in : is_round q.phase ≡ true → has_hand q.phase ≡ true → uses_node (known w.passes q.reg.cand) ≡ true
    hand-in h k = let e : link_word ok.shown.hand ≡ suc q.reg.cand = (hand-there t w p ok below nap h k).0 in let s = ok.agrees.order.stands q.reg.cand in queued-uses (known w.passes q.reg.cand) (grind (arith, nat_tests))

    at : (f : Phase) → q.phase ≡ f → MayTouch w p (site (plan_at t.rules p q.reg f))
    at Idle e = tt
    at Held e = tt
    at Steal e = tt
    at Init e = inr (refl, record { phase = e; awake = nap })
    at Swap e = tt
    at Link e = queued-uses (known w.passes q.reg.before) (link-room t.rules.limit (view w) ok.shown ok.giver p ok.agrees.order ok.agrees.grouping e)
    at Close e = tt
    at Look e = inl (own Look e refl)
    at Begin e = inl (own Begin e refl)
    at Next e = prev-in (ap is_round e)
    at Tail e = tt
    at Attr e = tt
    at Decide e = by q.reg.headed
      where
        by : (b : Bool) → MayTouch w p (cond b Lock (StateOf p))
        by true = tt
        by false = inl (own Decide e refl)
    at After e = cand-in (ap is_round e) (ap tail_to_pick e)
    at Pick e = prev-in (ap is_round e)
    at Aim e = hand-in (ap is_round e) (ap has_hand e)
    at Place e = in-line q.reg.last (last-in (ap is_round e))
    at Mark e = let r = ok.agrees.order.round p (ap is_round e) in inl (in-line q.reg.cand (named-in q.reg.last q.reg.cand (last-in (ap is_round e)) (r.marking e).0))
    at Give e = inl (in-line q.reg.last (last-in (ap is_round e)))
    at Peek e = tt
    at Grab e = tt
    at WriteGrab e = tt
    at Take e = own Take e refl
    at Cut e = tt
    at Late e = own Late e refl
    at Ready e = inl (in-line q.reg.heir (heir-in (view w) ok.shown ok.giver p q.reg.heir ok.agrees.order e refl Awake))
    at Open e = tt
    at Release e = tt
    at Count e = tt
    at Uncount e = tt
    at TryUncount e = tt
    at HeadCount e = tt
    at HeadLook e = tt
    at ReadRelease e = tt

  -- who parks is queued
  parked : (n : Nap) → q.nap ≡ n → fits n q.phase ≡ true
  parked n e = sym (ap (λ z. fits z q.phase) e) ∙ ok.agrees.owed.places p

  by-nap : (n : Nap) → q.nap ≡ n → MayTouch w p (site (plan_by t.rules p q.reg n q.phase))
  by-nap Awake e = at e q.phase refl
  by-nap Doze e = inl (own q.phase refl (only-doze q.phase (parked Doze e)))
  by-nap Hear e = own q.phase refl (only-look q.phase (parked Hear e))
  by-nap Rouse e = inl (own q.phase refl (only-looks q.phase (parked Rouse e)))
  by-nap (Ring whom) e = queued-uses (known w.passes whom) (sleeper-queued (known w.passes whom).nap (known w.passes whom).phase (ok.agrees.owed.rings p whom e).0.sleeps (ok.agrees.owed.places whom))

pub touch-law : (t : Terms) → TouchLaw t
touch-law t w p q ok at = let e = seen-at w.passes p q (idle p) at in
    subst (λ (z : PassState). MayTouch w p (site (plan t.rules p z))) e.0 (by-nap t w p ok e.1 (known w.passes p).nap refl)

pub clear-node-law : (t : Terms) → ClearNodeLaw t
clear-node-law t w p ok away = record {
  next = (ok.agrees.order.clean p).next away;
  formed = ok.formed (StateOf p);
  bell = ⊎_elim (λ z. z) (λ h. absurd (let x : announces (known w.passes p).nap ≡ true = ap announces (ok.agrees.owed.rung p h).0.sleeps in let y = away-nap (known w.passes p).nap (known w.passes p).phase away (ok.agrees.owed.places p) in cc)) (none-or (look w.words (BellOf p)));
}
  where
    none-or : (n : ℕ) → (n ≡ 0) ⊎ (0 < n)
    none-or n = grind arith

pub resting-law : (t : Terms) → RestingLaw t
resting-law t w p q v ok at rests fresh me mode = let e = seen-at w.passes p q (idle p) at in let r = resting-is q rests in let f = resting-is v fresh in
    let was : (known w.passes p).phase ≡ Held = ap (λ (z : PassState). z.phase) e.0 ∙ r.0 in
    let nap : (known w.passes p).nap ≡ Awake = ap (λ (z : PassState). z.nap) e.0 ∙ r.1 in
    let same : v.reg.mode ≡ (known w.passes p).reg.mode = mode ∙ sym (ap (λ (z : PassState). z.reg.mode) e.0) in
    let number : v.reg.me ≡ (known w.passes p).reg.me = me ∙ (sym (ok.numbers p q at) ∙ ap (λ (z : PassState). z.reg.me) (sym e.0)) in
    let a : backs (known w.passes p) ≡ 0 = ap (λ b. cond b 1 0) (ap is_backing was) in
    let b : backs v ≡ 0 = ap (λ b. cond b 1 0) (ap is_backing f.0) in
    advance-still t w ok p e.1 v number
    (quiet-agrees t (view w) ok.shown ok.giver p v ok.agrees nap
    (goes-outside t (view w) ok.shown p v (ap outside was) (ap outside f.0) f.1
    (λ i. absurd (let z : is_writing v.phase ≡ false = ap is_writing f.0 in cc)) (λ i. absurd (let z : is_reading v.phase ≡ false = ap is_reading f.0 in cc))
    (λ s i. same ∙ ok.agrees.registered.writers s p (λ j. (let z : Held ≡ Idle = sym was ∙ j in cc))))
    (view w).held (view w).closed (view w).readers ok.shown.hold
    (stay (count t) (view w).held (view w).readers (known w.passes) ok.shown.hold ok.agrees.holding p v (below-count t w ok p e.1) (view w).readers (ap is_holding f.0 ∙ sym (ap is_holding was)) same (omega arith)))

pub alike-law : (t : Terms) → AlikeLaw t
alike-law t w x ok long same words = record {
  lawful = record {
    room = long ∙ ok.room;
    seats = subst (λ (l : List PassState). length l ≤ count t) (sym same) ok.seats;
    few = ok.few;
    limit = ok.limit;
    formed = λ v. subst (Formed v) (sym (words v)) (ok.formed v);
    attrs = λ q h. words (AttrOf q) ∙ ok.attrs q h;
    numbers = λ p q at. ok.numbers p q (ap (λ (l : List PassState). get_elem? l p) (sym same) ∙ at);
    shown = ok.shown;
    giver = ok.giver;
    of_passes = ok.of_passes;
    agrees = subst (λ (z : View). Agrees t z ok.shown ok.giver) seen ok.agrees;
  };
  admitted = tt;
  shown = refl;
}
  where
    seen : view w ≡ view x
    seen = λ k. record {
      held = held_of (sym (words Lock) k);
      closed = closed_of (sym (words Lock) k);
      readers = readers_of (sym (words Lock) k);
      tail = sym (words TailWord) k;
      next = λ q. sym (words (NextOf q)) k;
      node = λ q. state_of (sym (words (StateOf q)) k);
      attr = λ q. sym (words (AttrOf q)) k;
      bell = λ q. sym (words (BellOf q)) k;
      pass = known (sym same k);
    }
