-- The step of a pass at Begin: its round begins, or its batch is full and nobody has the flag.
use Rattle.std.proofs.Common.{◌≡◌, ℕ, ◌<◌, Bool, true, false, cond, length, refl, ap, ◌∙◌, subst, ⊎_elim, arith}
use Rattle.std.specs.Prelude.{nat_lt}
use Rattle.std.proofs.lemmas.Bool.Decides.{nat_tests}
use Rattle.shfl_line.specs.declared.events.LineEvent.TheVariants as event
use Rattle.shfl_line.specs.Line.{Line, idle_shuffler}
use Rattle.shfl_line.specs.Steps.{after}
use Rattle.shfl_line.proofs.Chain
use Rattle.shfl_core.specs.declared.phase.Phase.TheVariants as phase
use Rattle.shfl_core.specs.declared.phase.Registers.{Registers as Regs}
use Rattle.shfl_core.specs.declared.phase.Nap.{Nap}
use Rattle.shfl_core.specs.declared.phase.Nap.TheVariants.{Awake, Doze, Hear, Rouse, Ring}
use Rattle.shfl_core.specs.declared.phase.PassState.{PassState}
use Rattle.shfl_core.specs.Words.{look, site}
use Rattle.shfl_core.specs.Plan.{plan, is_awake, moving, round_batch}
use Rattle.shfl_core.specs.Take.{take, take_by, to, done}
use Rattle.shfl_core.specs.Waiting.{idle}
use Rattle.shfl_core.specs.Worlds.{World, known, stepped, Step, after_move}
use Rattle.shfl_core.specs.Events.{event_at}
use Rattle.shfl_core.specs.Phases.{is_round}
use Rattle.shfl_core.specs.Owed.{fits}
use Rattle.shfl_core.specs.Lawful.{Terms, Lawful, Advances}
use Rattle.shfl_core.proofs.Lists.{past, below-or}
use Rattle.shfl_laws.specs.Moves.{move_event}
use Rattle.shfl_laws.specs.Headline.{HasFlag}
use Rattle.shfl_laws.specs.Rounds.{in_round}
use Rattle.shfl_laws.proofs.words.Frame.{known-set}
use Rattle.shfl_laws.proofs.laws.Laws.{laws}
use Rattle.shfl_laws.proofs.laws.MoveLaws.{move-law}
use Rattle.shfl_drain.specs.HandingOn.{BeginsOrRests, Begins, Rests, EachBeginsOrRests}

awake-at-begin : (x : Nap) → fits x phase.Begin ≡ true → x ≡ Awake
awake-at-begin Awake e = refl
awake-at-begin Doze e = absurd (cc)
awake-at-begin Hear e = absurd (cc)
awake-at-begin Rouse e = absurd (cc)
awake-at-begin (Ring q) e = absurd (cc)

module _ (t : Terms) (w : World) (ok : Lawful t w) (p : ℕ) (c : Bool) (f : (known w.passes p).phase ≡ phase.Begin) where
  abbrev q : PassState
  q = known w.passes p

  abbrev n : ℕ
  n = look w.words (site (plan t.rules p q))

  abbrev r : Regs
  r = record q.reg { batch = round_batch q.reg; flag = false }

  below : p < length w.passes
  below = ⊎_elim (λ h. h) (λ h. absurd (let e : (known w.passes p).phase ≡ (idle p).phase = ap (λ (z : PassState). z.phase) (past w.passes p (idle p) h) in cc)) (below-or p (length w.passes))

  moves : moving (known w.passes p) ≡ true
  moves = grind (arith, f)

  nap : (known w.passes p).nap ≡ Awake
  nap = awake-at-begin q.nap (subst (λ z. fits q.nap z ≡ true) f (ok.agrees.owed.places p))

  shows : (b : Bool) → nat_lt (round_batch (known w.passes p).reg) t.rules.limit ≡ b → move_event t.rules w (Step p c) ≡ cond b (event.Begin p) (event.Rest p)
  shows b e = (λ j. cond (moves j) (cond (is_awake (nap j)) (event_at t.rules p q.reg n (f j)) event.Nothing) event.Nothing) ∙ ap (λ b. cond b (event.Begin p) (event.Rest p)) e

  begins : nat_lt (round_batch (known w.passes p).reg) t.rules.limit ≡ true → in_round (after_move t.rules w (Step p c)) p ≡ true
  begins e = ap (λ (z : Bool). is_round (known (cond z (stepped t.rules w p q c) w).passes p).phase) moves
      ∙ (ap (λ (z : PassState). is_round z.phase) (known-set w.passes p (take t.rules p q n c) below p ∙ (Chain.updated-same (known w.passes) p (take t.rules p q n c) ∙ (λ j. take_by t.rules p q.reg n c (nap j) (f j))))
      ∙ (ap (λ b. is_round (cond b (to (cond c phase.Give phase.Next) (record r { prev = p; last = p; count = r.batch })) (to (done r) r)).phase) e ∙ on c))
    where
      on : (c : Bool) → is_round (cond c phase.Give phase.Next) ≡ true
      on true = refl
      on false = refl

  unflagged : (a : Advances t w ok (move_event t.rules w (Step p c)) (after_move t.rules w (Step p c))) → move_event t.rules w (Step p c) ≡ event.Rest p → (z : ℕ) → ¬ (HasFlag (after_move t.rules w (Step p c)) z)
  unflagged a e z h = let i = a.lawful.agrees.grouping.flagged z h.queued h.flag in
      let j : idle_shuffler a.lawful.shown.role ≡ 0 = ap (λ (s : Line). idle_shuffler s.role) (a.shown ∙ ap (after ok.shown) e) in omega arith

  pub step-at-begin : BeginsOrRests t w p c
  step-at-begin = by (nat_lt (round_batch q.reg) t.rules.limit) refl
    where
      by : (b : Bool) → nat_lt (round_batch (known w.passes p).reg) t.rules.limit ≡ b → BeginsOrRests t w p c
      by true e = Begins (shows true e) (begins e)
      by false e = Rests (shows false e) (grind (arith, nat_tests, e)) (unflagged (move-law t (laws t) (Step p c) w ok tt) (shows false e))

pub begins-or-rests : (t : Terms) → EachBeginsOrRests t
begins-or-rests t w ok p c f = step-at-begin t w ok p c f
