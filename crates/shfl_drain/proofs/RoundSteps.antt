-- How a round goes on: a step of its pass lowers what is left of it or is Give, and no other change touches it.
use Rattle.std.proofs.Common.{◌≡◌, ◌≢◌, ℕ, suc, ◌+◌, ◌*◌, ◌<◌, ◌≤◌, ◌⊎◌, List, [], ◌∷◌, Bool, true, false, cond, ◌==◌, length, set, get_or-set_other, refl, sym, ap, ◌∙◌, inl, inr, subst, ⊎_elim, arith}
use Rattle.std.specs.Prelude.{◌&&◌, ◌||◌, nat_lt}
use Rattle.std.proofs.lemmas.Bool.Decides.{nat_tests}
use Rattle.shfl_line.specs.declared.events.LineEvent.TheVariants as event
use Rattle.shfl_line.specs.Line.{Line, mark_of, idle_shuffler}
use Rattle.shfl_line.specs.Passes.{times, last_marked}
use Rattle.shfl_line.specs.Steps.{after}
use Rattle.shfl_line.proofs.Chain
use Rattle.shfl_core.specs.declared.phase.Phase.{Phase}
use Rattle.shfl_core.specs.declared.phase.Phase.TheVariants as phase
use Rattle.shfl_core.specs.declared.phase.Registers.{Registers as Regs}
use Rattle.shfl_core.specs.declared.phase.Nap.{Nap}
use Rattle.shfl_core.specs.declared.phase.Nap.TheVariants.{Awake, Doze, Hear, Rouse, Ring}
use Rattle.shfl_core.specs.declared.phase.PassState.{PassState}
use Rattle.shfl_core.specs.declared.phase.Rules.{Rules}
use Rattle.shfl_core.specs.Words.{look, site}
use Rattle.shfl_core.specs.Plan.{plan, is_awake, moving, is_idle, is_resting, attempt_plan}
use Rattle.shfl_core.specs.Take.{take, take_at, take_by, nap_found, acquired, released, to}
use Rattle.shfl_core.specs.Waiting.{idle}
use Rattle.shfl_core.specs.Worlds.{World, known, placed_at, stepped, tried, Move, Acquire, Release, Step, after_move}
use Rattle.shfl_core.specs.Events.{event_at, attempt_event}
use Rattle.shfl_core.specs.Phases.{is_round}
use Rattle.shfl_core.specs.Owed.{fits}
use Rattle.shfl_core.specs.Lawful.{Terms, count, Lawful, Advances}
use Rattle.shfl_core.proofs.Lists.{at-read}
use Rattle.shfl_laws.specs.Moves.{move_event, with_one_more}
use Rattle.shfl_laws.specs.Stealing.{stealing_disabled}
use Rattle.shfl_laws.specs.RoundMeasure.{upto, stretch, round_measure}
use Rattle.shfl_laws.specs.Rounds.{in_round, left, is_own}
use Rattle.shfl_laws.proofs.words.Frame.{known-set}
use Rattle.shfl_laws.proofs.rounds.Stretch.{from-hit, from-miss}
use Rattle.shfl_laws.proofs.rounds.MeasureRows.{inside}
use Rattle.shfl_laws.proofs.rounds.MeasureMoves.{in-lock}
use Rattle.shfl_laws.proofs.rounds.MeasureRounds.{own-lowers, others-keep}
use Rattle.shfl_laws.proofs.rounds.MeasureAttempts.{others-attempt-keeps}
use Rattle.shfl_laws.proofs.rows.GiveRow.{ended}
use Rattle.shfl_laws.proofs.shown.WellFormed.{last-number}
use Rattle.shfl_laws.proofs.laws.Opens.{known-one}
use Rattle.shfl_laws.specs.Changes.{Change, Moves, Tries, Disables, Fills, Replaces, is_idle_there, has_seat, after_change, change_event}
use Rattle.shfl_bound.proofs.Steps.{asleep}
use Rattle.shfl_bound.proofs.Changing.{both-true}
use Rattle.shfl_bound.proofs.ChangeLaws.{idle-is, below-is}
use Rattle.shfl_drain.specs.HandingOn.{HandsOn, is_step_of, steps_left, most_steps}
use Rattle.shfl_drain.proofs.Slack.{phase-most}
use Rattle.shfl_drain.proofs.RoundRows.{inner-goes}

-- a round has come through its shuffler at least
stretch-some : (p q : ℕ) (xs : List ℕ) → 0 < times p xs → 0 < length (stretch p q xs)
stretch-some p q [] m = absurd (omega arith)
stretch-some p q (x ∷ xs) m = Chain.by_eq x p
    (λ e. subst (λ (l : List ℕ). 0 < length (upto q l)) (sym (from-hit p x xs e)) (some (x == q)))
    (λ n. subst (λ (l : List ℕ). 0 < length (upto q l)) (sym (from-miss p x xs n)) (stretch-some p q xs (grind (arith, nat_tests))))
  where
    some : (b : Bool) → 0 < length (cond b (x ∷ []) (x ∷ upto q xs))
    some true = omega arith
    some false = omega arith

-- a step in a round stays in it, or is Give
round-goes : (t : Rules) (p : ℕ) (r : Regs) (n : ℕ) (c : Bool) (f : Phase) → is_round f ≡ true → (f ≡ phase.Give) ⊎ (is_round (take_at t p r n c f).phase ≡ true)
round-goes t p r n c phase.Give e = inl refl
round-goes t p r n c phase.Mark e = inr (on (nat_lt (r.count + 1) t.limit))
  where
    on : (b : Bool) → is_round (cond b phase.Next phase.Give) ≡ true
    on true = refl
    on false = refl
round-goes t p r n c phase.Next e = inr (inner-goes t p r n c phase.Next refl).round
round-goes t p r n c phase.Tail e = inr (inner-goes t p r n c phase.Tail refl).round
round-goes t p r n c phase.Attr e = inr (inner-goes t p r n c phase.Attr refl).round
round-goes t p r n c phase.Decide e = inr (inner-goes t p r n c phase.Decide refl).round
round-goes t p r n c phase.After e = inr (inner-goes t p r n c phase.After refl).round
round-goes t p r n c phase.Pick e = inr (inner-goes t p r n c phase.Pick refl).round
round-goes t p r n c phase.Aim e = inr (inner-goes t p r n c phase.Aim refl).round
round-goes t p r n c phase.Place e = inr (inner-goes t p r n c phase.Place refl).round
round-goes t p r n c _ e = absurd (cc)

-- in a round a pass is awake, or its next step makes it so
nap-in-round : (x : Nap) (f : Phase) → is_round f ≡ true → fits x f ≡ true → (x ≡ Awake) ⊎ ((is_awake x ≡ false) × ((n : ℕ) → nap_found x n ≡ Awake))
nap-in-round Awake f r e = inl refl
nap-in-round (Ring whom) f r e = inr (refl, λ n. refl)
nap-in-round Rouse f r e = inr (refl, λ n. refl)
nap-in-round Doze phase.Look r e = absurd (cc)
nap-in-round Doze _ r e = absurd (cc)
nap-in-round Hear phase.Look r e = absurd (cc)
nap-in-round Hear _ r e = absurd (cc)

owed-most : (b : Bool) → cond b 0 1 ≤ 1
owed-most true = omega arith
owed-most false = omega arith

self : (p : ℕ) → (p == p) ≡ true
self p = grind (arith, nat_tests)

and-off : (a b : Bool) → b ≡ false → (a && b) ≡ false
and-off true b e = e
and-off false b e = refl

module _ (t : Terms) (w : World) (p : ℕ) (ok : Lawful t w) (r : in_round w p ≡ true) where
  abbrev q : PassState
  q = known w.passes p

  abbrev n : ℕ
  n = look w.words (site (plan t.rules p q))

  pub left-most : left t w ok p ≤ 9 * count t + 1
  left-most = let m = stretch-some p (known w.passes p).reg.prev ok.shown.line (inside t w p ok r) in let b = in-lock t w p ok r in let s = ok.seats in
      let f = phase-most (known w.passes p).reg (known w.passes p).phase in omega arith

  pub steps-most : steps_left t w ok p ≤ most_steps (count t)
  steps-most = let a = left-most in let b = owed-most (is_awake (known w.passes p).nap) in omega arith

  moves : moving (known w.passes p) ≡ true
  moves = grind (arith, r)

  module _ (c : Bool) (a : Advances t w ok (move_event t.rules w (Step p c)) (after_move t.rules w (Step p c))) where
    here : known (after_move t.rules w (Step p c)).passes p ≡ take t.rules p q n c
    here = ap (λ (z : Bool). known (cond z (stepped t.rules w p q c) w).passes p) moves
        ∙ (known-set w.passes p (take t.rules p q n c) (in-lock t w p ok r) p ∙ Chain.updated-same (known w.passes) p (take t.rules p q n c))

    abbrev Goes : Type 0
    Goes = HandsOn t w p c ⊎ ((in_round (after_move t.rules w (Step p c)) p ≡ true) × (steps_left t (after_move t.rules w (Step p c)) a.lawful p < steps_left t w ok p))

    -- the pass wakes another
    wakes : is_awake (known w.passes p).nap ≡ false → ((n : ℕ) → nap_found (known w.passes p).nap n ≡ Awake) → Goes
    wakes off ends = let k = others-keep t w ok p (Step p c) a r (and-off (p == p) (is_awake (known w.passes p).nap) off) in
        let up : (known (after_move t.rules w (Step p c)).passes p).nap ≡ Awake = ap (λ (z : PassState). z.nap) (here ∙ asleep t.rules p q.reg n c q.nap q.phase (λ i. (let b = ap is_awake i in cc))) ∙ ends n in
        let x : ◌≡◌ {A = ℕ} (cond (is_awake (known (after_move t.rules w (Step p c)).passes p).nap) 0 1) 0 = ap (λ (z : Nap). cond (is_awake z) 0 1) up in
        let y : ◌≡◌ {A = ℕ} (cond (is_awake (known w.passes p).nap) 0 1) 1 = ap (λ b. cond b 0 1) off in
        let l = k.1 in inr (k.0, omega arith)

    -- a step of its phase
    module _ (nap : (known w.passes p).nap ≡ Awake) where
      taken : (f : Phase) → (known w.passes p).phase ≡ f → known (after_move t.rules w (Step p c)).passes p ≡ take_at t.rules p q.reg n c f
      taken f e = here ∙ (λ j. take_by t.rules p q.reg n c (nap j) (e j))

      stays-in : is_round (take_at t.rules p q.reg n c q.phase).phase ≡ true → Goes
      stays-in i = let g : in_round (after_move t.rules w (Step p c)) p ≡ true = ap (λ (z : PassState). is_round z.phase) (taken q.phase refl) ∙ i in
          let l = own-lowers t w ok p (Step p c) a r (λ j. self p j && is_awake (nap j)) g in
          let x = owed-most (is_awake (known (after_move t.rules w (Step p c)).passes p).nap) in inr (g, omega arith)

      gives : (known w.passes p).phase ≡ phase.Give → HandsOn t w p c
      gives e = let has = a.lawful.agrees.grouping.rester q.reg.last idles in record { gives = e; shown = shown; over = over; flag = record { queued = has.0; flag = has.1 } }
        where
          shown : move_event t.rules w (Step p c) ≡ event.Give p
          shown = λ j. cond (moves j) (cond (is_awake (nap j)) (event_at t.rules p q.reg n (e j)) event.Nothing) event.Nothing

          over : in_round (after_move t.rules w (Step p c)) p ≡ false
          over = ap (λ (z : PassState). is_round z.phase) (taken phase.Give e) ∙ (ended q (record q.reg { flag = q.reg.flag || (q.reg.last == p) }) refl).round

          number : last_marked (mark_of ok.shown) ok.shown.line ≡ suc (known w.passes p).reg.last
          number = last-number (mark_of ok.shown) q.reg.last ok.shown.line ok.agrees.grouping.prefix (λ z. let u = ok.of_passes.once z in omega arith) (ok.agrees.grouping.last p r).0

          idles : idle_shuffler a.lawful.shown.role ≡ suc (known w.passes p).reg.last
          idles = ap (λ (s : Line). idle_shuffler s.role) (a.shown ∙ ap (after ok.shown) shown) ∙ (let z = number in omega arith)

    pub steps-on : HandsOn t w p c ⊎ ((in_round (after_move t.rules w (Step p c)) p ≡ true) × (steps_left t (after_move t.rules w (Step p c)) a.lawful p < steps_left t w ok p))
    steps-on = ⊎_elim
        (λ nap. ⊎_elim (λ e. inl (gives nap e)) (λ i. stays-in nap i) (round-goes t.rules p q.reg n c q.phase r))
        (λ z. wakes z.0 z.1)
        (nap-in-round q.nap q.phase r (ok.agrees.owed.places p))

  -- a pass that is idle or owes no step is another
  set-else : (z : ℕ) (v : PassState) → is_round (known w.passes z).phase ≡ false → known (set w.passes z v) p ≡ known w.passes p
  set-else z v off = get_or-set_other w.passes z p v (idle p) (λ i. (let d : is_round (known w.passes p).phase ≡ false = subst (λ y. is_round (known w.passes y).phase ≡ false) (sym i) off in cc))

  idle-off : (v : PassState) → is_idle v.phase ≡ true → is_round v.phase ≡ false
  idle-off v e = grind arith

  resting-off : (v : PassState) → is_resting v ≡ true → is_round v.phase ≡ false
  resting-off v e = grind arith

  there-off : (z : ℕ) → is_idle_there w z ≡ true → is_round (known w.passes z).phase ≡ false
  there-off z e = idle-off (known w.passes z) (both-true (nat_lt z (length w.passes)) (is_idle (known w.passes z).phase) e).1

  -- no change but a step of the pass moves it
  stays : (c : Change) → is_step_of p c ≡ false → known (after_change t.rules w c).passes p ≡ known w.passes p
  stays (Moves (Acquire z mode)) d = by (is_idle (known w.passes z).phase) refl
    where
      by : (b : Bool) → is_idle (known w.passes z).phase ≡ b → known (cond b (placed_at w z (acquired mode (known w.passes z))) w).passes p ≡ known w.passes p
      by true e = set-else z (acquired mode (known w.passes z)) (idle-off (known w.passes z) e)
      by false e = refl
  stays (Moves (Release z)) d = by (is_resting (known w.passes z)) refl
    where
      by : (b : Bool) → is_resting (known w.passes z) ≡ b → known (cond b (placed_at w z (released (known w.passes z))) w).passes p ≡ known w.passes p
      by true e = set-else z (released (known w.passes z)) (resting-off (known w.passes z) e)
      by false e = refl
  stays (Moves (Step z choice)) d = by (moving (known w.passes z))
    where
      apart : p ≢ z
      apart i = grind (arith, nat_tests, d, i)

      by : (b : Bool) → known (cond b (stepped t.rules w z (known w.passes z) choice) w).passes p ≡ known w.passes p
      by true = get_or-set_other w.passes z p (take t.rules z (known w.passes z) (look w.words (site (plan t.rules z (known w.passes z)))) choice) (idle p) apart
      by false = refl
  stays (Tries z mode) d = by (is_idle_there w z) refl
    where
      by : (b : Bool) → is_idle_there w z ≡ b → known (cond b (tried w z (known w.passes z) mode) w).passes p ≡ known w.passes p
      by true e = set-else z _ (there-off z e)
      by false e = refl
  stays (Disables z) d = refl
  stays Fills d = by (has_seat w)
    where
      by : (b : Bool) → known (cond b (with_one_more w) w).passes p ≡ known w.passes p
      by true = known-one w.passes p
      by false = refl
  stays (Replaces z g) d = by (is_idle_there w z) refl
    where
      by : (b : Bool) → is_idle_there w z ≡ b → known (cond b (placed_at w z (to phase.Idle (record g { me = z }))) w).passes p ≡ known w.passes p
      by true e = set-else z (to phase.Idle (record g { me = z })) (there-off z e)
      by false e = refl

  -- what the line doesn't show leaves what is left
  unshown : (w' : World) (a : Advances t w ok event.Nothing w') → known w'.passes p ≡ known w.passes p → left t w' a.lawful p ≡ left t w ok p
  unshown w' a s = λ j. round_measure (count t) (a.shown j) p (s j)

  not-own : (m : Move) → is_step_of p (Moves m) ≡ false → is_own w p m ≡ false
  not-own (Acquire z mode) d = refl
  not-own (Release z) d = refl
  not-own (Step z choice) d = λ j. d j && is_awake (known w.passes p).nap

  lefts : (c : Change) (a : Advances t w ok (change_event t.rules w c) (after_change t.rules w c)) → is_step_of p c ≡ false → left t (after_change t.rules w c) a.lawful p ≡ left t w ok p
  lefts (Moves m) a d = (others-keep t w ok p m a r (not-own m d)).1
  lefts (Tries z mode) a d = by (is_idle_there w z) refl a
    where
      by : (b : Bool) → is_idle_there w z ≡ b → (a : Advances t w ok (cond b (attempt_event mode z (look w.words (site (attempt_plan mode)))) event.Nothing) (cond b (tried w z (known w.passes z) mode) w))
          → left t (cond b (tried w z (known w.passes z) mode) w) a.lawful p ≡ left t w ok p
      by true e a = let u = both-true (nat_lt z (length w.passes)) (is_idle (known w.passes z).phase) e in
          (others-attempt-keeps t w ok p z (known w.passes z) mode a r (at-read w.passes z (idle z) (below-is z (length w.passes) u.0)) (idle-is (known w.passes z).phase u.1)).1
      by false e a = unshown w a refl
  lefts (Disables z) a d = unshown (stealing_disabled w) a refl
  lefts Fills a d = unshown (after_change t.rules w Fills) a (stays Fills refl)
  lefts (Replaces z g) a d = unshown (after_change t.rules w (Replaces z g)) a (stays (Replaces z g) refl)

  pub left-alone : (c : Change) (a : Advances t w ok (change_event t.rules w c) (after_change t.rules w c)) → is_step_of p c ≡ false
      → (in_round (after_change t.rules w c) p ≡ true) × (steps_left t (after_change t.rules w c) a.lawful p ≡ steps_left t w ok p)
  left-alone c a d = let s = stays c d in (ap (λ (z : PassState). is_round z.phase) s ∙ r, (λ j. 2 * lefts c a d j + cond (is_awake (s j).nap) 0 1))
