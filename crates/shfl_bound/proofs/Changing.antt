-- How each change leaves the waiter that is moved up, as the event says that the line shows.
use Rattle.std.proofs.Common.{◌≡◌, ◌≢◌, ℕ, suc, ◌+◌, ◌<◌, ◌⊎◌, Bool, true, false, cond, List, length, length-set, set, get_or-set_other, refl, sym, ap, ◌∙◌, inl, inr, subst, ⊎_elim, arith}
use Rattle.std.specs.Prelude.{◌&&◌, ◌||◌, ◌==◌, nat_lt}
use Rattle.shfl_line.specs.declared.events.Mode.{Mode}
use Rattle.shfl_line.specs.declared.events.Mode.TheVariants.{Write, Read}
use Rattle.shfl_line.specs.declared.events.LineEvent.{LineEvent}
use Rattle.shfl_line.specs.declared.events.LineEvent.TheVariants as event
use Rattle.shfl_line.specs.Line.{Line, mark_of}
use Rattle.shfl_line.specs.Words.{held_of, closed_of}
use Rattle.shfl_line.specs.Passes.{last_marked}
use Rattle.shfl_line.proofs.Chain
use Rattle.shfl_core.specs.declared.phase.Phase.{Phase}
use Rattle.shfl_core.specs.declared.phase.Phase.TheVariants as phase
use Rattle.shfl_core.specs.declared.phase.Nap.{Nap}
use Rattle.shfl_core.specs.declared.phase.Nap.TheVariants.{Awake, Doze, Hear, Rouse, Ring}
use Rattle.shfl_core.specs.declared.phase.PassState.{PassState}
use Rattle.shfl_core.specs.Words.{look, site}
use Rattle.shfl_core.specs.Plan.{plan, moving, is_idle, is_awake, is_resting, attempt_plan}
use Rattle.shfl_core.specs.Take.{to, take, take_at, take_by, entry, exit, acquired, released, attempted}
use Rattle.shfl_core.specs.Waiting.{idle}
use Rattle.shfl_core.specs.Worlds.{World, known, placed_at, stepped, tried, Move, Acquire, Release, Step}
use Rattle.shfl_core.specs.Events.{event as event_of, event_at, attempt_event}
use Rattle.shfl_core.specs.Phases.{is_round}
use Rattle.shfl_core.specs.Lawful.{Terms, Lawful, Advances}
use Rattle.shfl_core.proofs.Lists.{past, below-or}
use Rattle.shfl_laws.specs.Stealing.{stealing_disabled}
use Rattle.shfl_laws.proofs.words.Frame.{known-set}
use Rattle.shfl_laws.proofs.laws.Opens.{known-one}
use Rattle.shfl_laws.specs.Moves.{with_one_more}
use Rattle.shfl_laws.specs.Changes.{Change, Moves, Tries, Disables, Fills, Replaces, is_idle_there, has_seat, after_change, change_event}
use Rattle.shfl_bound.proofs.LineSteps.{Chosen, Goes}
use Rattle.shfl_bound.proofs.MovedUp.{moves_up, moved, moved-some, moved-up, marks-next, places-hand, still, turns-on, turns-off}
use Rattle.shfl_bound.proofs.Steps.{is_plain, leads, goes-plain, goes-cond, asleep}

pub both-true : (a b : Bool) → (a && b) ≡ true → (a ≡ true) × (b ≡ true)
both-true true b e = (refl, e)
both-true false b e = absurd (cc)

-- a pass that has a step to make, or that is idle and there
module _ (t : Terms) (w : World) (ok : Lawful t w) where
  abbrev s : Line
  s = ok.shown

  abbrev now : ℕ
  now = moved t w ok

  known-else : (r : ℕ) (v : PassState) (z : ℕ) → z ≢ r → known (set w.passes r v) z ≡ known w.passes z
  known-else r v z n = get_or-set_other w.passes r z v (idle z) n

  -- the same passes
  unchanged : (w' : World) (ok' : Lawful t w') → w'.passes ≡ w.passes → moved t w' ok' ≡ moved t w ok
  unchanged w' ok' e = still t w ok w' ok' 0 (λ z _. ap (λ (l : List PassState). known l z) e) (ap (λ (l : List PassState). moves_up (known l 0).phase) e) (λ _. ap (λ (l : List PassState). (known l 0).reg.cand) e)

  -- a pass that moved nobody up moves nobody up
  quiet : (w' : World) (ok' : Lawful t w') (r : ℕ) (v : PassState) → w'.passes ≡ set w.passes r v → moves_up (known w.passes r).phase ≡ false → moves_up v.phase ≡ false → moved t w' ok' ≡ moved t w ok
  quiet w' ok' r v e off out = still t w ok w' ok' r (λ z n. ap (λ (l : List PassState). known l z) e ∙ known-else r v z n) (here ∙ sym off) (λ h. absurd (cc))
    where
      here : moves_up (known w'.passes r).phase ≡ false
      here = ⊎_elim
          (λ below. ap (λ (l : List PassState). moves_up (known l r).phase) e ∙ (ap (λ (q : PassState). moves_up q.phase) (known-set w.passes r v below r ∙ Chain.updated-same (known w.passes) r v) ∙ out))
          (λ over. ap (λ (l : List PassState). moves_up (known l r).phase) e ∙ ap (λ (q : PassState). moves_up q.phase)
          (past (set w.passes r v) r (idle r) (let a = length-set w.passes r v in omega arith)))
          (below-or r (length w.passes))

  idle-off : (q : PassState) → is_idle q.phase ≡ true → moves_up q.phase ≡ false
  idle-off q e = grind arith

  resting-off : (q : PassState) → is_resting q ≡ true → moves_up q.phase ≡ false
  resting-off q e = grind arith

  acquire : (r : ℕ) (mode : Mode) (b : Bool) → is_idle (known w.passes r).phase ≡ b → (ok' : Lawful t (cond b (placed_at w r (acquired mode (known w.passes r))) w)) → moved t (cond b (placed_at w r (acquired mode (known w.passes r))) w) ok' ≡ moved t w ok
  acquire r mode false e ok' = unchanged w ok' refl
  acquire r mode true e ok' = quiet (placed_at w r (acquired mode (known w.passes r))) ok' r (acquired mode (known w.passes r)) refl (idle-off (known w.passes r) e)
      (ap (λ (b : Bool). moves_up (cond b (record (known w.passes r) { phase = entry mode; reg = record (known w.passes r).reg { mode = mode } }) (known w.passes r)).phase) e ∙ enters mode)
    where
      enters : (mode : Mode) → moves_up (entry mode) ≡ false
      enters Write = refl
      enters Read = refl

  release : (r : ℕ) (b : Bool) → is_resting (known w.passes r) ≡ b → (ok' : Lawful t (cond b (placed_at w r (released (known w.passes r))) w)) → moved t (cond b (placed_at w r (released (known w.passes r))) w) ok' ≡ moved t w ok
  release r false e ok' = unchanged w ok' refl
  release r true e ok' = quiet (placed_at w r (released (known w.passes r))) ok' r (released (known w.passes r)) refl (resting-off (known w.passes r) e)
      (ap (λ (b : Bool). moves_up (cond b (record (known w.passes r) { phase = exit (known w.passes r).reg.mode }) (known w.passes r)).phase) e ∙ exits (known w.passes r).reg.mode)
    where
      exits : (mode : Mode) → moves_up (exit mode) ≡ false
      exits Write = refl
      exits Read = refl

  -- the step of the pass r
  module _ (r : ℕ) (c : Bool) (below : r < length w.passes) where
    abbrev q : PassState
    q = known w.passes r

    abbrev n : ℕ
    n = look w.words (site (plan t.rules r q))

    abbrev W : World
    W = stepped t.rules w r q c

    stands : known W.passes r ≡ take t.rules r q n c
    stands = known-set w.passes r (take t.rules r q n c) below r ∙ Chain.updated-same (known w.passes) r (take t.rules r q n c)

    else : (z : ℕ) → z ≢ r → known W.passes z ≡ known w.passes z
    else z d = known-else r (take t.rules r q n c) z d

    -- a step of parking
    sleeping : (ok' : Lawful t W) → (q.nap ≡ Awake → ⊥) → moved t W ok' ≡ moved t w ok
    sleeping ok' d = let v = stands ∙ asleep t.rules r q.reg n c q.nap q.phase d in still t w ok W ok' r else
        (ap (λ (z : PassState). moves_up z.phase) v) (λ _. ap (λ (z : PassState). z.reg.cand) v)

    -- a step of the pass's phase
    module _ (e : q.nap ≡ Awake) (f : Phase) (p : q.phase ≡ f) where
      taken : known W.passes r ≡ take_at t.rules r q.reg n c f
      taken = stands ∙ (λ j. take_by t.rules r q.reg n c (e j) (p j))

      up-was : moves_up q.phase ≡ moves_up f
      up-was = ap moves_up p

      up-is : moves_up (known W.passes r).phase ≡ moves_up (take_at t.rules r q.reg n c f).phase
      up-is = ap (λ (z : PassState). moves_up z.phase) taken

      cand-is : (known W.passes r).reg.cand ≡ (take_at t.rules r q.reg n c f).reg.cand
      cand-is = ap (λ (z : PassState). z.reg.cand) taken

      plain : (ok' : Lawful t W) → is_plain f ≡ true → moved t W ok' ≡ moved t w ok
      plain ok' h = still t w ok W ok' r else (up-is ∙ (leads t.rules r q.reg n c f h ∙ sym (up-was ∙ off))) (λ u. absurd (let a = up-was ∙ off in cc))
        where
          off : moves_up f ≡ false
          off = grind (arith, h)

      -- from one store of a relink to the next
      goes-on : (ok' : Lawful t W) → moves_up (take_at t.rules r q.reg n c f).phase ≡ moves_up f → (take_at t.rules r q.reg n c f).reg.cand ≡ q.reg.cand → moved t W ok' ≡ moved t w ok
      goes-on ok' u k = still t w ok W ok' r else (up-is ∙ (u ∙ sym up-was)) (λ _. cand-is ∙ k)

      chooses : (a : Advances t w ok event.Nothing W) → is_round f ≡ true → moves_up f ≡ false → moves_up (take_at t.rules r q.reg n c f).phase ≡ true → Chosen ok.shown (moved t w ok) (moved t W a.lawful)
      chooses a h off on = let u = turns-on t w ok W a.lawful r else (ap is_round p ∙ h) (up-was ∙ off) (up-is ∙ on) in let k = moved-up t W a.lawful in record {
        who = (known W.passes r).reg.cand;
        before = u.0;
        after = u.1;
        unmarked = ap (λ (z : Line). mark_of z (known W.passes r).reg.cand) (sym a.shown) ∙ k.unmarked (known W.passes r).reg.cand u.1;
        batch = subst (λ (z : Line). 0 < last_marked (mark_of z) z.line) a.shown (k.batch (let b = u.1 in omega arith));
      }

    decides : (a : Advances t w ok event.Nothing W) → q.nap ≡ Awake → q.phase ≡ phase.Decide → (moved t W a.lawful ≡ moved t w ok) ⊎ Chosen ok.shown (moved t w ok) (moved t W a.lawful)
    decides a e p = by (moves_up (take_at t.rules r q.reg n c phase.Decide).phase) refl
      where
        by : (b : Bool) → moves_up (take_at t.rules r q.reg n c phase.Decide).phase ≡ b → (moved t W a.lawful ≡ moved t w ok) ⊎ Chosen ok.shown (moved t w ok) (moved t W a.lawful)
        by true i = inr (chooses e phase.Decide p a refl refl i)
        by false i = inl (still t w ok W a.lawful r else (up-is e phase.Decide p ∙ (i ∙ sym (up-was e phase.Decide p))) (λ u. absurd (let b = up-was e phase.Decide p in cc)))

    awake : (f : Phase) → q.nap ≡ Awake → q.phase ≡ f → (a : Advances t w ok (event_at t.rules r q.reg n f) W) → Goes ok.shown (event_at t.rules r q.reg n f) (moved t w ok) (moved t W a.lawful)
    awake phase.Decide e p a = decides a e p
    awake phase.Pick e p a = let u = turns-on t w ok W a.lawful r else (ap is_round p) (up-was e phase.Pick p) (up-is e phase.Pick p) in (u.0, u.1 ∙ ap suc (cand-is e phase.Pick p))
    awake phase.Aim e p a = inl (goes-on e phase.Aim p a.lawful refl refl)
    awake phase.Place e p a = (moved-some t w ok r (up-was e phase.Place p) ∙ sym (places-hand t w ok r p), goes-on e phase.Place p a.lawful refl refl)
    awake phase.Mark e p a = let u = turns-off t w ok W a.lawful r else (up-was e phase.Mark p) (up-is e phase.Mark p ∙ ends (nat_lt (q.reg.count + 1) t.rules.limit)) in (u.0 ∙ sym (marks-next t w ok r p), u.1)
      where
        ends : (b : Bool) → moves_up (cond b phase.Next phase.Give) ≡ false
        ends true = refl
        ends false = refl
    awake f e p a = goes-plain ok.shown (moved t w ok) (moved t W a.lawful) t.rules r q.reg n f refl (plain e f p a.lawful refl)

    step : (a : Advances t w ok (event_of t.rules r q n) W) → Goes ok.shown (event_of t.rules r q n) (moved t w ok) (moved t W a.lawful)
    step a = by (is_awake q.nap) refl a
      where
        awake-is : (x : Nap) → is_awake x ≡ true → x ≡ Awake
        awake-is Awake e = refl
        awake-is Doze e = absurd (cc)
        awake-is Hear e = absurd (cc)
        awake-is Rouse e = absurd (cc)
        awake-is (Ring z) e = absurd (cc)

        by : (b : Bool) → is_awake q.nap ≡ b → (a : Advances t w ok (cond b (event_at t.rules r q.reg n q.phase) event.Nothing) W) → Goes ok.shown (cond b (event_at t.rules r q.reg n q.phase) event.Nothing) (moved t w ok) (moved t W a.lawful)
        by true e a = awake q.phase (awake-is q.nap e) refl a
        by false e a = inl (sleeping a.lawful (λ i. let b = ap is_awake i in cc))

  abbrev shows : ℕ → LineEvent
  shows r = event_of t.rules r (known w.passes r) (look w.words (site (plan t.rules r (known w.passes r))))

  move : (m : Move) (a : Advances t w ok (change_event t.rules w (Moves m)) (after_change t.rules w (Moves m))) → Goes ok.shown (change_event t.rules w (Moves m)) (moved t w ok) (moved t (after_change t.rules w (Moves m)) a.lawful)
  move (Acquire r mode) a = inl (acquire r mode (is_idle (known w.passes r).phase) refl a.lawful)
  move (Release r) a = inl (release r (is_resting (known w.passes r)) refl a.lawful)
  move (Step r c) a = by (moving (known w.passes r)) refl a
    where
      in-lock : moving (known w.passes r) ≡ true → r < length w.passes
      in-lock h = ⊎_elim (λ b. b) (λ over. absurd (let e : moving (known w.passes r) ≡ false = ap moving (past w.passes r (idle r) over) in cc)) (below-or r (length w.passes))

      by : (b : Bool) → moving (known w.passes r) ≡ b → (a : Advances t w ok (cond b (shows r) event.Nothing) (cond b (stepped t.rules w r (known w.passes r) c) w))
          → Goes ok.shown (cond b (shows r) event.Nothing) (moved t w ok) (moved t (cond b (stepped t.rules w r (known w.passes r) c) w) a.lawful)
      by true e a = step r c (in-lock e) a
      by false e a = inl (unchanged w a.lawful refl)

  try : (p : ℕ) (mode : Mode) (b : Bool) → is_idle_there w p ≡ b → (a : Advances t w ok (cond b (attempt_event mode p (look w.words (site (attempt_plan mode)))) event.Nothing) (cond b (tried w p (known w.passes p) mode) w))
      → Goes ok.shown (cond b (attempt_event mode p (look w.words (site (attempt_plan mode)))) event.Nothing) (moved t w ok) (moved t (cond b (tried w p (known w.passes p) mode) w) a.lawful)
  try p mode false e a = inl (unchanged w a.lawful refl)
  try p mode true e a = by mode a
    where
      off : moves_up (known w.passes p).phase ≡ false
      off = idle-off (known w.passes p) (both-true (nat_lt p (length w.passes)) (is_idle (known w.passes p).phase) e).1

      either : (b : Bool) (f g : PassState) → moves_up f.phase ≡ false → moves_up g.phase ≡ false → moves_up (cond b f g).phase ≡ false
      either true f g x y = x
      either false f g x y = y

      by : (mode : Mode) → (a : Advances t w ok (attempt_event mode p (look w.words (site (attempt_plan mode)))) (tried w p (known w.passes p) mode))
          → Goes ok.shown (attempt_event mode p (look w.words (site (attempt_plan mode)))) (moved t w ok) (moved t (tried w p (known w.passes p) mode) a.lawful)
      by Write a = let i = quiet (tried w p (known w.passes p) Write) a.lawful p (attempted Write (known w.passes p).reg (look w.words (site (attempt_plan Write)))) refl off
          (either (look w.words (site (attempt_plan Write)) == 0) _ _ refl refl) in
          goes-cond ok.shown (moved t w ok) (moved t (tried w p (known w.passes p) Write) a.lawful) (look w.words (site (attempt_plan Write)) == 0) (event.Steal p Write) event.Nothing i (inl i)
      by Read a = let i = quiet (tried w p (known w.passes p) Read) a.lawful p (attempted Read (known w.passes p).reg (look w.words (site (attempt_plan Read)))) refl off
          (either (held_of (look w.words (site (attempt_plan Read))) || closed_of (look w.words (site (attempt_plan Read)))) _ _ refl refl) in
          goes-cond ok.shown (moved t w ok) (moved t (tried w p (known w.passes p) Read) a.lawful) (held_of (look w.words (site (attempt_plan Read))) || closed_of (look w.words (site (attempt_plan Read)))) event.Nothing (event.Steal p Read) (inl i) i

  pub goes : (c : Change) (a : Advances t w ok (change_event t.rules w c) (after_change t.rules w c)) → Goes ok.shown (change_event t.rules w c) (moved t w ok) (moved t (after_change t.rules w c) a.lawful)
  goes (Moves m) a = move m a
  goes (Tries p mode) a = try p mode (is_idle_there w p) refl a
  goes (Disables z) a = inl (unchanged (stealing_disabled w) a.lawful refl)
  goes Fills a = by (has_seat w) a
    where
      by : (b : Bool) (a : Advances t w ok event.Nothing (cond b (with_one_more w) w)) → Goes ok.shown event.Nothing (moved t w ok) (moved t (cond b (with_one_more w) w) a.lawful)
      by true a = inl (still t w ok (with_one_more w) a.lawful 0 (λ z _. known-one w.passes z) (ap (λ (q : PassState). moves_up q.phase) (known-one w.passes 0)) (λ _. ap (λ (q : PassState). q.reg.cand) (known-one w.passes 0)))
      by false a = inl (unchanged w a.lawful refl)
  goes (Replaces p r) a = by (is_idle_there w p) refl a
    where
      by : (b : Bool) → is_idle_there w p ≡ b → (a : Advances t w ok event.Nothing (cond b (placed_at w p (to phase.Idle (record r { me = p }))) w))
          → Goes ok.shown event.Nothing (moved t w ok) (moved t (cond b (placed_at w p (to phase.Idle (record r { me = p }))) w) a.lawful)
      by true e a = inl (quiet (placed_at w p (to phase.Idle (record r { me = p }))) a.lawful p (to phase.Idle (record r { me = p })) refl
          (idle-off (known w.passes p) (both-true (nat_lt p (length w.passes)) (is_idle (known w.passes p).phase) e).1) refl)
      by false e a = inl (unchanged w a.lawful refl)
