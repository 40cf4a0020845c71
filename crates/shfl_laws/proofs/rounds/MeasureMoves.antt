-- What is left of a round, through every move: own steps lower it, and any other move keeps it.
use Rattle.std.proofs.Common.{◌≡◌, ◌≢◌, ℕ, zero, suc, ◌+◌, ◌-◌, ◌*◌, ◌<◌, List, Bool, true, false, cond, ◌==◌, ◌&&◌, length, set, get_or-set_other, refl, sym, ap, ◌∙◌, subst, ⊎_elim, arith}
use Rattle.std.specs.Prelude.{nat_lt}
use Rattle.std.proofs.lemmas.Bool.Decides.{nat_tests}
use Rattle.shfl_line.specs.declared.events.Mode.TheVariants.{Write, Read}
use Rattle.shfl_line.specs.declared.events.Role.{Role}
use Rattle.shfl_line.specs.declared.events.Role.TheVariants.{Nobody, Rest as Idle, Walk}
use Rattle.shfl_line.specs.declared.events.LineEvent.{LineEvent}
use Rattle.shfl_line.specs.declared.events.LineEvent.TheVariants as event
use Rattle.shfl_line.specs.Line.{Line, active_shuffler, idle_shuffler}
use Rattle.shfl_line.specs.Words.{link_word}
use Rattle.shfl_line.specs.Passes.{without}
use Rattle.shfl_line.specs.Steps.{Admits, MayBegin, after}
use Rattle.shfl_line.proofs.Chain
use Rattle.shfl_line.proofs.KeptLine.{tail-of}
use Rattle.shfl_core.specs.declared.phase.Phase.{Phase}
use Rattle.shfl_core.specs.declared.phase.Phase.TheVariants as phase
use Rattle.shfl_core.specs.declared.phase.Registers.{Registers as Regs}
use Rattle.shfl_core.specs.declared.phase.Nap.{Nap}
use Rattle.shfl_core.specs.declared.phase.Nap.TheVariants.{Awake, Doze, Hear, Rouse, Ring}
use Rattle.shfl_core.specs.declared.phase.PassState.{PassState}
use Rattle.shfl_core.specs.declared.phase.Rules.{Rules}
use Rattle.shfl_core.specs.Words.{look, site}
use Rattle.shfl_core.specs.Plan.{plan, plan_by, is_awake, moving, is_idle, is_resting, round_batch}
use Rattle.shfl_core.specs.Take.{take, take_by, nap_found, acquired, released}
use Rattle.shfl_core.specs.Waiting.{idle}
use Rattle.shfl_core.specs.Worlds.{World, known, stepped, placed_at, Move, Acquire, Release, Step, after_move}
use Rattle.shfl_core.specs.Events.{event as event_of, event_at, leave_found}
use Rattle.shfl_core.specs.Phases.{is_round}
use Rattle.shfl_core.specs.Lawful.{Terms, count, Lawful, Advances}
use Rattle.shfl_core.proofs.Lists.{past, below-or}
use Rattle.shfl_laws.specs.Moves.{move_event}
use Rattle.shfl_laws.specs.RoundMeasure.{stretch, unseen, phase_measure, round_measure}
use Rattle.shfl_laws.specs.Rounds.{in_round, left, is_own}
use Rattle.shfl_laws.proofs.words.Frame.{known-set}
use Rattle.shfl_laws.proofs.rounds.MeasureRows.{falls, walks, inside, prev-after}
use Rattle.shfl_laws.proofs.rounds.Stretch.{stretch-push, stretch-leave}

-- the event is a step of r
abbrev By : ℕ → LineEvent → Type 0
By r (event.Steal p mode) = p ≡ r
By r (event.Join p) = p ≡ r
By r (event.Grab p mode) = p ≡ r
By r (event.Leave p) = p ≡ r
By r (event.Release p) = p ≡ r
By r (event.Begin p) = p ≡ r
By r (event.Rest p) = p ≡ r
By r (event.Pick p who) = p ≡ r
By r (event.Place p) = p ≡ r
By r (event.Keep p) = p ≡ r
By r (event.Give p) = p ≡ r
By r event.Nothing = Unit {0}

by-cond : (r : ℕ) (b : Bool) (e d : LineEvent) → By r e → By r d → By r (cond b e d)
by-cond r true e d x y = x
by-cond r false e d x y = y

by-leave : (r n : ℕ) → By r (leave_found r n)
by-leave r zero = tt
by-leave r (suc n) = refl

by-at : (t : Rules) (r : ℕ) (g : Regs) (n : ℕ) (f : Phase) → By r (event_at t r g n f)
by-at t r g n phase.Steal = by-cond r (n == 0) (event.Steal r Write) event.Nothing refl tt
by-at t r g n phase.Swap = refl
by-at t r g n phase.Begin = by-cond r (nat_lt (round_batch g) t.limit) (event.Begin r) (event.Rest r) refl refl
by-at t r g n phase.Pick = refl
by-at t r g n phase.Place = refl
by-at t r g n phase.Mark = refl
by-at t r g n phase.Give = refl
by-at t r g n phase.Grab = by-cond r _ event.Nothing (event.Grab r Write) tt refl
by-at t r g n phase.WriteGrab = by-cond r (n == g.saw) (event.Grab r Write) event.Nothing refl tt
by-at t r g n phase.Take = by-leave r n
by-at t r g n phase.Cut = by-cond r (n == r + 1) (event.Leave r) event.Nothing refl tt
by-at t r g n phase.Late = by-leave r n
by-at t r g n phase.Release = refl
by-at t r g n phase.Count = by-cond r _ event.Nothing (event.Steal r Read) tt refl
by-at t r g n phase.HeadCount = by-cond r _ event.Nothing (event.Grab r Read) tt refl
by-at t r g n phase.HeadLook = by-cond r _ event.Nothing (event.Grab r Read) tt refl
by-at t r g n phase.ReadRelease = refl
by-at t r g n _ = tt

by-step : (t : Rules) (r : ℕ) (q : PassState) (n : ℕ) → By r (event_of t r q n)
by-step t r q n = by-cond r (is_awake q.nap) (event_at t r q.reg n q.phase) event.Nothing (by-at t r q.reg n q.phase) tt

pub taken-apart : (a b : Bool) → (a && b) ≡ true → (a ≡ true) × (b ≡ true)
taken-apart true b e = (refl, e)
taken-apart false b e = absurd (cc)

not-both : (r : Role) (p q : ℕ) → active_shuffler r ≡ suc p → idle_shuffler r ≡ suc q → ⊥
not-both Nobody p q a b = omega arith
not-both (Idle x) p q a b = omega arith
not-both (Walk x) p q a b = omega arith

no-begin : (s : Line) (p q : ℕ) → active_shuffler s.role ≡ suc p → MayBegin s q → ⊥
no-begin s p q a m = ⊎_elim (λ e. not-both s.role p q a e) (λ t. (let b : active_shuffler s.role ≡ 0 = ap active_shuffler t.2 in omega arith)) m.may

module _ (t : Terms) (w : World) (p : ℕ) (ok : Lawful t w) (r : is_round (known w.passes p).phase ≡ true) where
  -- another pass's event
  unseen-same : (q : ℕ) (e : LineEvent) → q ≢ p → By q e → Admits t.rules.limit ok.shown e → unseen (count t) (after ok.shown e) p (known w.passes p).reg ≡ unseen (count t) ok.shown p (known w.passes p).reg
  unseen-same q (event.Steal x mode) n b a = refl
  unseen-same q (event.Join x) n b a = let m = stretch-push p (known w.passes p).reg.prev x ok.shown.line (inside t w p ok r) (prev-after t w p ok r) in
      ap (λ (l : List ℕ). count t - (length l + cond (link_word ok.shown.hand == 0) 0 1)) m
  unseen-same q (event.Grab x mode) n b a = refl
  unseen-same q (event.Leave x) n b a = let u = tail-of x ok.shown.line a.0 in
      let m : stretch p (known w.passes p).reg.prev (without x ok.shown.line) ≡ stretch p (known w.passes p).reg.prev ok.shown.line =
      subst (λ (l : List ℕ). stretch p (known w.passes p).reg.prev (without x l) ≡ stretch p (known w.passes p).reg.prev l) (sym u.1) (sym (stretch-leave p (known w.passes p).reg.prev x u.0 (λ i. n (sym b ∙ i)))) in
      ap (λ (l : List ℕ). count t - (length l + cond (link_word ok.shown.hand == 0) 0 1)) m
  unseen-same q (event.Release x) n b a = refl
  unseen-same q (event.Begin x) n b a = absurd (no-begin ok.shown p x (walks t w p ok r) a.0)
  unseen-same q (event.Rest x) n b a = absurd (no-begin ok.shown p x (walks t w p ok r) a.0)
  unseen-same q (event.Pick x who) n b a = absurd (n (let c = a.1.active in let d = walks t w p ok r in omega arith))
  unseen-same q (event.Place x) n b a = absurd (n (let c = a.1.active in let d = walks t w p ok r in omega arith))
  unseen-same q (event.Keep x) n b a = absurd (n (let c = a.1.active in let d = walks t w p ok r in omega arith))
  unseen-same q (event.Give x) n b a = absurd (n (let c = a.1.active in let d = walks t w p ok r in omega arith))
  unseen-same q event.Nothing n b a = refl

  pub in-lock : p < length w.passes
  in-lock = ⊎_elim (λ h. h) (λ h. absurd (let e : known w.passes p ≡ idle p = past w.passes p (idle p) h in let i : is_round (known w.passes p).phase ≡ false = ap (λ (z : PassState). is_round z.phase) e in cc)) (below-or p (length w.passes))

  moves : moving (known w.passes p) ≡ true
  moves = grind (arith, r)

  -- a move of another pass
  other-keeps : (m : Move) (a : Advances t w ok (move_event t.rules w m) (after_move t.rules w m)) (q : ℕ) → q ≢ p → By q (move_event t.rules w m) → known (after_move t.rules w m).passes p ≡ known w.passes p
      → (in_round (after_move t.rules w m) p ≡ true) × (left t (after_move t.rules w m) a.lawful p ≡ left t w ok p)
  other-keeps m a q n by same = (
    ap (λ (z : PassState). is_round z.phase) same ∙ r,
    (λ j. round_measure (count t) (a.shown j) p (same j)) ∙ ap (λ z. 9 * z + phase_measure (known w.passes p).reg (known w.passes p).phase) (unseen-same q (move_event t.rules w m) n by a.admitted),
  )

  -- a move that leaves the line and the pass but for its park state
  still-keeps : (m : Move) (a : Advances t w ok (move_event t.rules w m) (after_move t.rules w m)) (x : Nap) → move_event t.rules w m ≡ event.Nothing → known (after_move t.rules w m).passes p ≡ record (known w.passes p) { nap = x }
      → (in_round (after_move t.rules w m) p ≡ true) × (left t (after_move t.rules w m) a.lawful p ≡ left t w ok p)
  still-keeps m a x none same = (
    ap (λ (z : PassState). is_round z.phase) same ∙ r,
    (λ j. round_measure (count t) ((a.shown ∙ ap (after ok.shown) none) j) p (same j)),
  )

  known-else : (q : ℕ) (v : PassState) → q ≢ p → known (set w.passes q v) p ≡ known w.passes p
  known-else q v n = get_or-set_other w.passes q p v (idle p) (λ i. n (sym i))

  asleep : (g : Regs) (n : ℕ) (c : Bool) (x : Nap) (f : Phase) → is_awake x ≡ false → take_by t.rules p g n c x f ≡ record { phase = f; reg = g; nap = nap_found x n }
  asleep g n c Awake f e = absurd (cc)
  asleep g n c Doze f e = refl
  asleep g n c Hear f e = refl
  asleep g n c Rouse f e = refl
  asleep g n c (Ring q) f e = refl

  pub others : (m : Move) (a : Advances t w ok (move_event t.rules w m) (after_move t.rules w m)) → is_own w p m ≡ false
      → (in_round (after_move t.rules w m) p ≡ true) × (left t (after_move t.rules w m) a.lawful p ≡ left t w ok p)
  others (Acquire q mode) a own = still-keeps (Acquire q mode) a (known w.passes p).nap refl (by (is_idle (known w.passes q).phase) refl)
    where
      by : (b : Bool) → is_idle (known w.passes q).phase ≡ b → known (cond b (placed_at w q (acquired mode (known w.passes q))) w).passes p ≡ known w.passes p
      by true e = known-else q (acquired mode (known w.passes q)) (λ i. (let d : is_idle (known w.passes p).phase ≡ true = subst (λ z. is_idle (known w.passes z).phase ≡ true) i e in grind (arith, r)))
      by false e = refl
  others (Release q) a own = still-keeps (Release q) a (known w.passes p).nap refl (by (is_resting (known w.passes q)) refl)
    where
      by : (b : Bool) → is_resting (known w.passes q) ≡ b → known (cond b (placed_at w q (released (known w.passes q))) w).passes p ≡ known w.passes p
      by true e = known-else q (released (known w.passes q)) (λ i. (let d : is_resting (known w.passes p) ≡ true = subst (λ z. is_resting (known w.passes z) ≡ true) i e in grind (arith, r)))
      by false e = refl
  others (Step q c) a own = Chain.by_eq q p
      (λ i. subst (λ z. (b : Advances t w ok (move_event t.rules w (Step z c)) (after_move t.rules w (Step z c))) → is_own w p (Step z c) ≡ false
      → (in_round (after_move t.rules w (Step z c)) p ≡ true) × (left t (after_move t.rules w (Step z c)) b.lawful p ≡ left t w ok p)) (sym i) mine a own)
      (λ n. other-keeps (Step q c) a q n
      (by-cond q (moving (known w.passes q)) (event_of t.rules q (known w.passes q) (look w.words (site (plan t.rules q (known w.passes q))))) event.Nothing (by-step t.rules q (known w.passes q) (look w.words (site (plan t.rules q (known w.passes q))))) tt)
      (by (moving (known w.passes q)) n))
    where
      by : (b : Bool) → q ≢ p → known (cond b (stepped t.rules w q (known w.passes q) c) w).passes p ≡ known w.passes p
      by true n = known-else q (take t.rules q (known w.passes q) (look w.words (site (plan t.rules q (known w.passes q)))) c) n
      by false n = refl

      mine : (b : Advances t w ok (move_event t.rules w (Step p c)) (after_move t.rules w (Step p c))) → is_own w p (Step p c) ≡ false
          → (in_round (after_move t.rules w (Step p c)) p ≡ true) × (left t (after_move t.rules w (Step p c)) b.lawful p ≡ left t w ok p)
      mine b own = let off : is_awake (known w.passes p).nap ≡ false = grind (arith, nat_tests) in
          still-keeps (Step p c) b (nap_found (known w.passes p).nap (look w.words (site (plan t.rules p (known w.passes p)))))
          ((λ j. cond (moves j) (cond (off j) (event_at t.rules p (known w.passes p).reg (look w.words (site (plan t.rules p (known w.passes p)))) (known w.passes p).phase) event.Nothing) event.Nothing))
          (ap (λ (z : Bool). known (cond z (stepped t.rules w p (known w.passes p) c) w).passes p) moves
          ∙ (known-set w.passes p (take t.rules p (known w.passes p) (look w.words (site (plan t.rules p (known w.passes p)))) c) in-lock p
          ∙ (Chain.updated-same (known w.passes) p (take t.rules p (known w.passes p) (look w.words (site (plan t.rules p (known w.passes p)))) c)
          ∙ asleep (known w.passes p).reg (look w.words (site (plan t.rules p (known w.passes p)))) c (known w.passes p).nap (known w.passes p).phase off)))

  -- the pass's own step
  own-fact : (c : Bool) → (known w.passes p).nap ≡ Awake → is_round (take t.rules p (known w.passes p) (look w.words (site (plan t.rules p (known w.passes p)))) c).phase ≡ true
      → round_measure (count t) (after ok.shown (event_of t.rules p (known w.passes p) (look w.words (site (plan t.rules p (known w.passes p)))))) p (take t.rules p (known w.passes p) (look w.words (site (plan t.rules p (known w.passes p)))) c)
      < round_measure (count t) ok.shown p (known w.passes p)
  own-fact c nap = subst (λ (x : Nap). is_round (take_by t.rules p (known w.passes p).reg (look w.words (site (plan_by t.rules p (known w.passes p).reg x (known w.passes p).phase))) c x (known w.passes p).phase).phase ≡ true
      → round_measure (count t) (after ok.shown (cond (is_awake x) (event_at t.rules p (known w.passes p).reg (look w.words (site (plan_by t.rules p (known w.passes p).reg x (known w.passes p).phase))) (known w.passes p).phase) event.Nothing)) p
      (take_by t.rules p (known w.passes p).reg (look w.words (site (plan_by t.rules p (known w.passes p).reg x (known w.passes p).phase))) c x (known w.passes p).phase)
      < round_measure (count t) ok.shown p (known w.passes p)) (sym nap) (falls t w p ok r c (known w.passes p).phase refl r)

  awake-is : (x : Nap) → is_awake x ≡ true → x ≡ Awake
  awake-is Awake e = refl
  awake-is Doze e = absurd (cc)
  awake-is Hear e = absurd (cc)
  awake-is Rouse e = absurd (cc)
  awake-is (Ring q) e = absurd (cc)

  own-mine : (c : Bool) (a : Advances t w ok (move_event t.rules w (Step p c)) (after_move t.rules w (Step p c))) → is_awake (known w.passes p).nap ≡ true → in_round (after_move t.rules w (Step p c)) p ≡ true
      → left t (after_move t.rules w (Step p c)) a.lawful p < left t w ok p
  own-mine c a on = let v : PassState = take t.rules p (known w.passes p) (look w.words (site (plan t.rules p (known w.passes p)))) c in
      let e : LineEvent = event_of t.rules p (known w.passes p) (look w.words (site (plan t.rules p (known w.passes p)))) in
      let shows : a.lawful.shown ≡ after ok.shown e = a.shown ∙ ap (λ (z : Bool). after ok.shown (cond z e event.Nothing)) moves in
      let stands : known (after_move t.rules w (Step p c)).passes p ≡ v = ap (λ (z : Bool). known (cond z (stepped t.rules w p (known w.passes p) c) w).passes p) moves
      ∙ (known-set w.passes p v in-lock p ∙ Chain.updated-same (known w.passes) p v) in
      subst (λ (z : Line × PassState). is_round z.1.phase ≡ true → round_measure (count t) z.0 p z.1 < left t w ok p) (λ j. (sym shows j, sym stands j)) (own-fact c (awake-is (known w.passes p).nap on))

  pub own : (m : Move) (a : Advances t w ok (move_event t.rules w m) (after_move t.rules w m)) → is_own w p m ≡ true → in_round (after_move t.rules w m) p ≡ true
      → left t (after_move t.rules w m) a.lawful p < left t w ok p
  own (Acquire q mode) a e = absurd (cc)
  own (Release q) a e = absurd (cc)
  own (Step q c) a e = let d : ((q == p) ≡ true) × (is_awake (known w.passes p).nap ≡ true) = taken-apart (q == p) (is_awake (known w.passes p).nap) e in
      let b : (q ≡ p) × (is_awake (known w.passes p).nap ≡ true) = ((let x = d.0 in grind (arith, nat_tests)), d.1) in
      subst (λ z. (d : Advances t w ok (move_event t.rules w (Step z c)) (after_move t.rules w (Step z c))) → in_round (after_move t.rules w (Step z c)) p ≡ true → left t (after_move t.rules w (Step z c)) d.lawful p < left t w ok p) (sym b.0)
      (λ d i. own-mine c d b.1 i) a
