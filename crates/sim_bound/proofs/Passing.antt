-- Over any turns of a run: whoever gains has left the queue or come past it.
use Rattle.std.proofs.Common.{◌≡◌, ◌≢◌, ℕ, zero, suc, ◌+◌, ◌<◌, ◌≤◌, ◌==◌, ◌&&◌, Bool, true, false, cond, not, List, [], ◌∷◌, ◌++◌, length, set, refl, sym, ap, subst, ◌∙◌, Option, Some, None, length-set, arith}
use Rattle.std.specs.Prelude.{map, nat_lt}
use Rattle.std.proofs.lemmas.List.{get_or-set_same, get_or-set_other}
use Rattle.shfl_line.specs.declared.events.Mode.{Mode}
use Rattle.shfl_line.specs.declared.events.Mode.TheVariants.{Write, Read}
use Rattle.shfl_line.specs.declared.events.LineEvent.{LineEvent}
use Rattle.shfl_line.specs.declared.events.LineEvent.TheVariants as event
use Rattle.shfl_core.specs.declared.phase.Phase.{Phase}
use Rattle.shfl_core.specs.declared.phase.Phase.TheVariants as phase
use Rattle.shfl_core.specs.declared.phase.PassState.{PassState}
use Rattle.shfl_core.specs.declared.phase.Rules.{Rules}
use Rattle.shfl_core.specs.Words.{look, site}
use Rattle.shfl_core.specs.Plan.{plan, moving, is_held, is_awake, is_resting}
use Rattle.shfl_core.specs.Take.{take, acquired, released, entry, exit}
use Rattle.shfl_core.specs.Events.{event as event_of}
use Rattle.shfl_core.specs.Holding.{total}
use Rattle.shfl_core.specs.Worlds.{World, Move, Acquire, Release, known, placed_at, stepped, after_move, run}
use Rattle.shfl_laws.specs.Changes.{Moves, shown_events}
use Rattle.shfl_bound.specs.Departures.{leaver, is_through}
use Rattle.shfl_bound.specs.Stealing.{stealer}
use Rattle.sim_setup.specs.declared.setup.Setup.{Setup}
use Rattle.sim_setup.specs.Clock.{plus}
use Rattle.sim_model.specs.declared.bench.Bench.{Bench}
use Rattle.sim_model.specs.declared.counts.Served.{Served}
use Rattle.sim_model.specs.declared.turns.Entry.{Entry}
use Rattle.sim_model.specs.declared.turns.Stand.{Stand}
use Rattle.sim_model.specs.declared.turns.Stand.TheVariants.{Due, Sleeps}
use Rattle.sim_model.specs.declared.turns.Turn.{Turn}
use Rattle.sim_model.specs.declared.turns.Turn.TheVariants.{Call, Step, Gain, Free}
use Rattle.sim_model.specs.Calls.{nobody_served, served_at, called, gained, overtaken, passed_once, all_overtaken}
use Rattle.sim_model.specs.Laws.{IsFit}
use Rattle.sim_model.specs.Runs.{Answers, State, with_call, with_gain, data_of, is_read, wait_of, step_move, call_move, and_step, turn_moves, turn_bench, after_turn, next_turn, turning, ran, moves_of, opening_state}
use Rattle.sim_model.specs.Steps.{advice_at, made_by, settled}
use Rattle.sim_model.specs.Tries.{mode_wanted, in_vain, begun, with_attempt}
use Rattle.sim_model.specs.Turns.{stand_at, soonest}
use Rattle.sim_model.proofs.Kept.{Stands}
use Rattle.sim_model.proofs.Mapped.{mapped-either}
use Rattle.sim_model.proofs.Settled.{Kept, known-same, known-other, admitted-step}
use Rattle.sim_model.proofs.Turned.{found, in-time-some, turn-kept, kept-from, opening-kept, acquired-moves, released-moves}
use Rattle.sim_bound.specs.Overtaken.{is_freeing, gaining, departures, steals, PassedBound}
use Rattle.sim_bound.proofs.Through.{through, lets, by-step}
use Rattle.sim_bound.proofs.Standing.{total-below, total-but, freeing-settled, freeing-attempt, served-settled}

-- how many moves let through, as the line shows them
abbrev pub let_by : Rules → World → List Move → ℕ
let_by t w ms = departures (shown_events t w (map Moves ms)) + steals (shown_events t w (map Moves ms))

let-append : (t : Rules) (w : World) (ms ns : List Move) → let_by t w (ms ++ ns) ≡ let_by t w ms + let_by t (run t w ms) ns
let-append t w [] ns = omega arith
let-append t w (m ∷ ms) ns = let ih = let-append t (after_move t w m) ms ns in omega arith

-- a pass that counts where it has come through and hasn't gained
abbrev pub counts : World → List Stand → ℕ → ℕ
counts w standing p = cond (is_through (known w.passes p).phase && not (is_freeing (stand_at standing p))) 1 0

counts-most : (a b : Bool) → cond (a && b) 1 0 ≤ cond a 1 0
counts-most true true = omega arith
counts-most true false = omega arith
counts-most false b = omega arith

module _ (s : Setup) (answers : Answers) where
  -- a step of p from w1, which is w but for p
  stepping : (w w1 : World) (b b1 : Bench) (p at : ℕ) → p < s.passes → length w1.passes ≡ s.passes → b1.stands ≡ b.stands → moving (known w1.passes p) ≡ true
      → ((q : ℕ) → q ≢ p → known w1.passes q ≡ known w.passes q) → through (known w1.passes p).phase ≤ counts w b.stands p
      → total s.passes (counts (after_move s.rules w1 (step_move s answers w1 p)) (settled s b1 p (made_by s answers w1 p) at).stands)
      ≤ total s.passes (counts w b.stands) + let_by s.rules w1 (step_move s answers w1 p ∷ [])
  stepping w w1 b b1 p at below long same goes others most =
      let c = (advice_at s answers w1 p).yes in
      let q = known w1.passes p in
      let n = look w1.words (site (plan s.rules p (known w1.passes p))) in
      let w2 = after_move s.rules w1 (step_move s answers w1 p) in
      let standing = (settled s b1 p (made_by s answers w1 p) at).stands in
      let e : w2 ≡ stepped s.rules w1 p q c = admitted-step s.rules w1 p c goes in
      let own : known w2.passes p ≡ take s.rules p q n c = ap (λ (x : World). known x.passes p) e ∙ known-same w1.passes p (take s.rules p q n c) (omega arith) in
      let shows : let_by s.rules w1 (step_move s answers w1 p ∷ []) ≡ lets (event_of s.rules p q n) =
      ap (λ (d : LineEvent). (length (leaver d) + 0) + (length (stealer d) + 0)) (ap (λ b. cond b (event_of s.rules p q n) event.Nothing) goes) ∙ (let z : (length (leaver (event_of s.rules p q n)) + 0) + (length (stealer (event_of s.rules p q n)) + 0) ≡ lets (event_of s.rules p q n) = omega arith in z) in
      let here : counts w2 standing p ≤ counts w b.stands p + lets (event_of s.rules p q n) =
      (let a = counts-most (is_through (known w2.passes p).phase) (not (is_freeing (stand_at standing p))) in let d = by-step s.rules p q n c in
      let f : through (known w2.passes p).phase ≡ through (take s.rules p q n c).phase = ap (λ (x : PassState). through x.phase) own in omega arith) in
      let there = λ (k : ℕ) (l : k < s.passes) (d : k ≢ p).
      (let x : known w2.passes k ≡ known w.passes k = ap (λ (x : World). known x.passes k) e ∙ (known-other w1.passes p k (take s.rules p q n c) d ∙ others k d) in
      let y : is_freeing (stand_at standing k) ≡ is_freeing (stand_at b.stands k) = freeing-settled s b1 p at (made_by s answers w1 p) k d ∙ ap (λ z. is_freeing (stand_at z k)) same in
      let z : counts w2 standing k ≡ counts w b.stands k = (λ j. cond (is_through (x j).phase && not (y j)) 1 0) in let r : counts w2 standing k ≤ counts w b.stands k = omega arith in r) in
      let all = total-but s.passes p (counts w b.stands) (counts w2 standing) below there in omega arith

  -- what a turn of p at a time comes to, for x
  abbrev Turned : World → Bench → ℕ → ℕ → Turn → ℕ → Type 0
  Turned w b p at turn x = (served_at (turn_bench s answers w b p at turn).served x).passed
      + total s.passes (counts (run s.rules w (turn_moves s answers w b p turn)) (turn_bench s answers w b p at turn).stands)
      ≤ (served_at b.served x).passed + (total s.passes (counts w b.stands) + let_by s.rules w (turn_moves s answers w b p turn))

  not-freeing : (a b : Bool) → b ≡ false → cond a 1 0 ≤ cond (a && not b) 1 0
  not-freeing true false e = omega arith
  not-freeing true true e = absurd (cc)
  not-freeing false b e = omega arith

  enters : (m : Mode) → through (entry m) ≡ 0
  enters Write = refl
  enters Read = refl

  exits : (m : Mode) → through (exit m) ≡ 0
  exits Write = refl
  exits Read = refl

  -- a move of p that lets nobody through, and its step
  two : (w : World) (b b1 : Bench) (p at : ℕ) (x : ℕ) (m : Move) (v : PassState) → p < s.passes → length w.passes ≡ s.passes → b1.stands ≡ b.stands
      → after_move s.rules w m ≡ placed_at w p v → moving v ≡ true → through v.phase ≡ 0 → (served_at b1.served x).passed ≤ (served_at b.served x).passed
      → let_by s.rules w (m ∷ step_move s answers (after_move s.rules w m) p ∷ []) ≡ let_by s.rules (after_move s.rules w m) (step_move s answers (after_move s.rules w m) p ∷ [])
      → (served_at (settled s b1 p (made_by s answers (after_move s.rules w m) p) at).served x).passed
      + total s.passes (counts (after_move s.rules (after_move s.rules w m) (step_move s answers (after_move s.rules w m) p)) (settled s b1 p (made_by s answers (after_move s.rules w m) p) at).stands)
      ≤ (served_at b.served x).passed + (total s.passes (counts w b.stands) + let_by s.rules w (m ∷ step_move s answers (after_move s.rules w m) p ∷ []))
  two w b b1 p at x m v below long same e goes none served shows =
      let w1 = after_move s.rules w m in
      let here : known w1.passes p ≡ v = ap (λ (z : World). known z.passes p) e ∙ known-same w.passes p v (omega arith) in
      let much : length w1.passes ≡ s.passes = ap (λ (z : World). length z.passes) e ∙ (length-set w.passes p v ∙ long) in
      let moves : moving (known w1.passes p) ≡ true = ap moving here ∙ goes in
      let little : through (known w1.passes p).phase ≡ 0 = ap (λ (q : PassState). through q.phase) here ∙ none in
      let others = λ (q : ℕ) (d : q ≢ p). (let z : known w1.passes q ≡ known w.passes q = ap (λ (y : World). known y.passes q) e ∙ known-other w.passes p q v d in z) in
      let a = stepping w w1 b b1 p at below much same moves others (omega arith) in
      let k = ap (λ l. (served_at l x).passed) (served-settled s b1 p at (made_by s answers w1 p)) in omega arith

  -- where one pass is served otherwise
  set-most : (l : List Served) (p x : ℕ) (v : Served) (k : ℕ) → (x ≡ p → v.passed ≤ k) → (served_at l x).passed ≤ k → (served_at (set l p v) x).passed ≤ k
  set-most [] p x v k own h = h
  set-most (y ∷ ys) zero zero v k own h = own refl
  set-most (y ∷ ys) zero (suc x) v k own h = h
  set-most (y ∷ ys) (suc p) zero v k own h = h
  set-most (y ∷ ys) (suc p) (suc x) v k own h = set-most ys p x v k (λ e. own (ap suc e)) h

  begun-passed : (y : Served) (tried at : ℕ) → (begun y tried at).passed ≤ y.passed
  begun-passed y tried at = elim (tried == 0) as (λ b. (cond b (called y at) y).passed ≤ y.passed) [ true ↦ (let z : (called y at).passed ≡ 0 = refl in omega arith) | false ↦ omega arith ]

  begun-served : (b : Bench) (p tried at x : ℕ) → (served_at (set b.served p (begun (served_at b.served p) tried at)) x).passed ≤ (served_at b.served x).passed
  begun-served b p tried at x = set-most b.served p x (begun (served_at b.served p) tried at) (served_at b.served x).passed
      (λ e. (let y : (served_at b.served p).passed ≡ (served_at b.served x).passed = ap (λ i. (served_at b.served i).passed) (sym e) in
      let z = begun-passed (served_at b.served p) tried at in omega arith)) (omega arith)

  attempt-served : (b : Bench) (p tried at x : ℕ) → (served_at (with_attempt s b p tried at).served x).passed ≤ (served_at b.served x).passed
  unfolding with_attempt
  attempt-served b p tried at x = begun-served b p tried at x

  -- an attempt in vain leaves who has come through
  attempt-counts : (w : World) (b : Bench) (p tried at : ℕ) → is_freeing (stand_at b.stands p) ≡ false
      → total s.passes (counts w (with_attempt s b p tried at).stands) ≤ total s.passes (counts w b.stands)
  attempt-counts w b p tried at calls = total-below s.passes (counts w b.stands) (counts w (with_attempt s b p tried at).stands)
      (λ q l. (let e : counts w (with_attempt s b p tried at).stands q ≡ counts w b.stands q = ap (λ z. cond (is_through (known w.passes q).phase && not z) 1 0) (freeing-attempt s b p tried at q calls) in omega arith))

  plus-one : (a : ℕ) → plus a 1 ≤ a + 1
  unfolding plus
  plus-one a = omega arith

  overtaken-once : (call : ℕ) (y : Served) → (overtaken call y).passed ≤ y.passed + 1
  overtaken-once call y = by (y.waits && nat_lt y.called call)
    where
      by : (b : Bool) → (cond b (passed_once y) y).passed ≤ y.passed + 1
      by true = plus-one y.passed
      by false = omega arith

  gain-served : (b : Bench) (p at x : ℕ) (m : Mode) (stolen : Bool) → (served_at (with_gain s b p m stolen at).served x).passed ≤ (served_at b.served x).passed + 1
  unfolding with_gain gained
  gain-served b p at x m stolen = let others = all_overtaken s.passes (served_at b.served p).called b.served in
      set-most others p x (gained (served_at b.served p) (wait_of b p at) (is_read m) stolen) ((served_at b.served x).passed + 1)
      (λ e. (let z : (served_at b.served p).passed ≡ (served_at b.served x).passed = ap (λ i. (served_at b.served i).passed) (sym e) in
      let y : (gained (served_at b.served p) (wait_of b p at) (is_read m) stolen).passed ≡ (served_at b.served p).passed = refl in omega arith))
      (mapped-either (λ (y : Served). y.passed ≤ (served_at b.served x).passed + 1) (overtaken (served_at b.served p).called) b.served s.passes x nobody_served (omega arith)
      (overtaken-once (served_at b.served p).called (served_at b.served x)))

  held-through : (f : Phase) (b : Bool) → (is_held f && b) ≡ true → is_through f ≡ true
  held-through phase.Held b e = refl
  held-through f b e = absurd (grind arith)

  gain-counts : (w : World) (b : Bench) (p at : ℕ) (m : Mode) (stolen : Bool) → p < s.passes → p < length b.stands → is_resting (known w.passes p) ≡ true → is_freeing (stand_at b.stands p) ≡ false
      → total s.passes (counts w (with_gain s b p m stolen at).stands) + 1 ≤ total s.passes (counts w b.stands)
  unfolding with_gain
  gain-counts w b p at m stolen below inside rests free =
      let up : Stand = Due (plus (data_of s b p m at).ends s.work.hold) Free in
      let standing = set b.stands p up in
      let own : stand_at standing p ≡ up = get_or-set_same b.stands p up (Sleeps 0) inside in
      let through-is = held-through (known w.passes p).phase (is_awake (known w.passes p).nap) rests in
      let now : counts w standing p ≡ 0 = (λ j. cond (through-is j && not (is_freeing (own j))) 1 0) in
      let before : counts w b.stands p ≡ 1 = (λ j. cond (through-is j && not (free j)) 1 0) in
      let there = λ (k : ℕ) (l : k < s.passes) (d : k ≢ p).
      (let y : counts w standing k ≡ counts w b.stands k = ap (λ (z : Stand). cond (is_through (known w.passes k).phase && not (is_freeing z)) 1 0) (get_or-set_other b.stands p k up (Sleeps 0) d) in let r : counts w standing k ≤ counts w b.stands k = omega arith in r) in
      let all = total-but s.passes p (counts w b.stands) (counts w standing) below there in omega arith

  turned : (w : World) (b : Bench) (p at : ℕ) (turn : Turn) (x : ℕ) → Kept s at w b → p < s.passes → stand_at b.stands p ≡ Due at turn → IsFit (known w.passes p) (Due at turn) → Turned w b p at turn x
  turned w b p at Step x k below due fit =
      let a = stepping w w b b p at below k.passes refl fit (λ q d. refl) (not-freeing (is_through (known w.passes p).phase) (is_freeing (stand_at b.stands p)) (ap is_freeing due)) in
      let e = ap (λ l. (served_at l x).passed) (served-settled s b p at (made_by s answers w p)) in omega arith
  turned w b p at (Call tried) x k below due fit = let m = mode_wanted s b p in let q = known w.passes p in
      let w1 = after_move s.rules w (Acquire p m) in
      let made = settled s (with_call s b p tried at) p (made_by s answers w1 p) at in
      elim (in_vain s w b p tried) as (λ v. (served_at (cond v (with_attempt s b p tried at) made).served x).passed
      + total s.passes (counts (run s.rules w (cond v [] (and_step s answers w p (call_move s b p)))) (cond v (with_attempt s b p tried at) made).stands)
      ≤ (served_at b.served x).passed + (total s.passes (counts w b.stands) + let_by s.rules w (cond v [] (and_step s answers w p (call_move s b p))))) [
        | true ↦ (let a = attempt-served b p tried at x in let c = attempt-counts w b p tried at (ap is_freeing due) in omega arith)
        | false ↦ two w b (with_call s b p tried at) p at x (Acquire p m) (acquired m q) below k.passes refl (ap (λ z. cond z (placed_at w p (acquired m q)) w) fit) (acquired-moves m q fit)
            (ap (λ z. through (cond z (record q { phase = entry m; reg = record q.reg { mode = m } }) q).phase) fit ∙ enters m)
            (begun-served b p tried at x) (omega arith)
      ]
  turned w b p at Free x k below due fit = let q = known w.passes p in
      two w b b p at x (Release p) (released q) below k.passes refl (ap (λ z. cond z (placed_at w p (released q)) w) fit) (released-moves q fit)
      (ap (λ z. through (cond z (record q { phase = exit q.reg.mode }) q).phase) fit ∙ exits q.reg.mode) (omega arith) (omega arith)
  turned w b p at (Gain stolen) x k below due fit =
      let a = gain-served b p at x (known w.passes p).reg.mode stolen in
      let f = k.seats in let g = k.few in
      let c = gain-counts w b p at (known w.passes p).reg.mode stolen below (omega arith) fit (ap is_freeing due) in omega arith

module _ (s : Setup) (answers : Answers) (until : s.until ≤ 18446744073709551615) where
  -- what the next turn of a run is
  record Next (t : ℕ) (st : State) (e : Entry) : Type 0 where
    below : e.pass < s.passes
    kept : Kept s e.at st.world st.bench
    due : stand_at st.bench.stands e.pass ≡ Due e.at e.turn
    fit : IsFit (known st.world.passes e.pass) (Due e.at e.turn)
    after : Kept s e.at (after_turn s answers st e).world (after_turn s answers st e).bench

  next : (t : ℕ) (st : State) (e : Entry) → next_turn s st.bench ≡ Some e → Kept s t st.world st.bench → Next t st e
  next t st e is k =
      let sn = in-time-some st.bench.stands s.passes s.until (soonest st.bench.stands s.passes) e (found st.bench.stands s.passes) is in
      let top : e.at ≤ 18446744073709551615 = let h = sn.1 in omega arith in
      let own : Stands t (known st.world.passes e.pass) (Due e.at e.turn) = subst (Stands t (known st.world.passes e.pass)) sn.0.due (k.stands e.pass sn.0.below) in
      let kept = kept-from s t st.world st.bench e k sn.0 in record {
        below = sn.0.below;
        kept = kept;
        due = sn.0.due;
        fit = own.fit;
        after = (turn-kept s answers st.world st.bench e.pass e.at e.turn top sn.0.below kept own.fit).1;
      }

  abbrev Passes : ℕ → ℕ → State → Type 0
  Passes k x st = (served_at (ran s answers k st).bench.served x).passed ≤ (served_at st.bench.served x).passed + (gaining s st + let_by s.rules st.world (moves_of s answers k st))

  passes-on : (k t x : ℕ) (st : State) (o : Option Entry) → next_turn s st.bench ≡ o → Kept s t st.world st.bench
      → ((e : Entry) → Next t st e → Passes k x (after_turn s answers st e))
      → (served_at (turning o st (λ e. ran s answers k (after_turn s answers st e))).bench.served x).passed ≤ (served_at st.bench.served x).passed
      + (gaining s st + let_by s.rules st.world (turning o [] (λ e. turn_moves s answers st.world st.bench e.pass e.turn ++ moves_of s answers k (after_turn s answers st e))))
  passes-on k t x st None is kept ih = omega arith
  passes-on k t x st (Some e) is kept ih = let n = next t st e is kept in let rest = ih e n in
      let one = turned s answers st.world st.bench e.pass e.at e.turn x n.kept n.below n.due n.fit in
      let sum = let-append s.rules st.world (turn_moves s answers st.world st.bench e.pass e.turn) (moves_of s answers k (after_turn s answers st e)) in omega arith

  pub passes : (k t x : ℕ) (st : State) → Kept s t st.world st.bench → Passes k x st
  passes zero t x st kept = omega arith
  passes (suc k) t x st kept = passes-on k t x st (next_turn s st.bench) refl kept (λ e n. passes k e.at x (after_turn s answers st e) n.after)

  kept-on : (n t : ℕ) (st : State) (o : Option Entry) → next_turn s st.bench ≡ o → Kept s t st.world st.bench
      → ((e : Entry) → Next t st e → (z : ℕ) × Kept s z (ran s answers n (after_turn s answers st e)).world (ran s answers n (after_turn s answers st e)).bench)
      → (z : ℕ) × Kept s z (turning o st (λ e. ran s answers n (after_turn s answers st e))).world (turning o st (λ e. ran s answers n (after_turn s answers st e))).bench
  kept-on n t st None is kept ih = (t, kept)
  kept-on n t st (Some e) is kept ih = ih e (next t st e is kept)

  pub kept-ran : (n t : ℕ) (st : State) → Kept s t st.world st.bench → (z : ℕ) × Kept s z (ran s answers n st).world (ran s answers n st).bench
  kept-ran zero t st kept = (t, kept)
  kept-ran (suc n) t st kept = kept-on n t st (next_turn s st.bench) refl kept (λ e k. kept-ran n e.at (after_turn s answers st e) k.after)

pub passed-bound : PassedBound
passed-bound s answers n k attrs x up = let kept = kept-ran s answers up.until n 0 (opening_state s attrs) (opening-kept s attrs up) in
    passes s answers up.until k kept.0 x (ran s answers n (opening_state s attrs)) kept.1
