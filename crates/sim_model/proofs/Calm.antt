-- In every state of a run each pass without a turn is quiet.
use Rattle.std.proofs.Common.{◌≡◌, ◌≢◌, inl, inr, ℕ, zero, suc, ◌<◌, ◌≤◌, Bool, true, false, cond, List, [], length, set, refl, sym, ap, subst, ◌∙◌, Option, Some, None, arith, length-set}
use Rattle.std.proofs.lemmas.Bool.{cases_eq}
use Rattle.std.proofs.lemmas.List.{get_or-set_same, get_or-set_other, set-get_or}
use Rattle.shfl_line.specs.declared.events.Mode.{Mode}
use Rattle.shfl_line.specs.declared.words.Attr.{Attr}
use Rattle.shfl_core.specs.declared.phase.PassState.{PassState}
use Rattle.shfl_core.specs.declared.words.Word.TheVariants.{Bell}
use Rattle.shfl_core.specs.Plan.{plan, moving, is_idle, is_resting}
use Rattle.shfl_core.specs.Take.{take, acquired, released}
use Rattle.shfl_core.specs.Waiting.{idle}
use Rattle.shfl_core.specs.Words.{look, index, site, put}
use Rattle.shfl_core.specs.Worlds.{World, Acquire, Release, Step as Advance, known, stepped, placed_at, after_move, run, opening}
use Rattle.sim_setup.specs.declared.setup.Setup.{Setup}
use Rattle.sim_setup.specs.Clock.{plus}
use Rattle.sim_setup.specs.Places.{is_load, line_of, rung}
use Rattle.sim_model.specs.declared.bench.Bench.{Bench}
use Rattle.sim_model.specs.declared.steps.Made.{Made}
use Rattle.sim_model.specs.declared.turns.Entry.{Entry}
use Rattle.sim_model.specs.declared.turns.Stand.{Stand}
use Rattle.sim_model.specs.declared.turns.Stand.TheVariants.{Due, Spins, Sleeps}
use Rattle.sim_model.specs.declared.turns.Turn.{Turn}
use Rattle.sim_model.specs.declared.turns.Turn.TheVariants.{Call, Step, Gain, Free}
use Rattle.sim_model.specs.Laws.{IsSetUp, HasNoTurn, IsStill, PollsChangeNothing}
use Rattle.sim_model.specs.Runs.{Answers, State, with_call, with_gain, data_of, step_move, call_move, and_step, turn_moves, turn_bench, after_turn, next_turn, turning, ran, opening_state}
use Rattle.sim_model.specs.Steps.{advice_at, made_by, rest_of, ended, touched_by, with_touch, with_ring, stand_after, with_stand, settled}
use Rattle.sim_model.specs.Tries.{mode_wanted, in_vain, with_attempt}
use Rattle.sim_model.specs.Turns.{stand_at, woken, all_woken, soonest}
use Rattle.sim_model.proofs.Kept.{Stands}
use Rattle.sim_model.proofs.Mapped.{mapped-below}
use Rattle.sim_model.proofs.Quiet.{Quiet, bell-case}
use Rattle.sim_model.proofs.Settled.{Kept, known-same, known-other, admitted-step, ring-long, touch-long}
use Rattle.sim_model.proofs.Still.{QuietAt, QuietOrRung, after_words, load-quiet, store-quiet, ring-quiet, own-quiet}
use Rattle.sim_model.proofs.Tried.{attempt-quiet}
use Rattle.sim_model.proofs.Turned.{found, in-time-some, kept-from, turn-kept, opening-kept, acquired-moves, released-moves, stands-at}

-- how another pass stands after the access of a step
touch-quiet : (s : Setup) (words : List ℕ) (b : Bench) (p at k : ℕ) (m : Made) (q : PassState) → k < s.passes → k < length b.stands
    → (site m.access ≡ Bell k → rung m.access ≡ Some k)
    → QuietAt s words k q (stand_at b.stands k) → QuietOrRung s (after_words words m.access) m.access k q (stand_at (with_touch s b p m at).stands k)
unfolding with_touch
touch-quiet s words b p at k m q below inside bell h =
    let line = line_of s.layout (site m.access) in
    let ends = (touched_by s b p m at).ends in
    let by : (test : Bool) → is_load m.access ≡ test → QuietOrRung s (after_words words m.access) m.access k q (stand_at (cond test b.stands (all_woken s.passes line ends b.stands)) k) =
    λ test. elim test as (λ x. is_load m.access ≡ x → QuietOrRung s (after_words words m.access) m.access k q (stand_at (cond x b.stands (all_woken s.passes line ends b.stands)) k)) [
      | true ↦ λ e. load-quiet s words m.access k q line ends refl bell (stand_at b.stands k) e h
      | false ↦ λ e. subst (QuietOrRung s (after_words words m.access) m.access k q) (sym (mapped-below (woken line ends) b.stands s.passes k (Sleeps 0) below inside))
          (store-quiet s words m.access k q line ends refl bell (stand_at b.stands k) h)
    ] in
    by (is_load m.access) refl

-- how it stands after the whole step
other-quiet : (s : Setup) (words : List ℕ) (b : Bench) (p at k : ℕ) (m : Made) (q : PassState) → at ≤ 18446744073709551615 → k ≢ p → k < s.passes → k < length b.stands
    → (site m.access ≡ Bell k → rung m.access ≡ Some k) → QuietAt s words k q (stand_at b.stands k)
    → QuietAt s (after_words words m.access) k q (stand_at (settled s b p m at).stands k)
unfolding with_stand
other-quiet s words b p at k m q top differ below inside bell h =
    let ends = ended s.costs m (touched_by s b p m at).ends in
    let standing = (with_touch s b p m at).stands in
    let here : k < length standing = let e = touch-long s b p at m top in omega arith in
    subst (QuietAt s (after_words words m.access) k q) (sym (get_or-set_other (with_ring s.costs standing (rung m.access) ends) p k _ (Sleeps 0) differ))
    (ring-quiet s (after_words words m.access) m.access k ends q standing (rung m.access) refl here (touch-quiet s words b p at k m q below inside bell h))

-- how the pass itself stands after it
pass-quiet : (s : Setup) (words : List ℕ) (b : Bench) (p at : ℕ) (m : Made) (q : PassState) → at ≤ 18446744073709551615 → p < length b.stands
    → ((draw ends : ℕ) → QuietAt s words p q (stand_after s (rest_of m.before m.after) (line_of s.layout (site m.access)) ends draw))
    → QuietAt s words p q (stand_at (settled s b p m at).stands p)
unfolding with_stand
pass-quiet s words b p at m q top inside each =
    let ends = ended s.costs m (touched_by s b p m at).ends in
    let standing = (with_touch s b p m at).stands in
    let ring = with_ring s.costs standing (rung m.access) ends in
    let here : p < length ring = let e = touch-long s b p at m top in let f = ring-long s.costs standing (rung m.access) ends in omega arith in
    subst (QuietAt s words p q) (sym (get_or-set_same ring p _ (Sleeps 0) here)) (each _ _)

-- each pass without a turn is quiet
abbrev pub Calm : Setup → World → Bench → Type 0
Calm s w b = (k : ℕ) → k < s.passes → QuietAt s w.words k (known w.passes k) (stand_at b.stands k)

-- each but one
abbrev CalmBut : Setup → ℕ → World → Bench → Type 0
CalmBut s p w b = (k : ℕ) → k < s.passes → k ≢ p → QuietAt s w.words k (known w.passes k) (stand_at b.stands k)

step-calm : (s : Setup) (answers : Answers) (w : World) (b : Bench) (p at : ℕ) → at ≤ 18446744073709551615 → p < s.passes → length w.passes ≡ s.passes → s.passes ≤ length b.stands
    → CalmBut s p w b → moving (known w.passes p) ≡ true
    → Calm s (after_move s.rules w (Advance p (advice_at s answers w p).yes)) (settled s b p (made_by s answers w p) at)
step-calm s answers w b p at top lt long seats calm h =
    let q = known w.passes p in
    let c = (advice_at s answers w p).yes in
    let a = plan s.rules p q in
    let r = take s.rules p q (look w.words (site a)) c in
    let m = made_by s answers w p in
    let e : after_move s.rules w (Advance p c) ≡ stepped s.rules w p q c = admitted-step s.rules w p c h in
    let inside : p < length w.passes = omega arith in
    let own : known (after_move s.rules w (Advance p c)).passes p ≡ r = ap (λ (x : World). known x.passes p) e ∙ known-same w.passes p r inside in
    λ k below. subst (λ (x : World). QuietAt s x.words k (known x.passes k) (stand_at (settled s b p m at).stands k)) (sym e)
    (elim (cases_eq k p) as (λ _. QuietAt s (after_words w.words a) k (known (set w.passes p r) k) (stand_at (settled s b p m at).stands k)) [
      | inl same ↦
          let seat : p < length b.stands = omega arith in
          let here : QuietAt s (after_words w.words a) p r (stand_at (settled s b p m at).stands p) = pass-quiet s (after_words w.words a) b p at m r top seat
          (λ draw ends. subst (λ (x : PassState). QuietAt s (after_words w.words a) p r (stand_after s (rest_of q x) (line_of s.layout (site a)) ends draw)) (sym own)
          (own-quiet s w.words p q c (line_of s.layout (site a)) ends draw refl)) in
          subst (λ (x : ℕ). QuietAt s (after_words w.words a) x (known (set w.passes p r) x) (stand_at (settled s b p m at).stands x)) (sym same)
          (subst (λ (x : PassState). QuietAt s (after_words w.words a) p x (stand_at (settled s b p m at).stands p)) (sym (known-same w.passes p r inside)) here)
      | inr differ ↦
          let seat : k < length b.stands = omega arith in
          let bell : site a ≡ Bell k → rung a ≡ Some k = λ f. elim (bell-case s.rules p q k f) as (λ _. rung a ≡ Some k) [ inl same ↦ absurd (differ (sym same)) | inr rings ↦ rings ] in
          subst (λ (x : PassState). QuietAt s (after_words w.words a) k x (stand_at (settled s b p m at).stands k)) (sym (known-other w.passes p k r differ))
          (other-quiet s w.words b p at k m (known w.passes k) top differ below seat bell (calm k below differ))
    ])

-- a first move leaves the words, and where the others stand
placed-calm : (s : Setup) (w : World) (b : Bench) (p : ℕ) (x : PassState) → Calm s w b → CalmBut s p (placed_at w p x) b
placed-calm s w b p x calm = λ k below differ. subst (λ (y : PassState). QuietAt s w.words k y (stand_at b.stands k)) (sym (known-other w.passes p k x differ)) (calm k below)

moved-calm : (s : Setup) (answers : Answers) (w w1 : World) (b : Bench) (p at : ℕ) (x : PassState) → at ≤ 18446744073709551615 → p < s.passes → length w.passes ≡ s.passes → s.passes ≤ length b.stands
    → Calm s w b → w1 ≡ placed_at w p x → moving x ≡ true → Calm s (after_move s.rules w1 (step_move s answers w1 p)) (settled s b p (made_by s answers w1 p) at)
moved-calm s answers w w1 b p at x top lt long seats calm e h =
    let inside : p < length w.passes = omega arith in
    let passes : length w1.passes ≡ s.passes = ap (λ (y : World). length y.passes) e ∙ length-set w.passes p x ∙ long in
    let m : moving (known w1.passes p) ≡ true = ap (λ (y : World). moving (known y.passes p)) e ∙ ap moving (known-same w.passes p x inside) ∙ h in
    step-calm s answers w1 b p at top lt passes seats (subst (λ (y : World). CalmBut s p y b) (sym e) (placed-calm s w b p x calm)) m

gain-calm : (s : Setup) (w : World) (b : Bench) (p at : ℕ) (m : Mode) (stolen : Bool) → p < length b.stands → Calm s w b → Calm s w (with_gain s b p m stolen at)
unfolding with_gain
gain-calm s w b p at m stolen inside calm = λ k below.
    let up : Stand = Due (plus (data_of s b p m at).ends s.work.hold) Free in
    elim (cases_eq k p) as (λ _. QuietAt s w.words k (known w.passes k) (stand_at (set b.stands p up) k)) [
      | inl same ↦ subst (λ (x : ℕ). QuietAt s w.words x (known w.passes x) (stand_at (set b.stands p up) x)) (sym same)
          (subst (QuietAt s w.words p (known w.passes p)) (sym (get_or-set_same b.stands p up (Sleeps 0) inside)) tt)
      | inr differ ↦ subst (QuietAt s w.words k (known w.passes k)) (sym (get_or-set_other b.stands p k up (Sleeps 0) differ)) (calm k below)
    ]

turn-calm : (s : Setup) (answers : Answers) (w : World) (b : Bench) (p at : ℕ) (turn : Turn) → at ≤ 18446744073709551615 → p < s.passes → Kept s at w b
    → stand_at b.stands p ≡ Due at turn → Calm s w b
    → Calm s (run s.rules w (turn_moves s answers w b p turn)) (turn_bench s answers w b p at turn)
turn-calm s answers w b p at (Call tried) top lt k due calm =
    let q = known w.passes p in
    let fit : is_idle q.phase ≡ true = (subst (Stands at q) due (k.stands p lt)).fit in
    let m = mode_wanted s b p in
    let w1 = after_move s.rules w (Acquire p m) in
    let e : w1 ≡ placed_at w p (acquired m q) = ap (λ b. cond b (placed_at w p (acquired m q)) w) fit in
    let seats : s.passes ≤ length b.stands = let f = k.seats in let g = k.few in omega arith in
    elim (in_vain s w b p tried) as (λ v. Calm s (run s.rules w (cond v [] (and_step s answers w p (call_move s b p)))) (cond v (with_attempt s b p tried at) (settled s (with_call s b p tried at) p (made_by s answers w1 p) at))) [
      | true ↦ λ j below. attempt-quiet s w b p tried at j (omega arith) (calm j below)
      | false ↦ moved-calm s answers w w1 (with_call s b p tried at) p at (acquired m q) top lt k.passes seats calm e (acquired-moves m q fit)
    ]
turn-calm s answers w b p at Step top lt k due calm =
    let fit : moving (known w.passes p) ≡ true = (subst (Stands at (known w.passes p)) due (k.stands p lt)).fit in
    step-calm s answers w b p at top lt k.passes (let f = k.seats in let g = k.few in omega arith) (λ j below differ. calm j below) fit
turn-calm s answers w b p at Free top lt k due calm =
    let q = known w.passes p in
    let fit : is_resting q ≡ true = (subst (Stands at q) due (k.stands p lt)).fit in
    let e : after_move s.rules w (Release p) ≡ placed_at w p (released q) = ap (λ b. cond b (placed_at w p (released q)) w) fit in
    moved-calm s answers w (after_move s.rules w (Release p)) b p at (released q) top lt k.passes (let f = k.seats in let g = k.few in omega arith) calm e (released-moves q fit)
turn-calm s answers w b p at (Gain stolen) top lt k due calm =
    gain-calm s w b p at (known w.passes p).reg.mode stolen (let f = k.seats in let g = k.few in omega arith) calm

module _ (s : Setup) (answers : Answers) (until : s.until ≤ 18446744073709551615) where
  abbrev StaysCalm : ℕ → Type 0
  StaysCalm n = (t : ℕ) (st : State) → Kept s t st.world st.bench → Calm s st.world st.bench → Calm s (ran s answers n st).world (ran s answers n st).bench

  calm-on : (n t : ℕ) (st : State) (o : Option Entry) → next_turn s st.bench ≡ o → Kept s t st.world st.bench → Calm s st.world st.bench → StaysCalm n
      → Calm s (turning o st (λ e. ran s answers n (after_turn s answers st e))).world (turning o st (λ e. ran s answers n (after_turn s answers st e))).bench
  calm-on n t st None is k calm ih = calm
  calm-on n t st (Some e) is k calm ih =
      let sn = in-time-some st.bench.stands s.passes s.until (soonest st.bench.stands s.passes) e (found st.bench.stands s.passes) is in
      let top : e.at ≤ 18446744073709551615 = let h = sn.1 in omega arith in
      let k1 = kept-from s t st.world st.bench e k sn.0 in
      let own : Stands e.at (known st.world.passes e.pass) (Due e.at e.turn) = subst (Stands e.at (known st.world.passes e.pass)) sn.0.due (k1.stands e.pass sn.0.below) in
      let turned = turn-kept s answers st.world st.bench e.pass e.at e.turn top sn.0.below k1 own.fit in
      ih e.at (after_turn s answers st e) turned.1 (turn-calm s answers st.world st.bench e.pass e.at e.turn top sn.0.below k1 sn.0.due calm)

  stays-calm : (n : ℕ) → StaysCalm n
  stays-calm zero = λ t st k calm. calm
  stays-calm (suc n) = λ t st k calm. calm-on n t st (next_turn s st.bench) refl k calm (stays-calm n)

opening-calm : (s : Setup) (attrs : List Attr) → IsSetUp s attrs → Calm s (opening_state s attrs).world (opening_state s attrs).bench
opening-calm s attrs up = λ k below. subst (QuietAt s (opening attrs).words k (known (opening attrs).passes k)) (sym (stands-at s s.passes k below up.few)) tt

-- a step that would change neither its word nor its pass changes nothing
quiet-is-still : (s : Setup) (w : World) (p : ℕ) → let q = known w.passes p in Quiet s.rules p (look w.words (site (plan s.rules p q))) q → IsStill s.rules w p
quiet-is-still s w p h = λ c.
    let q = known w.passes p in
    let a = plan s.rules p q in
    let words : set w.words (index (site a)) (put a (look w.words (site a))) ≡ w.words = ap (λ x. set w.words (index (site a)) x) h.word ∙ set-get_or w.words (index (site a)) 0 in
    let passes : set w.passes p (take s.rules p q (look w.words (site a)) c) ≡ w.passes = ap (λ (x : PassState). set w.passes p x) (h.own c) ∙ set-get_or w.passes p (idle p) in
    let same : stepped s.rules w p q c ≡ w = ap (λ l. record { words = l; passes = set w.passes p (take s.rules p q (look w.words (site a)) c) }) words ∙ ap (λ l. record { words = w.words; passes = l }) passes in
    elim (moving q) as (λ b. cond b (stepped s.rules w p q c) w ≡ w) [ true ↦ same | false ↦ refl ]

still-by : (s : Setup) (w : World) (p : ℕ) (x : Stand) → HasNoTurn x → QuietAt s w.words p (known w.passes p) x → IsStill s.rules w p
still-by s w p (Due at turn) unturned h = absurd unturned
still-by s w p (Spins line since) unturned h = quiet-is-still s w p h.1
still-by s w p (Sleeps from) unturned h = quiet-is-still s w p h.1

pub polls-change-nothing : PollsChangeNothing
polls-change-nothing s answers n attrs up p below unturned =
    let st = ran s answers n (opening_state s attrs) in
    let calm : Calm s st.world st.bench = stays-calm s answers up.until n 0 (opening_state s attrs) (opening-kept s attrs up) (opening-calm s attrs up) in
    still-by s st.world p (stand_at st.bench.stands p) unturned (calm p below)
