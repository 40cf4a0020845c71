-- A turn keeps how the passes stand, and each of its moves is admitted.
use Rattle.std.proofs.Common.{◌≡◌, inl, inr, ℕ, zero, suc, ◌+◌, ◌<◌, ◌≤◌, Bool, true, false, cond, List, [], ◌∷◌, ◌++◌, length, get_or, set, refl, sym, ap, subst, ◌∙◌, Option, Some, None, arith, length-set, add-zero}
use Rattle.std.proofs.lemmas.Bool.{cases_eq, leb-true, leb-false}
use Rattle.std.proofs.lemmas.List.{get_or-set_same, get_or-set_other, length-replicate}
use Rattle.std.specs.Prelude.{nat_le}
use Rattle.shfl_line.specs.declared.events.Mode.{Mode}
use Rattle.shfl_line.specs.declared.events.Mode.TheVariants.{Write, Read}
use Rattle.shfl_line.specs.declared.words.Attr.{Attr}
use Rattle.shfl_core.specs.declared.phase.PassState.{PassState}
use Rattle.shfl_core.specs.declared.phase.Rules.{Rules}
use Rattle.shfl_core.specs.Plan.{moving, is_idle, is_resting}
use Rattle.shfl_core.specs.Take.{acquired, released, entry, exit}
use Rattle.shfl_core.specs.Waiting.{idle}
use Rattle.shfl_core.specs.Worlds.{World, Move, Acquire, Release, known, placed_at, after_move, run, idle_from}
use Rattle.shfl_core.proofs.Opening.{idle-from-long}
use Rattle.sim_setup.specs.declared.lines.Line.{Line}
use Rattle.sim_setup.specs.declared.setup.Core.{Core}
use Rattle.sim_setup.specs.declared.setup.Costs.{Costs}
use Rattle.sim_setup.specs.declared.setup.Setup.{Setup}
use Rattle.sim_setup.specs.Clock.{plus}
use Rattle.sim_setup.specs.Draws.{thought, seeded}
use Rattle.sim_setup.specs.Places.{line_at, core_at}
use Rattle.sim_model.specs.declared.bench.Bench.{Bench}
use Rattle.sim_model.specs.declared.counts.Reaches.{Reaches}
use Rattle.sim_model.specs.declared.turns.Entry.{Entry}
use Rattle.sim_model.specs.declared.turns.Stand.{Stand}
use Rattle.sim_model.specs.declared.turns.Stand.TheVariants.{Due, Spins, Sleeps}
use Rattle.sim_model.specs.declared.turns.Turn.{Turn}
use Rattle.sim_model.specs.declared.turns.Turn.TheVariants.{Call, Step, Gain, Free}
use Rattle.sim_model.specs.Calls.{data_touched}
use Rattle.sim_model.specs.Laws.{IsFit, IsNotBefore, IsEachAdmitted, IsSetUp, RunsAreAdmitted, TimesNeverFall, IsRising, times_of}
use Rattle.sim_model.specs.Openings.{stands_below}
use Rattle.sim_model.specs.Runs.{Answers, State, with_call, with_gain, data_of, is_read, step_move, call_move, and_step, turn_moves, turn_bench, after_turn, in_time, next_turn, turning, moves_of, opening_state}
use Rattle.sim_model.specs.Steps.{made_by, settled}
use Rattle.sim_model.specs.Tries.{mode_wanted, in_vain, with_attempt}
use Rattle.sim_model.specs.Turns.{stand_at, sooner, soonest}
use Rattle.sim_model.proofs.Kept.{Stands, plus-after}
use Rattle.sim_model.proofs.Settled.{Between, Kept, known-same, known-other, step-kept, touch-after}
use Rattle.sim_model.proofs.Tried.{attempt-kept}

-- the soonest turn

later-not-before : (a b : ℕ) (x : Stand) → a ≤ b → IsNotBefore b x → IsNotBefore a x
later-not-before a b (Due at turn) le h = omega arith
later-not-before a b (Spins line since) le h = tt
later-not-before a b (Sleeps from) le h = tt

pub record IsSoonest (stands : List Stand) (n : ℕ) (e : Entry) : Type 0 where
  pub below : e.pass < n
  pub due : stand_at stands e.pass ≡ Due e.at e.turn
  pub least : (q : ℕ) → q < n → IsNotBefore e.at (stand_at stands q)

-- what was found of the first n passes: nobody whose turn comes, or the soonest
abbrev pub Found : List Stand → ℕ → Option Entry → Type 0
Found stands n None = (t q : ℕ) → q < n → IsNotBefore t (stand_at stands q)
Found stands n (Some e) = IsSoonest stands n e

extend : (P : ℕ → Type 0) (n : ℕ) → P n → ((q : ℕ) → q < n → P q) → (q : ℕ) → q < suc n → P q
extend P n here below q lt = elim (cases_eq q n) as (λ _. P q) [
  | inl e ↦ subst P (sym e) here
  | inr apart ↦ below q (omega arith)
]

sooner-chosen : (stands : List Stand) (n : ℕ) (f : Entry) (at : ℕ) (turn : Turn) (test : Bool) → nat_le f.at at ≡ test → stand_at stands n ≡ Due at turn → IsSoonest stands n f
    → Found stands (suc n) (cond test (Some f) (Some (record { at = at; pass = n; turn = turn })))
sooner-chosen stands n f at turn true e is ih = record {
  below = let h = ih.below in omega arith;
  due = ih.due;
  least = extend (λ q. IsNotBefore f.at (stand_at stands q)) n (subst (IsNotBefore f.at) (sym is) (leb-true f.at at e)) ih.least;
}
sooner-chosen stands n f at turn false e is ih = record {
  below = omega arith;
  due = is;
  least = let before : at < f.at = leb-false f.at at e in let self : at ≤ at = omega arith in let sooner : at ≤ f.at = omega arith in
      extend (λ q. IsNotBefore at (stand_at stands q)) n (subst (IsNotBefore at) (sym is) self)
      (λ q lt. later-not-before at f.at (stand_at stands q) sooner (ih.least q lt));
}

still-soonest : (stands : List Stand) (n : ℕ) (f : Entry) → IsNotBefore f.at (stand_at stands n) → IsSoonest stands n f → IsSoonest stands (suc n) f
still-soonest stands n f here ih = record {
  below = let h = ih.below in omega arith;
  due = ih.due;
  least = extend (λ q. IsNotBefore f.at (stand_at stands q)) n here ih.least;
}

found-next : (stands : List Stand) (n : ℕ) (o : Option Entry) (x : Stand) → stand_at stands n ≡ x → Found stands n o → Found stands (suc n) (sooner o n x)
found-next stands n None (Due at turn) is ih = record {
  below = omega arith;
  due = is;
  least = let self : at ≤ at = omega arith in extend (λ q. IsNotBefore at (stand_at stands q)) n (subst (IsNotBefore at) (sym is) self) (λ q lt. ih at q lt);
}
found-next stands n None (Spins line since) is ih = λ t. extend (λ q. IsNotBefore t (stand_at stands q)) n (subst (IsNotBefore t) (sym is) tt) (ih t)
found-next stands n None (Sleeps from) is ih = λ t. extend (λ q. IsNotBefore t (stand_at stands q)) n (subst (IsNotBefore t) (sym is) tt) (ih t)
found-next stands n (Some f) (Due at turn) is ih = sooner-chosen stands n f at turn (nat_le f.at at) refl is ih
found-next stands n (Some f) (Spins line since) is ih = still-soonest stands n f (subst (IsNotBefore f.at) (sym is) tt) ih
found-next stands n (Some f) (Sleeps from) is ih = still-soonest stands n f (subst (IsNotBefore f.at) (sym is) tt) ih

pub found : (stands : List Stand) (n : ℕ) → Found stands n (soonest stands n)
found stands zero = λ t q lt. absurd (omega arith)
found stands (suc n) = found-next stands n (soonest stands n) (stand_at stands n) refl (found stands n)

in-time-by : (stands : List Stand) (n until : ℕ) (f e : Entry) (test : Bool) → nat_le f.at until ≡ test → cond test (Some f) None ≡ Some e → IsSoonest stands n f
    → IsSoonest stands n e × (e.at ≤ until)
in-time-by stands n until f e true h k ih = let same : f ≡ e = cc in
    (subst (IsSoonest stands n) same ih, subst (λ (x : Entry). x.at ≤ until) same (leb-true f.at until h))
in-time-by stands n until f e false h k ih = absurd (let no : ⊥ = cc in no)

pub in-time-some : (stands : List Stand) (n until : ℕ) (o : Option Entry) (e : Entry) → Found stands n o → in_time until o ≡ Some e → IsSoonest stands n e × (e.at ≤ until)
in-time-some stands n until None e ih k = absurd (let no : ⊥ = cc in no)
in-time-some stands n until (Some f) e ih k = in-time-by stands n until f e (nat_le f.at until) refl k ih

-- the first move of a turn

pub acquired-moves : (m : Mode) (q : PassState) → is_idle q.phase ≡ true → moving (acquired m q) ≡ true
acquired-moves Write q h = ap (λ b. moving (cond b (record q { phase = entry Write; reg = record q.reg { mode = Write } }) q)) h
acquired-moves Read q h = ap (λ b. moving (cond b (record q { phase = entry Read; reg = record q.reg { mode = Read } }) q)) h

exits-moving : (m : Mode) (q : PassState) → moving (record q { phase = exit m }) ≡ true
exits-moving Write q = refl
exits-moving Read q = refl

pub released-moves : (q : PassState) → is_resting q ≡ true → moving (released q) ≡ true
released-moves q h = ap (λ b. moving (cond b (record q { phase = exit q.reg.mode }) q)) h ∙ exits-moving q.reg.mode q

moved-between : (s : Setup) (t : ℕ) (w : World) (b : Bench) (p : ℕ) (x : PassState) → Kept s t w b → Between s t p (placed_at w p x) b
moved-between s t w b p x k = record {
  passes = length-set w.passes p x ∙ k.passes;
  few = k.few;
  seats = k.seats;
  others = λ q lt apart. subst (λ (y : PassState). Stands t y (stand_at b.stands q)) (sym (known-other w.passes p q x apart)) (k.stands q lt);
}

-- a turn that is a move of the pass and its step
two-moves : (s : Setup) (answers : Answers) (w w1 : World) (b : Bench) (p at : ℕ) (x : PassState) → at ≤ 18446744073709551615 → p < s.passes
    → Kept s at w b → w1 ≡ placed_at w p x → moving x ≡ true
    → (moving (known w1.passes p) ≡ true) × Kept s at (after_move s.rules w1 (step_move s answers w1 p)) (settled s b p (made_by s answers w1 p) at)
two-moves s answers w w1 b p at x top lt k e h =
    let inside : p < length w.passes = let f = k.passes in omega arith in
    let m : moving (known w1.passes p) ≡ true = ap (λ (y : World). moving (known y.passes p)) e ∙ ap moving (known-same w.passes p x inside) ∙ h in
    (m, step-kept s answers w1 b p at top lt (subst (λ (y : World). Between s at p y b) (sym e) (moved-between s at w b p x k)) m)

same-between : (s : Setup) (t : ℕ) (w : World) (b : Bench) (p : ℕ) → Kept s t w b → Between s t p w b
same-between s t w b p k = record { passes = k.passes; few = k.few; seats = k.seats; others = λ q lt apart. k.stands q lt }

-- a gain

data-after : (costs : Costs) (core : Core) (load : Bool) (t at : ℕ) (lines : List Line) (reaches : Reaches) (n : ℕ) → t ≤ at → t ≤ 18446744073709551615
    → t ≤ (data_touched costs core load at lines reaches n).ends
data-after costs core load t at lines reaches zero le top = le
data-after costs core load t at lines reaches (suc n) le top = let d = data_touched costs core load at lines reaches n in
    touch-after costs core load t d.ends (line_at d.lines (1026 + n)) (data-after costs core load t at lines reaches n le top) top

gain-kept : (s : Setup) (w : World) (b : Bench) (p at : ℕ) (m : Mode) (stolen : Bool) → at ≤ 18446744073709551615 → p < s.passes → Kept s at w b
    → is_resting (known w.passes p) ≡ true → Kept s at w (with_gain s b p m stolen at)
unfolding with_gain
gain-kept s w b p at m stolen top lt k h =
    let d = data_of s b p m at in
    let up : Stand = Due (plus d.ends s.work.hold) Free in
    let inside : p < length b.stands = let f = k.seats in let g = k.few in omega arith in
    let ends : at ≤ d.ends = let self : at ≤ at = omega arith in data-after s.costs (core_at s.cores p) (is_read m) at at b.lines b.counts.«data» s.work.lines self top in
    let own : Stands at (known w.passes p) up = record { fit = h; time = plus-after at d.ends s.work.hold ends top } in
    record {
      passes = k.passes;
      few = k.few;
      seats = length-set b.stands p up ∙ k.seats;
      stands = λ q below. elim (cases_eq q p) as (λ _. Stands at (known w.passes q) (stand_at (set b.stands p up) q)) [
        | inl same ↦ subst (λ (x : ℕ). Stands at (known w.passes x) (stand_at (set b.stands p up) x)) (sym same)
            (subst (Stands at (known w.passes p)) (sym (get_or-set_same b.stands p up (Sleeps 0) inside)) own)
        | inr apart ↦ subst (Stands at (known w.passes q)) (sym (get_or-set_other b.stands p q up (Sleeps 0) apart)) (k.stands q below)
      ];
    }

pub turn-kept : (s : Setup) (answers : Answers) (w : World) (b : Bench) (p at : ℕ) (turn : Turn) → at ≤ 18446744073709551615 → p < s.passes → Kept s at w b
    → IsFit (known w.passes p) (Due at turn)
    → IsEachAdmitted s.rules w (turn_moves s answers w b p turn) × Kept s at (run s.rules w (turn_moves s answers w b p turn)) (turn_bench s answers w b p at turn)
turn-kept s answers w b p at (Call tried) top lt k fit =
    let q = known w.passes p in
    let m = mode_wanted s b p in
    let w1 = after_move s.rules w (Acquire p m) in
    let e : w1 ≡ placed_at w p (acquired m q) = ap (λ b. cond b (placed_at w p (acquired m q)) w) fit in
    let two = two-moves s answers w w1 (with_call s b p tried at) p at (acquired m q) top lt (record { passes = k.passes; few = k.few; seats = k.seats; stands = k.stands }) e (acquired-moves m q fit) in
    elim (in_vain s w b p tried) as (λ v. IsEachAdmitted s.rules w (cond v [] (and_step s answers w p (call_move s b p)))
    × Kept s at (run s.rules w (cond v [] (and_step s answers w p (call_move s b p)))) (cond v (with_attempt s b p tried at) (settled s (with_call s b p tried at) p (made_by s answers w1 p) at))) [
      | true ↦ (tt, attempt-kept s w b p tried at top lt k fit)
      | false ↦ ((fit, (two.0, tt)), two.1)
    ]
turn-kept s answers w b p at Step top lt k fit =
    ((fit, tt), step-kept s answers w b p at top lt (same-between s at w b p k) fit)
turn-kept s answers w b p at Free top lt k fit =
    let q = known w.passes p in
    let w1 = after_move s.rules w (Release p) in
    let e : w1 ≡ placed_at w p (released q) = ap (λ b. cond b (placed_at w p (released q)) w) fit in
    let two = two-moves s answers w w1 b p at (released q) top lt k e (released-moves q fit) in
    ((fit, (two.0, tt)), two.1)
turn-kept s answers w b p at (Gain stolen) top lt k fit = (tt, gain-kept s w b p at (known w.passes p).reg.mode stolen top lt k fit)

-- the whole run

admitted-append : (t : Rules) (w : World) (xs ys : List Move) → IsEachAdmitted t w xs → IsEachAdmitted t (run t w xs) ys → IsEachAdmitted t w (xs ++ ys)
admitted-append t w [] ys a b = b
admitted-append t w (m ∷ xs) ys a b = (a.0, admitted-append t (after_move t w m) xs ys a.1 b)

pub kept-from : (s : Setup) (t : ℕ) (w : World) (b : Bench) (e : Entry) → Kept s t w b → IsSoonest b.stands s.passes e → Kept s e.at w b
kept-from s t w b e k sn = record {
  passes = k.passes;
  few = k.few;
  seats = k.seats;
  stands = λ q lt. record { fit = (k.stands q lt).fit; time = sn.least q lt };
}

module _ (s : Setup) (answers : Answers) (until : s.until ≤ 18446744073709551615) where
  abbrev Goes : ℕ → Type 0
  Goes n = (t : ℕ) (st : State) → Kept s t st.world st.bench → IsEachAdmitted s.rules st.world (moves_of s answers n st) × IsRising t (times_of s answers n st)

  goes-on : (n t : ℕ) (st : State) (o : Option Entry) → next_turn s st.bench ≡ o → Kept s t st.world st.bench → Goes n
      → IsEachAdmitted s.rules st.world (turning o [] (λ e. turn_moves s answers st.world st.bench e.pass e.turn ++ moves_of s answers n (after_turn s answers st e)))
      × IsRising t (turning o [] (λ e. e.at ∷ times_of s answers n (after_turn s answers st e)))
  goes-on n t st None is k ih = (tt, tt)
  goes-on n t st (Some e) is k ih =
      let sn = in-time-some st.bench.stands s.passes s.until (soonest st.bench.stands s.passes) e (found st.bench.stands s.passes) is in
      let top : e.at ≤ 18446744073709551615 = let h = sn.1 in omega arith in
      let own : Stands t (known st.world.passes e.pass) (Due e.at e.turn) = subst (Stands t (known st.world.passes e.pass)) sn.0.due (k.stands e.pass sn.0.below) in
      let turned = turn-kept s answers st.world st.bench e.pass e.at e.turn top sn.0.below (kept-from s t st.world st.bench e k sn.0) own.fit in
      let rest = ih e.at (after_turn s answers st e) turned.1 in
      (admitted-append s.rules st.world (turn_moves s answers st.world st.bench e.pass e.turn) (moves_of s answers n (after_turn s answers st e)) turned.0 rest.0, (own.time, rest.1))

  goes : (n : ℕ) → Goes n
  goes zero = λ t st k. (tt, tt)
  goes (suc n) = λ t st k. goes-on n t st (next_turn s st.bench) refl k (goes n)

-- the opening

stands-long : (s : Setup) (n : ℕ) → length (stands_below s n) ≡ 1024
stands-long s zero = length-replicate 1024 (Sleeps 0)
stands-long s (suc n) = length-set (stands_below s n) n _ ∙ stands-long s n

pub stands-at : (s : Setup) (n p : ℕ) → p < n → n ≤ 1024 → stand_at (stands_below s n) p ≡ Due (thought s.work.think (seeded s.seed p)) (Call 0)
stands-at s zero p lt few = absurd (omega arith)
stands-at s (suc n) p lt few =
    let up : ℕ → Stand = λ k. Due (thought s.work.think (seeded s.seed k)) (Call 0) in
    let inside : n < length (stands_below s n) = let f = stands-long s n in omega arith in
    elim (cases_eq p n) as (λ _. stand_at (set (stands_below s n) n (up n)) p ≡ up p) [
      | inl same ↦ subst (λ (x : ℕ). stand_at (set (stands_below s n) n (up n)) x ≡ up x) (sym same) (get_or-set_same (stands_below s n) n (up n) (Sleeps 0) inside)
      | inr apart ↦ get_or-set_other (stands_below s n) n p (up n) (Sleeps 0) apart ∙ stands-at s n p (omega arith) (omega arith)
    ]

idle-at : (b : ℕ) (attrs : List Attr) (p : ℕ) → get_or (idle_from b attrs) p (idle (b + p)) ≡ idle (b + p)
idle-at b [] p = refl
idle-at b (a ∷ rest) zero = ap idle (sym (add-zero b))
idle-at b (a ∷ rest) (suc k) = let e : suc b + k ≡ b + suc k = omega arith in
    subst (λ (x : ℕ). get_or (idle_from (suc b) rest) k (idle x) ≡ idle x) e (idle-at (suc b) rest k)

pub idle-known : (attrs : List Attr) (p : ℕ) → known (idle_from 0 attrs) p ≡ idle p
idle-known attrs p = let e : 0 + p ≡ p = omega arith in subst (λ (x : ℕ). get_or (idle_from 0 attrs) p (idle x) ≡ idle x) e (idle-at 0 attrs p)

pub opening-kept : (s : Setup) (attrs : List Attr) → IsSetUp s attrs → Kept s 0 (opening_state s attrs).world (opening_state s attrs).bench
opening-kept s attrs up = record {
  passes = idle-from-long 0 attrs ∙ up.passes;
  few = up.few;
  seats = stands-long s s.passes;
  stands = λ q lt.
      let own : Stands 0 (idle q) (Due (thought s.work.think (seeded s.seed q)) (Call 0)) = record { fit = refl; time = omega arith } in
      subst (λ (x : PassState). Stands 0 x (stand_at (stands_below s s.passes) q)) (sym (idle-known attrs q))
      (subst (Stands 0 (idle q)) (sym (stands-at s s.passes q lt up.few)) own);
}

pub runs-are-admitted : RunsAreAdmitted
runs-are-admitted s answers n attrs up = (goes s answers up.until n 0 (opening_state s attrs) (opening-kept s attrs up)).0

pub times-never-fall : TimesNeverFall
times-never-fall s answers n attrs up = (goes s answers up.until n 0 (opening_state s attrs) (opening-kept s attrs up)).1
