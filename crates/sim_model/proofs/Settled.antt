-- A step keeps how the passes stand.
use Rattle.std.proofs.Common.{◌≡◌, ◌≢◌, inl, inr, ℕ, ◌<◌, ◌≤◌, Bool, true, false, cond, List, length, set, refl, sym, ap, subst, ◌∙◌, Option, Some, None, arith, length-set}
use Rattle.std.proofs.lemmas.Bool.{cases_eq}
use Rattle.std.proofs.lemmas.List.{get_or-set_same, get_or-set_other}
use Rattle.shfl_core.specs.declared.phase.PassState.{PassState}
use Rattle.shfl_core.specs.declared.phase.Rules.{Rules}
use Rattle.shfl_core.specs.Plan.{moving, plan}
use Rattle.shfl_core.specs.Take.{take}
use Rattle.shfl_core.specs.Waiting.{idle}
use Rattle.shfl_core.specs.Words.{look, site}
use Rattle.shfl_core.specs.Worlds.{World, Step, known, stepped, after_move}
use Rattle.sim_setup.specs.declared.lines.Line.{Line}
use Rattle.sim_setup.specs.declared.lines.Reach.{Reach}
use Rattle.sim_setup.specs.declared.lines.Reach.TheVariants.{Hit, Near, Far}
use Rattle.sim_setup.specs.declared.setup.Core.{Core}
use Rattle.sim_setup.specs.declared.setup.Costs.{Costs}
use Rattle.sim_setup.specs.declared.setup.Setup.{Setup}
use Rattle.sim_setup.specs.Clock.{later}
use Rattle.sim_setup.specs.Lines.{touched, touched_at, reach_of, cost_of}
use Rattle.sim_setup.specs.Places.{is_load, line_of, rung, core_at, line_at}
use Rattle.sim_model.specs.declared.bench.Bench.{Bench}
use Rattle.sim_model.specs.declared.steps.Made.{Made}
use Rattle.sim_model.specs.declared.turns.Stand.{Stand}
use Rattle.sim_model.specs.declared.turns.Stand.TheVariants.{Due, Spins, Sleeps}
use Rattle.sim_model.specs.Runs.{Answers}
use Rattle.sim_model.specs.Steps.{advice_at, made_by, rest_of, ended, touched_by, with_touch, raised, with_ring, stand_after, with_stand, settled}
use Rattle.sim_model.specs.Turns.{stand_at, woken, all_woken}
use Rattle.sim_model.proofs.Mapped.{mapped-long}
use Rattle.sim_model.proofs.Kept.{Stands, plus-after, later-after, all-woken-stands, ring-stands, rung-after, own-stands}

reach-after : (costs : Costs) (core : Core) (load : Bool) (t at : ℕ) (line : Line) (reach : Reach) → t ≤ at → t ≤ 18446744073709551615 → t ≤ (touched_at costs core load at line reach).ends
reach-after costs core load t at line Hit le top = plus-after t at (cost_of costs Hit load) le top
reach-after costs core load t at line Near le top = plus-after t (later at line.free) (cost_of costs Near load) (later-after t at line.free le) top
reach-after costs core load t at line Far le top = plus-after t (later at line.free) (cost_of costs Far load) (later-after t at line.free le) top

-- an access ends no sooner than it begins
pub touch-after : (costs : Costs) (core : Core) (load : Bool) (t at : ℕ) (line : Line) → t ≤ at → t ≤ 18446744073709551615 → t ≤ (touched costs core load at line).ends
unfolding touched
touch-after costs core load t at line le top = reach-after costs core load t at line (reach_of core line load) le top

raised-long : (costs : Costs) (standing : List Stand) (whom : ℕ) (x : Stand) (ends : ℕ) → length (raised costs standing whom x ends) ≡ length standing
raised-long costs standing whom (Due at turn) ends = refl
raised-long costs standing whom (Spins line since) ends = refl
raised-long costs standing whom (Sleeps from) ends = length-set standing whom _

pub ring-long : (costs : Costs) (standing : List Stand) (who : Option ℕ) (ends : ℕ) → length (with_ring costs standing who ends) ≡ length standing
unfolding with_ring
ring-long costs standing None ends = refl
ring-long costs standing (Some whom) ends = raised-long costs standing whom (stand_at standing whom) ends

module _ (s : Setup) (b : Bench) (p at : ℕ) (m : Made) (top : at ≤ 18446744073709551615) where
  access-after : at ≤ (touched_by s b p m at).ends
  unfolding touched_by
  access-after = touch-after s.costs (core_at s.cores p) (is_load m.access) at at (line_at b.lines (line_of s.layout (site m.access))) (omega arith) top

  ended-after : (ends : ℕ) → at ≤ ends → at ≤ ended s.costs m ends
  unfolding ended
  ended-after ends le = plus-after at _ _ (plus-after at _ _ (plus-after at ends _ le top) top) top

  touch-stands : (q : PassState) (k : ℕ) → Stands at q (stand_at b.stands k) → Stands at q (stand_at (with_touch s b p m at).stands k)
  unfolding with_touch
  touch-stands q k ok = let line = line_of s.layout (site m.access) in let ends = (touched_by s b p m at).ends in
      elim (is_load m.access) as (λ l. Stands at q (stand_at (cond l b.stands (all_woken s.passes line ends b.stands)) k)) [
        | true ↦ ok
        | false ↦ all-woken-stands at s.passes line ends k q b.stands access-after ok
      ]

  pub touch-long : length (with_touch s b p m at).stands ≡ length b.stands
  unfolding with_touch
  touch-long = let line = line_of s.layout (site m.access) in let ends = (touched_by s b p m at).ends in
      elim (is_load m.access) as (λ l. length (cond l b.stands (all_woken s.passes line ends b.stands)) ≡ length b.stands) [
        | true ↦ refl
        | false ↦ mapped-long (woken line ends) b.stands s.passes
      ]

  -- another pass stands as before, or has been woken
  pub settled-other : (q : PassState) (k : ℕ) → k ≢ p → k < length b.stands → Stands at q (stand_at b.stands k) → Stands at q (stand_at (settled s b p m at).stands k)
  unfolding with_stand
  settled-other q k apart inside ok =
      let ends = ended s.costs m (touched_by s b p m at).ends in
      let le : at ≤ ends = ended-after (touched_by s b p m at).ends access-after in
      let here : k < length (with_touch s b p m at).stands = let e = touch-long in omega arith in
      let before = ring-stands s.costs at ends k q (with_touch s b p m at).stands (rung m.access) here le top (touch-stands q k ok) in
      subst (Stands at q) (sym (get_or-set_other (with_ring s.costs (with_touch s b p m at).stands (rung m.access) ends) p k _ (Sleeps 0) apart)) before

  -- the pass itself stands as its step left it
  pub settled-own : (q : PassState) → p < length b.stands
      → ((line ends draw : ℕ) → at ≤ ends → Stands at q (stand_after s (rest_of m.before m.after) line ends draw)) → Stands at q (stand_at (settled s b p m at).stands p)
  unfolding with_stand
  settled-own q inside each =
      let ends = ended s.costs m (touched_by s b p m at).ends in
      let le : at ≤ ends = ended-after (touched_by s b p m at).ends access-after in
      let ring = with_ring s.costs (with_touch s b p m at).stands (rung m.access) ends in
      let here : p < length ring = let e = touch-long in let f = ring-long s.costs (with_touch s b p m at).stands (rung m.access) ends in omega arith in
      subst (Stands at q) (sym (get_or-set_same ring p _ (Sleeps 0) here)) (each _ _ _ (rung-after s.costs at ends (with_touch s b p m at).stands (rung m.access) le top))

  pub settled-long : length (settled s b p m at).stands ≡ length b.stands
  unfolding with_stand
  settled-long = let ends = ended s.costs m (touched_by s b p m at).ends in
      length-set (with_ring s.costs (with_touch s b p m at).stands (rung m.access) ends) p _ ∙ ring-long s.costs (with_touch s b p m at).stands (rung m.access) ends ∙ touch-long

pub known-same : (passes : List PassState) (p : ℕ) (r : PassState) → p < length passes → known (set passes p r) p ≡ r
known-same passes p r lt = get_or-set_same passes p r (idle p) lt

pub known-other : (passes : List PassState) (p q : ℕ) (r : PassState) → q ≢ p → known (set passes p r) q ≡ known passes q
known-other passes p q r apart = get_or-set_other passes p q r (idle q) apart

-- between the moves of a turn all other passes stand as they should, no turn of theirs before this time
pub record Between (s : Setup) (t p : ℕ) (w : World) (b : Bench) : Type 0 where
  pub passes : length w.passes ≡ s.passes
  pub few : s.passes ≤ 1024
  pub seats : length b.stands ≡ 1024
  pub others : (q : ℕ) → q < s.passes → q ≢ p → Stands t (known w.passes q) (stand_at b.stands q)

pub record Kept (s : Setup) (t : ℕ) (w : World) (b : Bench) : Type 0 where
  pub passes : length w.passes ≡ s.passes
  pub few : s.passes ≤ 1024
  pub seats : length b.stands ≡ 1024
  pub stands : (q : ℕ) → q < s.passes → Stands t (known w.passes q) (stand_at b.stands q)

pub admitted-step : (t : Rules) (w : World) (p : ℕ) (c : Bool) → moving (known w.passes p) ≡ true → after_move t w (Step p c) ≡ stepped t w p (known w.passes p) c
admitted-step t w p c h = ap (λ b. cond b (stepped t w p (known w.passes p) c) w) h

pub step-kept : (s : Setup) (answers : Answers) (w : World) (b : Bench) (p at : ℕ) → at ≤ 18446744073709551615 → p < s.passes
    → Between s at p w b → moving (known w.passes p) ≡ true
    → Kept s at (after_move s.rules w (Step p (advice_at s answers w p).yes)) (settled s b p (made_by s answers w p) at)
step-kept s answers w b p at top lt mid h =
    let q = known w.passes p in
    let c = (advice_at s answers w p).yes in
    let n = look w.words (site (plan s.rules p q)) in
    let r = take s.rules p q n c in
    let m = made_by s answers w p in
    let e : after_move s.rules w (Step p c) ≡ stepped s.rules w p q c = admitted-step s.rules w p c h in
    let long : p < length w.passes = let f = mid.passes in omega arith in
    let inside : p < length b.stands = let f = mid.seats in let g = mid.few in omega arith in
    let own : known (after_move s.rules w (Step p c)).passes p ≡ r = ap (λ (x : World). known x.passes p) e ∙ known-same w.passes p r long in
    record {
      passes = ap (λ (x : World). length x.passes) e ∙ length-set w.passes p r ∙ mid.passes;
      few = mid.few;
      seats = settled-long s b p at m top ∙ mid.seats;
      stands = λ k below. elim (cases_eq k p) as (λ _. Stands at (known (after_move s.rules w (Step p c)).passes k) (stand_at (settled s b p m at).stands k)) [
        | inl same ↦
            let here : Stands at r (stand_at (settled s b p m at).stands p) = settled-own s b p at m top r inside
            (λ line ends draw le. subst (λ (x : PassState). Stands at r (stand_after s (rest_of q x) line ends draw)) (sym own) (own-stands s at line ends draw le top s.rules p n c q h)) in
            subst (λ (x : ℕ). Stands at (known (after_move s.rules w (Step p c)).passes x) (stand_at (settled s b p m at).stands x)) (sym same)
            (subst (λ (x : PassState). Stands at x (stand_at (settled s b p m at).stands p)) (sym own) here)
        | inr apart ↦
            let there : known (after_move s.rules w (Step p c)).passes k ≡ known w.passes k = ap (λ (x : World). known x.passes k) e ∙ known-other w.passes p k r apart in
            let seat : k < length b.stands = let f = mid.seats in let g = mid.few in omega arith in
            subst (λ (x : PassState). Stands at x (stand_at (settled s b p m at).stands k)) (sym there) (settled-other s b p at m top (known w.passes k) k apart seat (mid.others k below apart))
      ];
    }
