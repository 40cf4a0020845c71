-- What each turn keeps: how a pass stands fits the way its turn goes on, and no turn comes before the last one.
use Rattle.std.proofs.Common.{◌≡◌, inl, inr, ℕ, ◌<◌, ◌≤◌, ◌==◌, ◌&&◌, Bool, true, false, cond, not, List, length, set, refl, sym, ap, subst, ◌∙◌, Option, Some, None, arith, true≢false}
use Rattle.std.proofs.lemmas.List.{get_or-set_same, get_or-set_other}
use Rattle.std.proofs.lemmas.Bool.{cases_eq}
use Rattle.std.proofs.lemmas.Bool.Decides.{nat_tests}
use Rattle.shfl_core.specs.declared.phase.Phase.{Phase}
use Rattle.shfl_core.specs.declared.phase.Phase.TheVariants as phases
use Rattle.shfl_core.specs.declared.phase.Nap.{Nap}
use Rattle.shfl_core.specs.declared.phase.Nap.TheVariants as naps
use Rattle.shfl_core.specs.declared.phase.PassState.{PassState}
use Rattle.shfl_core.specs.declared.phase.Registers.{Registers}
use Rattle.shfl_core.specs.declared.phase.Rules.{Rules}
use Rattle.shfl_core.specs.Plan.{moving, is_idle, is_resting}
use Rattle.shfl_core.specs.Runner.{is_parked}
use Rattle.shfl_core.specs.Take.{take, take_by}
use Rattle.sim_setup.specs.declared.setup.Setup.{Setup}
use Rattle.sim_setup.specs.declared.setup.Costs.{Costs}
use Rattle.sim_setup.specs.Clock.{plus, later}
use Rattle.sim_setup.specs.Draws.{thought}
use Rattle.sim_model.specs.declared.steps.Rest.TheVariants.{Spins as SpinsOn, Sleeps as SleepsOn, Holds, Away, Goes}
use Rattle.sim_model.specs.declared.turns.Stand.{Stand}
use Rattle.sim_model.specs.declared.turns.Stand.TheVariants.{Due, Spins, Sleeps}
use Rattle.sim_model.specs.declared.turns.Turn.TheVariants.{Step}
use Rattle.sim_model.specs.Laws.{IsFit, IsNotBefore}
use Rattle.sim_model.specs.Steps.{at_look, at_peek, at_head_look, at_late, is_same_look, is_awake, is_first, rest_of, stand_after, raised, with_ring, rung_ends, waking_ends}
use Rattle.sim_model.specs.Turns.{stand_at, woken, all_woken}
use Rattle.sim_model.proofs.Mapped.{mapped-either}

-- times

pub plus-after : (t a b : ℕ) → t ≤ a → t ≤ 18446744073709551615 → t ≤ plus a b
unfolding plus
plus-after t a b h top = omega arith

later-of : (test : Bool) (t a b : ℕ) → t ≤ a → t ≤ b → t ≤ cond test b a
later-of true t a b h k = k
later-of false t a b h k = h

-- the later of two times is no sooner than the first
later-first : (a b : ℕ) → a ≤ later a b
unfolding later
later-first a b = grind (arith, nat_tests)

pub later-after : (t a b : ℕ) → t ≤ a → t ≤ later a b
later-after t a b h = let k = later-first a b in omega arith

-- a pass that stands so

pub record Stands (t : ℕ) (q : PassState) (x : Stand) : Type 0 where
  pub fit : IsFit q x
  pub time : IsNotBefore t x

pub woken-stands : (t line ends : ℕ) (q : PassState) (x : Stand) → t ≤ ends → Stands t q x → Stands t q (woken line ends x)
woken-stands t line ends q (Due at turn) le ok = ok
woken-stands t line ends q (Sleeps from) le ok = ok
woken-stands t line ends q (Spins own since) le ok =
    elim (own == line) as (λ b. Stands t q (cond b (Due (later ends since) Step) (Spins own since))) [
      | true ↦ record { fit = ok.fit; time = later-after t ends since le }
      | false ↦ ok
    ]

pub all-woken-stands : (t n line ends p : ℕ) (q : PassState) (standing : List Stand) → t ≤ ends → Stands t q (stand_at standing p) → Stands t q (stand_at (all_woken n line ends standing) p)
all-woken-stands t n line ends p q standing le ok =
    mapped-either (Stands t q) (woken line ends) standing n p (Sleeps 0) ok (woken-stands t line ends q (stand_at standing p) le ok)

-- whoever is woken from its sleep gets up later
pub raised-stands : (costs : Costs) (t ends p whom : ℕ) (q : PassState) (standing : List Stand) (x : Stand) → x ≡ stand_at standing whom
    → p < length standing → t ≤ ends → t ≤ 18446744073709551615 → Stands t q (stand_at standing p) → Stands t q (stand_at (raised costs standing whom x ends) p)
raised-stands costs t ends p whom q standing (Due at turn) is inside le top ok = ok
raised-stands costs t ends p whom q standing (Spins line since) is inside le top ok = ok
raised-stands costs t ends p whom q standing (Sleeps from) is inside le top ok =
    let up : Stand = Due (plus (later (plus ends costs.wake) from) costs.rise) Step in
    elim (cases_eq whom p) as (λ _. Stands t q (stand_at (set standing whom up) p)) [
      | inl e ↦
          let sleeper : stand_at standing p ≡ Sleeps from = ap (stand_at standing) (sym e) ∙ sym is in
          let own : Stands t q (Sleeps from) = subst (Stands t q) sleeper ok in
          let waits : t ≤ plus ends costs.wake = plus-after t ends costs.wake le top in
          let gets : t ≤ later (plus ends costs.wake) from = later-after t (plus ends costs.wake) from waits in
          let is_up : stand_at (set standing whom up) p ≡ up = ap (λ w. stand_at (set standing w up) p) e ∙ get_or-set_same standing p up (Sleeps 0) inside in
          subst (Stands t q) (sym is_up) (record { fit = own.fit; time = plus-after t (later (plus ends costs.wake) from) costs.rise gets top })
      | inr apart ↦
          subst (Stands t q) (sym (get_or-set_other standing whom p up (Sleeps 0) (λ e. apart (sym e)))) ok
    ]

pub ring-stands : (costs : Costs) (t ends p : ℕ) (q : PassState) (standing : List Stand) (who : Option ℕ)
    → p < length standing → t ≤ ends → t ≤ 18446744073709551615 → Stands t q (stand_at standing p) → Stands t q (stand_at (with_ring costs standing who ends) p)
unfolding with_ring
ring-stands costs t ends p q standing None inside le top ok = ok
ring-stands costs t ends p q standing (Some whom) inside le top ok = raised-stands costs t ends p whom q standing (stand_at standing whom) refl inside le top ok

waking-after : (costs : Costs) (t ends : ℕ) (x : Stand) → t ≤ ends → t ≤ 18446744073709551615 → t ≤ waking_ends costs x ends
waking-after costs t ends (Due at turn) le top = le
waking-after costs t ends (Spins line since) le top = le
waking-after costs t ends (Sleeps from) le top = plus-after t ends costs.wake le top

pub rung-after : (costs : Costs) (t ends : ℕ) (standing : List Stand) (who : Option ℕ) → t ≤ ends → t ≤ 18446744073709551615 → t ≤ rung_ends costs standing who ends
unfolding rung_ends
rung-after costs t ends standing None le top = le
rung-after costs t ends standing (Some whom) le top = waking-after costs t ends (stand_at standing whom) le top

-- what a pass does after its step fits how it stands then

look-moves : (f : Phase) (r : Registers) (z : Nap) → at_look f ≡ true → moving (record { phase = f; reg = r; nap = z }) ≡ true
look-moves phases.Look r z e = refl
look-moves _ r z e = absurd (true≢false (sym e))

peek-moves : (f : Phase) (r : Registers) (z : Nap) → at_peek f ≡ true → moving (record { phase = f; reg = r; nap = z }) ≡ true
peek-moves phases.Peek r z e = refl
peek-moves _ r z e = absurd (true≢false (sym e))

head-look-moves : (f : Phase) (r : Registers) (z : Nap) → at_head_look f ≡ true → moving (record { phase = f; reg = r; nap = z }) ≡ true
head-look-moves phases.HeadLook r z e = refl
head-look-moves _ r z e = absurd (true≢false (sym e))

late-moves : (f : Phase) (r : Registers) (z : Nap) → at_late f ≡ true → moving (record { phase = f; reg = r; nap = z }) ≡ true
late-moves phases.Late r z e = refl
late-moves _ r z e = absurd (true≢false (sym e))

same-look-moves : (g f : Phase) (r : Registers) (z : Nap) → is_same_look g f ≡ true → moving (record { phase = f; reg = r; nap = z }) ≡ true
same-look-moves phases.Look f r z e = look-moves f r z e
same-look-moves phases.Peek f r z e = peek-moves f r z e
same-look-moves phases.HeadLook f r z e = head-look-moves f r z e
same-look-moves phases.Late f r z e = late-moves f r z e
same-look-moves _ f r z e = absurd (true≢false (sym e))

-- a pass that sleeps on has a step to make
pub parked-moves : (t : Rules) (p : ℕ) (r : Registers) (n : ℕ) (c : Bool) (z : Nap) (f : Phase) → is_parked z ≡ true → moving (record { phase = f; reg = r; nap = z }) ≡ true
    → moving (take_by t p r n c z f) ≡ true
parked-moves t p r n c naps.Hear f e h =
    elim (n == 1) as (λ b. moving (record { phase = f; reg = r; nap = cond b naps.Rouse naps.Hear }) ≡ true) [ true ↦ h | false ↦ h ]
parked-moves t p r n c naps.Awake f e h = absurd (true≢false (sym e))
parked-moves t p r n c naps.Doze f e h = absurd (true≢false (sym e))
parked-moves t p r n c naps.Rouse f e h = absurd (true≢false (sym e))
parked-moves t p r n c (naps.Ring whom) f e h = absurd (true≢false (sym e))

both : (a b : Bool) → a && b ≡ true → (a ≡ true) × (b ≡ true)
both true true e = (refl, refl)
both true false e = absurd (true≢false (sym e))
both false b e = absurd (true≢false (sym e))

neither : (a b : Bool) → a ≡ false → b ≡ false → not a && not b ≡ true
neither false false e f = refl
neither true b e f = absurd (true≢false e)
neither false true e f = absurd (true≢false f)

module _ (s : Setup) (t line ends draw : ℕ) (le : t ≤ ends) (top : t ≤ 18446744073709551615) where
  goes-stands : (a b first : Bool) (r : PassState) → is_resting r ≡ a → is_idle r.phase ≡ b → Stands t r (stand_after s (cond a (Holds first) (cond b Away Goes)) line ends draw)
  unfolding stand_after
  goes-stands true b first r e f = record { fit = e; time = le }
  goes-stands false true first r e f = record { fit = f; time = plus-after t ends (thought s.work.think draw) le top }
  goes-stands false false first r e f = record { fit = neither (is_idle r.phase) (is_resting r) f e; time = le }

  chosen-stands : (parked same first : Bool) (r : PassState) → (parked ≡ true → moving r ≡ true) → (same ≡ true → moving r ≡ true)
      → Stands t r (stand_after s (cond parked SleepsOn (cond same SpinsOn (cond (is_resting r) (Holds first) (cond (is_idle r.phase) Away Goes)))) line ends draw)
  unfolding stand_after
  chosen-stands true same first r sleeps spins = record { fit = sleeps refl; time = tt }
  chosen-stands false true first r sleeps spins = record { fit = spins refl; time = tt }
  chosen-stands false false first r sleeps spins = goes-stands (is_resting r) (is_idle r.phase) first r refl refl

  -- after a step of a pass that had one to make
  pub own-stands : (u : Rules) (p n : ℕ) (c : Bool) (q : PassState) → moving q ≡ true
      → Stands t (take u p q n c) (stand_after s (rest_of q (take u p q n c)) line ends draw)
  unfolding rest_of
  own-stands u p n c q h = let r = take u p q n c in
      chosen-stands (is_parked q.nap && is_parked r.nap) (is_awake q.nap && is_awake r.nap && is_same_look q.phase r.phase) (is_first q.phase) r
      (λ e. parked-moves u p q.reg n c q.nap q.phase (both (is_parked q.nap) (is_parked r.nap) e).0 h)
      (λ e. same-look-moves q.phase r.phase r.reg r.nap (both (is_awake q.nap && is_awake r.nap) (is_same_look q.phase r.phase) e).1)
