-- A pass begins to take the lock, or to give it back: no word changes, and no value moves.
use Rattle.std.proofs.Common.{◌≡◌, ℕ, ◌<◌, Bool, true, false, cond, List, [], ◌∷◌, map, length, Option, Some, None, refl, sym, ap, ◌∙◌, subst, arith}
use Rattle.atomic_table.specs.Table.{Me}
use Rattle.atomic_table.specs.Seated.{TableId}
use Rattle.shfl_line.specs.declared.events.Mode.{Mode}
use Rattle.shfl_line.specs.declared.events.Mode.TheVariants.{Write, Read}
use Rattle.shfl_core.specs.declared.phase.Rules.{Rules}
use Rattle.shfl_core.specs.declared.phase.Phase.{Phase}
use Rattle.shfl_core.specs.declared.phase.Phase.TheVariants.{Held}
use Rattle.shfl_core.specs.declared.phase.Registers.{Registers}
use Rattle.shfl_core.specs.declared.phase.Nap.{Nap}
use Rattle.shfl_core.specs.declared.phase.Nap.TheVariants.{Awake, Doze, Hear, Rouse, Ring}
use Rattle.shfl_core.specs.declared.phase.PassState.{PassState}
use Rattle.shfl_core.specs.Phases.{is_holding}
use Rattle.shfl_core.specs.Words.{index, site}
use Rattle.shfl_core.specs.Plan.{plan, plan_at, plan_by, is_idle, is_resting}
use Rattle.shfl_core.specs.Take.{acquired, released, entry, exit}
use Rattle.shfl_core.specs.Waiting.{MayUse}
use Rattle.shfl_laws.proofs.laws.SeenAs.{moves-unseen}
use Rattle.shfl_laws.proofs.laws.MoveLaws.{idle-is, resting-is}
use Rattle.shfl_table.specs.declared.kept.Action.{Action}
use Rattle.shfl_table.specs.declared.view.View.{View}
use Rattle.shfl_laws.specs.Holds.{hold_of}
use Rattle.shfl_table.specs.Places.{first_place, place_count, Every, numbered, values_of}
use Rattle.shfl_table.specs.Histories.{common_history}
use Rattle.shfl_table.specs.PassInvariant.{Carries, IsGoodUnder, PassInvariant}
use Rattle.shfl_table.proofs.Places.{values_numbered}
use Rattle.shfl_table.proofs.Candidates.{asks-entered, asks-left}

bare : {X : Type 0} (values : List (Option X)) → length values ≡ 0 → values ≡ []
bare [] e = refl
bare (x ∷ xs) e = absurd (omega arith)

module _ {X : Type 0} (initial_state : X → List ℕ) (history : X → List Action) (rules : Rules) (own : PassState) (id : TableId) (me : Me (Option X) View) (k : PassInvariant initial_state history rules own id me) where
  by-nap : (n : Nap) (f : Phase) (r : Registers) → own.nap ≡ n → index (site (plan_at rules own.reg.me r f)) ≡ 0 → index (site (plan_by rules own.reg.me r n f)) < id.words
  by-nap Awake f r e z = let h = k.range in omega arith
  by-nap Doze f r e z = subst (λ m. index (site (plan_by rules own.reg.me own.reg m own.phase)) < id.words) e k.range
  by-nap Hear f r e z = subst (λ m. index (site (plan_by rules own.reg.me own.reg m own.phase)) < id.words) e k.range
  by-nap Rouse f r e z = subst (λ m. index (site (plan_by rules own.reg.me own.reg m own.phase)) < id.words) e k.range
  by-nap (Ring whom) f r e z = subst (λ m. index (site (plan_by rules own.reg.me own.reg m own.phase)) < id.words) e k.range

  at-entry : (m : Mode) (r : Registers) → index (site (plan_at rules own.reg.me r (entry m))) ≡ 0
  at-entry Write r = refl
  at-entry Read r = refl

  at-exit : (m : Mode) (r : Registers) → index (site (plan_at rules own.reg.me r (exit m))) ≡ 0
  at-exit Write r = refl
  at-exit Read r = refl

  no-hold : is_idle own.phase ≡ true → me.1 ≡ []
  no-hold e = let h : hold_of own ≡ None = ap (λ f. cond (is_holding f) (Some own.reg.mode) None) (idle-is own.phase e) in
      k.carries.is ∙ ap (numbered (first_place (hold_of own) own.reg.me)) (bare k.carries.values (k.carries.long ∙ ap (λ z. place_count z own.reg.me id.slots) h))

  enters : (m : Mode) → me.1 ≡ [] → Carries initial_state history id.slots (record own { phase = entry m; reg = record own.reg { mode = m } }) me.0 me.1
  enters Write e = record { values = []; is = e; long = refl; good = tt; leaving = λ l. absurd (cc) }
  enters Read e = record { values = []; is = e; long = refl; good = tt; leaving = λ l. absurd (cc) }

  acquire-by : (m : Mode) (b : Bool) → is_idle own.phase ≡ b → (index (site (plan rules (cond b (record own { phase = entry m; reg = record own.reg { mode = m } }) own).reg.me (cond b (record own { phase = entry m; reg = record own.reg { mode = m } }) own))) < id.words)
      × Carries initial_state history id.slots (cond b (record own { phase = entry m; reg = record own.reg { mode = m } }) own) me.0 me.1
  acquire-by m true e = (by-nap own.nap (entry m) (record own.reg { mode = m }) refl (at-entry m (record own.reg { mode = m })), enters m (no-hold e))
  acquire-by m false e = (k.range, k.carries)

  pub acquire-kept : (m : Mode) (q : PassState) → MayUse rules.form m → q ≡ acquired m own → PassInvariant initial_state history rules q id me
  acquire-kept m q may e = let a = acquire-by m (is_idle own.phase) refl in subst (λ (z : PassState). PassInvariant initial_state history rules z id me) (sym e) (record {
    live = k.live;
    seen = (moves-unseen rules.form).acquire m own me.0.pass may k.seen;
    range = a.0;
    carries = a.1;
    back = k.back;
    parts = k.parts;
    asks = asks-entered m own me.0.attrs k.asks;
  })

  abbrev Within : Type 0
  Within = (xs : List X) × (values_of me.1 ≡ map Some xs) × Every (λ x. history x ≡ common_history history me.0.history xs) xs

  leaving-hold : (m : Mode) → own.phase ≡ Held → own.reg.mode ≡ m → hold_of own ≡ hold_of (record own { phase = exit m })
  leaving-hold Write f e = ap (λ z. cond (is_holding z) (Some own.reg.mode) None) f
  leaving-hold Read f e = ap (λ z. cond (is_holding z) (Some own.reg.mode) None) f

  leaves-now : is_resting own ≡ true → ((xs : List X) × (values_of me.1 ≡ map Some xs) × Every (λ x. history x ≡ common_history history me.0.history xs) xs) → Carries initial_state history id.slots (record own { phase = exit own.reg.mode }) me.0 me.1
  leaves-now e w = let c = k.carries in let h = leaving-hold own.reg.mode (resting-is own e).0 refl in record {
    values = c.values;
    is = c.is ∙ ap (λ z. numbered (first_place z own.reg.me) c.values) h;
    long = c.long ∙ ap (λ z. place_count z own.reg.me id.slots) h;
    good = subst (λ z. Every (IsGoodUnder initial_state history me.0.initial_state z own.reg.me me.0.history) c.values) h c.good;
    leaving = λ l. (w.0, sym (ap values_of c.is ∙ values_numbered (first_place (hold_of own) own.reg.me) c.values) ∙ w.1, w.2);
  }

  release-by : (b : Bool) → is_resting own ≡ b → (is_resting own ≡ true → (xs : List X) × (values_of me.1 ≡ map Some xs) × Every (λ x. history x ≡ common_history history me.0.history xs) xs)
      → (index (site (plan rules (cond b (record own { phase = exit own.reg.mode }) own).reg.me (cond b (record own { phase = exit own.reg.mode }) own))) < id.words) × Carries initial_state history id.slots (cond b (record own { phase = exit own.reg.mode }) own) me.0 me.1
  release-by true e w = (by-nap own.nap (exit own.reg.mode) own.reg refl (at-exit own.reg.mode own.reg), leaves-now e (w e))
  release-by false e w = (k.range, k.carries)

  pub release-kept : (q : PassState) → q ≡ released own → (is_resting own ≡ true → (xs : List X) × (values_of me.1 ≡ map Some xs) × Every (λ x. history x ≡ common_history history me.0.history xs) xs) → PassInvariant initial_state history rules q id me
  release-kept q e w = let a = release-by (is_resting own) refl w in subst (λ (z : PassState). PassInvariant initial_state history rules z id me) (sym e) (record {
    live = k.live;
    seen = (moves-unseen rules.form).release own me.0.pass k.seen;
    range = a.0;
    carries = a.1;
    back = k.back;
    parts = k.parts;
    asks = asks-left own me.0.attrs k.asks;
  })
