-- Taking a value out and putting one in: what both calls need of the pass.
use Rattle.std.proofs.Common.{◌≡◌, ℕ, List, ◌∷◌, ◌++◌, set, slice_get, Option, Some, true, sym, ◌∙◌, subst}
use Rattle.atomic_table.specs.Table.{Me}
use Rattle.atomic_table.specs.Seated.{TableId}
use Rattle.shfl_line.specs.declared.events.Mode.TheVariants.{Read}
use Rattle.shfl_core.specs.declared.phase.Rules.{Rules}
use Rattle.shfl_core.specs.declared.phase.PassState.{PassState}
use Rattle.shfl_core.specs.Plan.{is_held}
use Rattle.shfl_table.specs.declared.kept.Action.{Action}
use Rattle.shfl_table.specs.declared.view.View.{View}
use Rattle.shfl_table.specs.Places.{place_index, values_of}
use Rattle.shfl_table.specs.PassModel.{GrowsUnder, PassModel}
use Rattle.shfl_table.specs.PassInvariant.{Carries, IsGoodUnder, PassInvariant}
use Rattle.shfl_table.proofs.Turning.{Entry, entry, some_same}

module _ {X : Type 0} (initial_state : X → List ℕ) (history : X → List Action) (rules : Rules) (own : PassState) (id : TableId) (me : Me (Option X) View) (k : PassInvariant initial_state history rules own id me) (m : PassModel X) (place : ℕ) (y : Option X)
    (is : record { board = record { table = id; rules = rules; attrs = me.0.attrs }; own = own; steps_taken = me.0.steps_taken; found = me.0.found; decisions = me.0.decisions; attempts = me.0.attempts; initial_state = me.0.initial_state; history = me.0.history; values = values_of me.1 } ≡ m)
    (held : is_held m.own.phase ≡ true) (mine : m.own.reg.mode ≡ Read → place ≡ m.own.reg.me) (there : slice_get m.values (place_index m.own.reg.mode place) ≡ Some y) where
  pub at : Entry initial_state history id.slots own me.0 me.1 k.carries place y
  at = subst (λ (z : PassModel X). is_held z.own.phase ≡ true → (z.own.reg.mode ≡ Read → place ≡ z.own.reg.me) → slice_get z.values (place_index z.own.reg.mode place) ≡ Some y → Entry initial_state history id.slots own me.0 me.1 k.carries place y) is
      (λ h o s. entry initial_state history id.slots own me.0 me.1 k.carries place y h o s) held mine there

  module _ (z : Option X) (id' : TableId) (me' : Me (Option X) View) (same : id' ≡ id) (view : me'.0 ≡ me.0) (good : IsGoodUnder initial_state history me.0.initial_state (Some own.reg.mode) own.reg.me me.0.history z) (out : me'.1 ≡ at.before ++ (place, z) ∷ at.after) where
    moved : Carries initial_state history id.slots own me.0 me'.1 × (values_of me'.1 ≡ set (values_of me.1) (place_index own.reg.mode place) z)
    moved = at.other z good me'.1 out

    pub move-kept : PassInvariant initial_state history rules own id' me'
    move-kept = subst (λ (w : TableId × View). PassInvariant initial_state history rules own w.0 (w.1, me'.1)) (λ j. (sym same j, sym view j)) (record { live = k.live; seen = k.seen; range = k.range; carries = moved.0; back = k.back; parts = k.parts; asks = k.asks })

    pub move-told : record { board = record { table = id'; rules = rules; attrs = me'.0.attrs }; own = own; steps_taken = me'.0.steps_taken; found = me'.0.found; decisions = me'.0.decisions; attempts = me'.0.attempts; initial_state = me'.0.initial_state; history = me'.0.history; values = values_of me'.1 } ≡ record m { values = set m.values (place_index m.own.reg.mode place) z }
    move-told = (λ j. record { board = record { table = same j; rules = rules; attrs = (view j).attrs }; own = own; steps_taken = (view j).steps_taken; found = (view j).found; decisions = (view j).decisions; attempts = (view j).attempts; initial_state = (view j).initial_state; history = (view j).history; values = moved.1 j })
        ∙ (λ j. record (is j) { values = set (is j).values (place_index (is j).own.reg.mode place) z })

  pub good-in : (x : X) → (initial_state x ≡ m.initial_state) × GrowsUnder (Some m.own.reg.mode) m.own.reg.me m.history (history x) → IsGoodUnder initial_state history me.0.initial_state (Some own.reg.mode) own.reg.me me.0.history (Some x)
  good-in x g = let h : (initial_state x ≡ me.0.initial_state) × GrowsUnder (Some own.reg.mode) own.reg.me me.0.history (history x) = subst (λ (z : PassModel X). (initial_state x ≡ z.initial_state) × GrowsUnder (Some z.own.reg.mode) z.own.reg.me z.history (history x)) (sym is) g in
      λ u e. let same : x ≡ u = some_same x u e in subst (λ v. (initial_state v ≡ me.0.initial_state) × GrowsUnder (Some own.reg.mode) own.reg.me me.0.history (history v)) same h

  pub good-out : (x : X) → y ≡ Some x → (initial_state x ≡ m.initial_state) × GrowsUnder (Some m.own.reg.mode) m.own.reg.me m.history (history x)
  good-out x e = subst (λ (z : PassModel X). (initial_state x ≡ z.initial_state) × GrowsUnder (Some z.own.reg.mode) z.own.reg.me z.history (history x)) is (at.good x e)
