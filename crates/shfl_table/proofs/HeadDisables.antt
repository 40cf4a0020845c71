-- What a pass at the queue's head keeps where it disables stealing, and what that tells.
use Rattle.std.proofs.Common.{◌≡◌, ℕ, ◌+◌, Bool, true, false, List, [], ◌∷◌, ◌++◌, Option, Some, refl, sym, ap, ◌∙◌, subst, append-nil}
use Rattle.atomic_table.specs.Table.{Me}
use Rattle.atomic_table.specs.Seated.{TableId}
use Rattle.shfl_core.specs.declared.phase.PassState.{PassState}
use Rattle.shfl_core.specs.declared.phase.Rules.{Rules}
use Rattle.shfl_core.specs.declared.words.Access.{Access}
use Rattle.shfl_core.specs.Words.{written}
use Rattle.shfl_core.specs.Lawful.{Terms, Lawful}
use Rattle.shfl_core.proofs.Lists.{set-again}
use Rattle.shfl_laws.specs.Holds.{hold_of}
use Rattle.shfl_laws.specs.Stealing.{disable_plan}
use Rattle.shfl_laws.proofs.laws.Stealing.{disable-law}
use Rattle.shfl_table.specs.declared.kept.Action.{Action}
use Rattle.shfl_table.specs.declared.view.View.{View}
use Rattle.shfl_table.specs.BoardRule.{BoardRule}
use Rattle.shfl_table.specs.Disabling.{disabling_play}
use Rattle.shfl_table.specs.Outcomes.{waits_at_head}
use Rattle.shfl_table.specs.PassInvariant.{PassInvariant}
use Rattle.shfl_table.specs.PassModel.{PassModel}
use Rattle.shfl_table.specs.Perform.{Permits}
use Rattle.shfl_table.specs.Places.{values_of}
use Rattle.shfl_table.specs.ValueMoves.{MovesValues}
use Rattle.shfl_table.specs.Views.{no_deeds, view_after}
use Rattle.shfl_table.proofs.Operations.{operate-permits}
use Rattle.shfl_table.proofs.SeatViews.{none-some}
use Rattle.shfl_table.proofs.ThreadRuns.{disabling-goes-on}

-- the operation is permitted to any seat whose pass is there
pub disabling-permits : {V : Type 0} (initial_state : V → List ℕ) (history : V → List Action) (slots id : ℕ) (r : List ℕ) (key t : Terms) (m : Me (Option V) View) (access : Access) → t ≡ key → m.0.live ≡ true → access ≡ disable_plan
    → Permits (BoardRule initial_state history key r) slots id m (disabling_play initial_state history t) access
disabling-permits initial_state history slots id r key t m access made live planned =
    subst (λ (z : Terms × Access). Permits (BoardRule initial_state history key r) slots id m (disabling_play initial_state history z.0) z.1) (λ j. (sym made j, sym planned j))
    (operate-permits initial_state history key r slots id m disable_plan (λ _. m.0.pass) no_deeds live (λ n. refl)
    (λ num w ok at. subst (λ (l : List PassState). Lawful key (record { words = written w.words disable_plan; passes = l })) (sym (set-again w.passes id m.0.pass at)) (disable-law key w ok).lawful)
    (λ num w ok at. disabling-goes-on key.rules w id m.0.pass at)
    (λ n x y e f. let s : Some x ≡ Some y = sym e ∙ f in cc)
    (λ n x e f. absurd (none-some (hold_of m.0.pass) x f e)))

module _ {X : Type 0} (initial_state : X → List ℕ) (history : X → List Action) (rules : Rules) (own : PassState) (id : TableId) (me me' : Me (Option X) View) (k : PassInvariant initial_state history rules own id me) (n : ℕ)
    (r : MovesValues initial_state history (λ _. me.0.pass) no_deeds id.slots me n me') where
  same : (me'.1 ≡ me.1) × (me'.0 ≡ view_after (no_deeds n) me.0 me.0.pass me.0.history)
  same = r.stays refl

  pub disabling-kept : (id' : TableId) → id' ≡ id → PassInvariant initial_state history rules own id' me'
  disabling-kept id' there = subst (λ (z : TableId × Me (Option X) View). PassInvariant initial_state history rules own z.0 z.1) (λ j. (sym there j, (sym same.1 j, sym same.0 j))) (record {
    live = k.live;
    seen = k.seen;
    range = k.range;
    carries = record {
      values = k.carries.values;
      is = k.carries.is;
      long = k.carries.long;
      good = k.carries.good;
      leaving = k.carries.leaving;
    };
    back = k.back;
    parts = k.parts;
    asks = k.asks;
  })

  pub disabling-told : (id' : TableId) (m : PassModel X) → id' ≡ id → record { board = record { table = id; rules = rules; attrs = me.0.attrs }; own = own; steps_taken = me.0.steps_taken; found = me.0.found; decisions = me.0.decisions; attempts = me.0.attempts; initial_state = me.0.initial_state; history = me.0.history; values = values_of me.1 } ≡ m
      → record { board = record { table = id'; rules = rules; attrs = me'.0.attrs }; own = own; steps_taken = me'.0.steps_taken; found = me'.0.found; decisions = me'.0.decisions; attempts = me'.0.attempts; initial_state = me'.0.initial_state; history = me'.0.history; values = values_of me'.1 } ≡ record m { steps_taken = m.steps_taken + 1; found = m.found ++ n ∷ [] }
  disabling-told id' m there is_m = (λ j. record { board = record { table = there j; rules = rules; attrs = (same.1 j).attrs }; own = own; steps_taken = (same.1 j).steps_taken; found = (same.1 j).found; decisions = (ap (λ (v : View). v.decisions) same.1 ∙ append-nil me.0.decisions) j; attempts = (same.1 j).attempts; initial_state = (same.1 j).initial_state; history = (same.1 j).history; values = values_of (same.0 j) })
      ∙ ap (λ (z : PassModel X). record z { steps_taken = z.steps_taken + 1; found = z.found ++ n ∷ [] }) is_m

-- where it disables stealing, or finds that it doesn't wait at the queue's head, at most a step and the word found are new
pub disables-or-stays : {X : Type 0} (old new : PassModel X) (b : Bool) → waits_at_head old.own ≡ b → (waits_at_head old.own ≡ false → new ≡ old)
    → (waits_at_head old.own ≡ true → (word : ℕ) × (new ≡ record old { steps_taken = old.steps_taken + 1; found = old.found ++ word ∷ [] })) → (n : ℕ) × (more : List ℕ) × (new ≡ record old { steps_taken = n; found = old.found ++ more })
disables-or-stays old new true e still made = let m = made e in (old.steps_taken + 1, m.0 ∷ [], m.1)
disables-or-stays old new false e still made = (old.steps_taken, [], still e ∙ (λ j. record old { found = sym (append-nil old.found) j }))
