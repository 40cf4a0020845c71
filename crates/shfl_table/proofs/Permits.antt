-- What a step is permitted, by what the pass knows of itself.
use Rattle.shfl_table.specs.Views.{attempt_deeds, number}
use Rattle.std.proofs.Common.{◌≡◌, ℕ, Bool, true, cond, List, Option, Some, None, refl, sym, ap, ◌∙◌, subst}
use Rattle.atomic_table.specs.Table.{Me}
use Rattle.shfl_line.specs.declared.events.Mode.{Mode}
use Rattle.shfl_line.specs.declared.events.Mode.TheVariants.{Write, Read}
use Rattle.shfl_core.specs.declared.phase.Phase.TheVariants.{Idle}
use Rattle.shfl_core.specs.Phases.{is_holding}
use Rattle.shfl_core.specs.Words.{told, index, site}
use Rattle.shfl_core.specs.Take.{attempted}
use Rattle.shfl_core.specs.Waiting.{MayUse}
use Rattle.shfl_laws.proofs.laws.AttemptRows.{attempt-law}
use Rattle.shfl_core.specs.declared.phase.Rules.{Rules}
use Rattle.shfl_core.specs.declared.phase.PassState.{PassState}
use Rattle.shfl_core.specs.declared.words.Access.{Access}
use Rattle.shfl_core.specs.Plan.{moving, plan, attempt_plan}
use Rattle.shfl_core.specs.Lawful.{Terms}
use Rattle.shfl_laws.specs.Seen.{SeenAs}
use Rattle.shfl_table.specs.Perform.{Permits}
use Rattle.shfl_table.specs.declared.kept.Action.{Action}
use Rattle.shfl_table.specs.declared.view.View.{View}
use Rattle.shfl_laws.specs.Holds.{hold_of, is_releasing}
use Rattle.shfl_table.specs.BoardRule.{BoardRule}
use Rattle.shfl_table.specs.ValueMoves.{MayFree, access_play, attempt_play, step_play}
use Rattle.shfl_table.proofs.Operations.{row-permits, operate-permits}
use Rattle.shfl_table.proofs.ThreadRuns.{attempt-goes-on}

pub permits : {V : Type 0} (initial_state : V → List ℕ) (history : V → List Action) (slots id : ℕ) (r : List ℕ) (key t : Terms) (rules : Rules) (q q' : PassState) (choice choice' : Bool) (me : Me (Option V) View) (access : Access) → (t ≡ key) × (q' ≡ q) × (choice' ≡ choice) → key.rules ≡ rules
    → (me.0.live ≡ true) × (number me.0 ≡ q.reg.me) × SeenAs rules.form q me.0.pass → moving q ≡ true → ((x : Mode) → hold_of q ≡ Some x → is_releasing q.phase ≡ true → MayFree initial_state history x slots me) → access ≡ plan rules q.reg.me q
    → Permits (BoardRule initial_state history key r) slots id me (step_play initial_state history t q' choice') access
permits initial_state history slots id r key t rules q q' choice choice' me access made keyed seat goes ready planned =
    subst (λ (z : Terms × PassState × Bool × Access). Permits (BoardRule initial_state history key r) slots id me (step_play initial_state history z.0 z.1 z.2) z.3)
    (λ j. (sym made.0 j, sym made.1 j, sym made.2 j, ((λ i. plan (keyed i) (seat.1 i) q) ∙ sym planned) j))
    (row-permits initial_state history key r slots id me q choice seat.0 (subst (λ (x : Rules). SeenAs x.form q me.0.pass) (sym keyed) seat.2) goes ready)

told-attempt : (mode : Mode) (n : ℕ) → told (attempt_plan mode) n ≡ n
told-attempt Write n = refl
told-attempt Read n = refl

-- the first operation of an attempt, with what it gains
pub tried-permits : {V : Type 0} (initial_state : V → List ℕ) (history : V → List Action) (t : Terms) (r : List ℕ) (slots id : ℕ) (m : Me (Option V) View) (mode : Mode) → m.0.live ≡ true → m.0.pass.phase ≡ Idle → MayUse t.rules.form mode
    → Permits (BoardRule initial_state history t r) slots id m (access_play initial_state history t (attempt_plan mode) (attempted mode m.0.pass.reg) attempt_deeds) (attempt_plan mode)
tried-permits initial_state history t r slots id m mode live idle may = operate-permits initial_state history t r slots id m (attempt_plan mode) (attempted mode m.0.pass.reg) attempt_deeds live
    (λ n. ap (attempted mode m.0.pass.reg) (told-attempt mode n))
    (λ num w ok at. (attempt-law t mode w id m.0.pass ok at idle may).lawful)
    (λ num w ok at. attempt-goes-on t.rules w id m.0.pass mode at idle may)
    (λ n x y e f. absurd (out x e))
    (λ n x e f. absurd (out x e))
  where
    out : (x : Mode) → hold_of m.0.pass ≡ Some x → ⊥
    out x e = let z : None ≡ Some x = sym (ap (λ f. cond (is_holding f) (Some m.0.pass.reg.mode) None) idle) ∙ e in cc

pub try-permits : {V : Type 0} (initial_state : V → List ℕ) (history : V → List Action) (slots id : ℕ) (r : List ℕ) (key t : Terms) (rules : Rules) (mode mode' : Mode) (me : Me (Option V) View) (access : Access) → (t ≡ key) × (mode' ≡ mode) → key.rules ≡ rules
    → (me.0.live ≡ true) × (me.0.pass.phase ≡ Idle) × MayUse rules.form mode → access ≡ attempt_plan mode → Permits (BoardRule initial_state history key r) slots id me (attempt_play initial_state history t mode') access
try-permits initial_state history slots id r key t rules mode mode' me access made keyed seat planned =
    subst (λ (z : Terms × Mode × Access). Permits (BoardRule initial_state history key r) slots id me (attempt_play initial_state history z.0 z.1) z.2)
    (λ j. (sym made.0 j, sym made.1 j, sym planned j))
    (tried-permits initial_state history key r slots id me mode seat.0 seat.1 (subst (λ (x : Rules). MayUse x.form mode) (sym keyed) seat.2))

pub attempt-first-word : (mode : Mode) → index (site (attempt_plan mode)) ≡ 0
attempt-first-word Write = refl
attempt-first-word Read = refl
