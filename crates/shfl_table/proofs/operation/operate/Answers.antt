use Rattle.std.proofs.Common.{◌≡◌, ℕ, Bool, sym, ap, ◌∙◌, subst}
use Rattle.std.specs.Prelude.{Some, true}
use Rattle.atomic_table.specs.Seated.{TableId}
use Rattle.shfl_line.specs.declared.events.Mode.{Mode}
use Rattle.shfl_laws.specs.Holds.{hold_of, is_releasing}
use Rattle.shfl_core.specs.declared.phase.Rules.{Rules}
use Rattle.shfl_core.specs.declared.phase.PassState.{PassState}
use Rattle.shfl_core.specs.Take.{take}
use Rattle.shfl_core.specs.Lawful.{Terms}
use Rattle.shfl_table.specs.ValueMoves.{MayFree, MovesValues}
use Rattle.shfl_table.specs.Views.{step_deeds}
use Rattle.shfl_laws.specs.Moves.{told_terms}
use Rattle.shfl_table.specs.Histories.{initial_state_of}
use Rattle.shfl_table.proofs.Permits.{permits}
use Rattle.shfl_table.proofs.operation.operate.Goals as goal

pub perform-requires-clause-permits : goal.perform-requires-clause-permits
perform-requires-clause-permits g c = let a = c.args in let k = a.shared.now.key in
    permits g.V.Kept.initial_state g.V.Kept.history a.shared.now.table_id.slots a.seat.now.id (initial_state_of g.V.Kept.initial_state k.values.value.items) (told_terms k.rules k.count k.words.value.items) g.M.StepTerms.terms a.rules a.own g.M.StepTerms.own a.choice g.M.StepTerms.choice a.seat.now.me c.plan_row-access.result
    c.requires.made c.requires.table.1 c.requires.seat c.requires.moving (subst (λ n. (x : Mode) → hold_of a.own ≡ Some x → is_releasing a.own.phase ≡ true → MayFree g.V.Kept.initial_state g.V.Kept.history x n a.seat.now.me) (ap (λ (z : TableId). z.slots) c.requires.table.0) c.requires.ready) c.plan_row-access.ensures

pub returns-clause-played : goal.returns-clause-played
returns-clause-played g c = let a = c.args in
    subst (λ (z : Rules × ℕ × PassState × Bool × ℕ). MovesValues g.V.Kept.initial_state g.V.Kept.history (λ i. take z.0 z.1 z.2 i z.3) (step_deeds z.0 z.2 z.3) z.4 a.seat.now.me c.perform.result c.perform.new.seat.me)
    (λ j. ((ap (λ (t : Terms). t.rules) c.requires.made.0 ∙ c.requires.table.1) j, c.requires.seat.1 j, c.requires.made.1 j, c.requires.made.2 j, sym (ap (λ (z : TableId). z.slots) c.requires.table.0) j)) c.perform.ensures.play.1
