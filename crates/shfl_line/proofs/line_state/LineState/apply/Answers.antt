use Rattle.std.proofs.Common.{◌≡◌, refl, sym, subst, length}
use Rattle.shfl_line.specs.Line.{Line, IsOfPasses, IsWellFormed}
use Rattle.shfl_line.proofs.Decided.{admitted}
use Rattle.shfl_line.proofs.EachStep.{of_passes_after, well_formed_after}
use Rattle.shfl_line.proofs.line_state.LineState.apply.Goals as goal

pub perform-requires-clause-admitted : goal.perform-requires-clause-admitted
perform-requires-clause-admitted c = admitted c.args.limit c.args.self.now c.args.event.now (sym c.if-not-admits.ensures)

pub returns-clause-admitted : goal.returns-clause-admitted
returns-clause-admitted c = (λ _. admitted c.args.limit c.args.self.now c.args.event.now (sym c.if-not-admits.ensures), λ _. refl)

pub returns-clause-passes : goal.returns-clause-passes
returns-clause-passes c =
    let s = c.args.self.now in
    let o : IsOfPasses (length s.mark) s = subst (λ (t : Line). IsOfPasses (length t.mark) t) c.self.view_is c.self.invariant.of_passes in
    subst (λ (t : Line). length t.mark ≡ length s.mark) (sym c.perform.ensures)
    (of_passes_after c.args.limit (length s.mark) s c.args.event.now o c.requires.named (admitted c.args.limit s c.args.event.now (sym c.if-not-admits.ensures))).marks

pub returns-clause-well_formed : goal.returns-clause-well_formed
returns-clause-well_formed c = λ w.
    let s = c.args.self.now in
    let o : IsOfPasses (length s.mark) s = subst (λ (t : Line). IsOfPasses (length t.mark) t) c.self.view_is c.self.invariant.of_passes in
    subst (λ (t : Line). IsWellFormed c.args.limit t) (sym c.perform.ensures)
    (well_formed_after c.args.limit (length s.mark) s c.args.event.now c.requires.limited o c.requires.named w (admitted c.args.limit s c.args.event.now (sym c.if-not-admits.ensures)))
