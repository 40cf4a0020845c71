use Rattle.std.proofs.Common.{◌≡◌, ◌∙◌, ℕ, ◌<◌, List, refl, ap, subst, length, arith}
use Rattle.std.specs.List.{remove}
use Rattle.shfl_line.specs.Passes.{times, without}
use Rattle.shfl_line.specs.Shown.{shown}
use Rattle.shfl_line.proofs.OfPasses.{of_without}
use Rattle.shfl_line.proofs.Room.{of_fields, kept_as}
use Rattle.shfl_line.proofs.line_state.LineState.take_out.Goals as goal

pub invariant_of-self : goal.invariant_of-self
invariant_of-self c = let a = c.self.inside in let k = c.self.invariant in
    let e : c.remove.new.self.items ≡ without c.args.who a.line.items =
    c.remove.ensures.items ∙ subst (λ (l : List ℕ). remove l c.in-Some.at ≡ without c.args.who l) c.deref.ensures.value c.in-Some.ensures.1 in
    let waits : 0 < times c.args.who a.line.items = of_fields a c.args.self.now c.self.view_is (λ t. 0 < times c.args.who t.line) c.requires in
    kept_as a _ (record (shown a) { line = without c.args.who a.line.items }) k (ap (λ (l : List ℕ). record (shown a) { line = l }) e) refl
    (of_without (length a.mark.items) c.args.who (shown a) k.of_passes waits) (omega arith) (let g = c.remove.ensures.capacity in omega arith)
