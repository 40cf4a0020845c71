use Rattle.std.proofs.Common.{◌≡◌, ◌∙◌, ℕ, ◌<◌, List, Some, refl, ap, subst, length, arith}
use Rattle.std.specs.List.{remove}
use Rattle.shfl_line.specs.Words.{link_word}
use Rattle.shfl_line.specs.Passes.{times, without}
use Rattle.shfl_line.specs.Shown.{shown}
use Rattle.shfl_line.proofs.OfPasses.{of_pick}
use Rattle.shfl_line.proofs.Room.{of_fields, kept_as}
use Rattle.shfl_line.proofs.line_state.LineState.detach.Goals as goal

pub invariant_of-self : goal.invariant_of-self
invariant_of-self c = let a = c.self.inside in let k = c.self.invariant in let who = c.args.who in
    let e : c.remove.new.self.items ≡ without who a.line.items =
    c.remove.ensures.items ∙ subst (λ (l : List ℕ). remove l c.in-Some.at ≡ without who l) c.deref.ensures.value c.in-Some.ensures.1 in
    let waits : 0 < times who a.line.items = of_fields a c.args.self.now c.self.view_is (λ t. 0 < times who t.line) c.requires.waits in
    let none : link_word a.hand ≡ 0 = of_fields a c.args.self.now c.self.view_is (λ t. link_word t.hand ≡ 0) c.requires.none in
    kept_as a _ (record (shown a) { line = without who a.line.items; hand = Some who }) k (ap (λ (l : List ℕ). record (shown a) { line = l; hand = Some who }) e) refl
    (of_pick (length a.mark.items) who (shown a) k.of_passes waits none) (omega arith) (let g = c.remove.ensures.capacity in omega arith)
