use Rattle.std.proofs.Common.{◌≡◌, ◌∙◌, ℕ, List, refl, ap, subst, length, arith}
use Rattle.std.specs.List.{remove}
use Rattle.shfl_line.specs.declared.events.Mode.{Mode}
use Rattle.shfl_line.specs.Steps.{remove_holder}
use Rattle.shfl_line.specs.Shown.{shown}
use Rattle.shfl_line.proofs.Holders.{rises-remove}
use Rattle.shfl_line.proofs.OfPasses.{of_hold}
use Rattle.shfl_line.proofs.Room.{kept_as}
use Rattle.shfl_line.proofs.line_state.LineState.remove_holder.Goals as goal

pub invariant_of-self : goal.invariant_of-self
invariant_of-self c = let a = c.self.inside in let k = c.self.invariant in
    let e : c.remove.new.self.items ≡ remove_holder c.args.pass a.hold.items =
    c.remove.ensures.items ∙ subst (λ (l : List (ℕ × Mode)). remove l c.in-Some.at ≡ remove_holder c.args.pass l) c.deref.ensures.value c.in-Some.ensures.1 in
    kept_as a _ (record (shown a) { hold = remove_holder c.args.pass a.hold.items }) k (ap (λ (l : List (ℕ × Mode)). record (shown a) { hold = l }) e) refl
    (of_hold (length a.mark.items) (shown a) (remove_holder c.args.pass a.hold.items) k.of_passes (rises-remove 0 (length a.mark.items) c.args.pass a.hold.items k.of_passes.hold))
    (let g = c.remove.ensures.capacity in omega arith) (omega arith)
