use Rattle.std.proofs.Common.{rules, ◌≡◌, ℕ, suc, ◌+◌, ◌<◌, List, refl, sym, length, arith}
use Rattle.std.specs.Prelude.{slice_set}
use Rattle.std.proofs.Math.ListN.{length-set}
use Rattle.shfl_line.specs.Passes.{follower}
use Rattle.shfl_line.specs.Steps.{batch_end}
use Rattle.shfl_line.specs.Shown.{shown}
use Rattle.shfl_line.proofs.Behind.{follower-inside}
use Rattle.shfl_line.proofs.OfPasses.{of_marks}
use Rattle.shfl_line.proofs.Room.{of_fields, kept_as}
use Rattle.shfl_line.proofs.line_state.LineState.extend.Goals as goal

pub index_mut-requires : goal.index_mut-requires
index_mut-requires c = let a = c.self.inside in
    let e : follower (batch_end (shown a)) a.line.items ≡ suc c.in-Some.next = of_fields a c.args.self.now c.self.view_is (λ t. follower (batch_end t) t.line ≡ suc c.in-Some.next) (sym c.in-Some.ensures) in
    let h : c.in-Some.next < length a.mark.items = c.self.invariant.of_passes.line c.in-Some.next (follower-inside (batch_end (shown a)) c.in-Some.next a.line.items e) in search rules

pub invariant_of-self : goal.invariant_of-self
invariant_of-self c = let a = c.self.inside in let k = c.self.invariant in
    let m : List ℕ = slice_set a.mark.items c.in-Some.next (c.mark_at-mark.result + 1) in
    let e : length m ≡ length a.mark.items = length-set a.mark.items c.in-Some.next (c.mark_at-mark.result + 1) in
    kept_as a _ (record (shown a) { mark = m }) k refl e (of_marks (length a.mark.items) (shown a) a.role m k.of_passes e) (omega arith) (omega arith)
