use Rattle.std.proofs.Common.{◌≡◌, ℕ, ◌<◌, sym, subst}
use Rattle.shfl_line.specs.declared.events.Mode.TheVariants.{Write}
use Rattle.shfl_cell.specs.Cells.{CellPassModel}
use Rattle.shfl_table.specs.Waits.{FindsMore}
use Rattle.shfl_table.proofs.WaitSteps.{finds-both, has-hold}
use Rattle.shfl_cell.proofs.MadeCalls.{one-value, makes_call, kept_after}
use Rattle.shfl_cell.proofs.calls.ShflCellOf+Book+O.apply.Goals as goal

pub call_and_free-answer-requires-clause-within : goal.call_and_free-answer-requires-clause-within
call_and_free-answer-requires-clause-within g c = let w = c.wait_for.ensures.waited in let q = c.wait_for.new.pass in
    one-value c.pass.inside.pass q (w.within Write (has-hold q.own Write c.wait_for.ensures.holds w.mode_is)) w.root_is c.pass.invariant.2

pub invariant_of-pass : goal.invariant_of-pass
invariant_of-pass g c = let w = c.wait_for.ensures.waited in let q = c.wait_for.new.pass in let O = g.O.Object in let i = c.pass.inside in
    kept_after O.reply_at O.state_after i.pass q c.call_and_free-answer.new.pass i.left i.attr (O.call_numbers c.args.call.now) (O.reply_numbers c.call_and_free-answer.result.0) 0
    (w.within Write (has-hold q.own Write c.wait_for.ensures.holds w.mode_is)).0 w.number w.root_is w.board c.call_and_free-answer.ensures.pass
    (subst (λ (z : CellPassModel). 0 < z.left) (sym c.pass.view_is) c.requires.left) c.pass.invariant.2 c.pass.invariant.3

pub returns-clause-made : goal.returns-clause-made
returns-clause-made g c = let w = c.wait_for.ensures.waited in let q = c.wait_for.new.pass in let O = g.O.Object in let i = c.pass.inside in
    makes_call O.reply_at O.state_after i.pass q c.call_and_free-answer.new.pass i.left i.attr (O.call_numbers c.args.call.now) (O.reply_numbers c.call_and_free-answer.result.0) c.call_and_free-answer.result.1.place
    (w.within Write (has-hold q.own Write c.wait_for.ensures.holds w.mode_is)).0 w.number w.root_is w.board c.call_and_free-answer.ensures.pass
    c.args.pass.now c.pass.view_is c.call_and_free-answer.ensures.legal c.call_and_free-answer.ensures.place c.requires.left

pub returns-clause-finds : goal.returns-clause-finds
returns-clause-finds g c = let i = c.pass.inside in let q = c.wait_for.new.pass in
    subst (λ (z : CellPassModel). FindsMore z.found c.call_and_free-answer.new.pass.found) c.pass.view_is (finds-both i.pass.found q.found c.call_and_free-answer.new.pass.found c.wait_for.ensures.waited.finds c.call_and_free-answer.ensures.finds)
