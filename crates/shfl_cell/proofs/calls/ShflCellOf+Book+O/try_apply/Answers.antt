use Rattle.std.proofs.Common.{◌≡◌, ℕ, ◌<◌, [], ◌∷◌, sym, ap, ◌∙◌, subst}
use Rattle.shfl_table.specs.PassModel.{PassModel, BoardId}
use Rattle.shfl_table.specs.Books.{BookModel}
use Rattle.shfl_table.specs.Waits.{FindsMore}
use Rattle.shfl_table.proofs.WaitSteps.{finds-both}
use Rattle.shfl_cell.specs.Cells.{CellPassModel}
use Rattle.shfl_cell.proofs.MadeCalls.{one-value, makes_call, kept_after}
use Rattle.shfl_cell.proofs.calls.ShflCellOf+Book+O.try_apply.Goals as goal

pub call_and_free-requires-clause-within : goal.call_and_free-requires-clause-within
call_and_free-requires-clause-within g c = let o = c.in_default.ensures.ok in
    one-value c.pass.inside.pass c.attempt.new.self o.1 (ap (λ (z : PassModel BookModel). z.initial_state) o.0) c.pass.invariant.2

pub invariant_of-pass-2 : goal.invariant_of-pass-2
invariant_of-pass-2 g c = let o = c.in_default.ensures.ok in let O = g.O.Object in let i = c.pass.inside in
    kept_after O.reply_at O.state_after i.pass c.attempt.new.self c.call_and_free.new.pass i.left i.attr (O.call_numbers c.args.call.now) (O.reply_numbers c.call_and_free.result.0) 0
    o.1.0 (ap (λ (z : PassModel BookModel). z.own.reg.me) o.0) (ap (λ (z : PassModel BookModel). z.initial_state) o.0) (ap (λ (z : PassModel BookModel). z.board) o.0) c.call_and_free.ensures.pass
    (subst (λ (z : CellPassModel). 0 < z.left) (sym c.pass.view_is) c.requires.left) c.pass.invariant.2 c.pass.invariant.3

pub returns-clause-made : goal.returns-clause-made
returns-clause-made g c = let o = c.in_default.ensures.ok in let O = g.O.Object in let i = c.pass.inside in
    makes_call O.reply_at O.state_after i.pass c.attempt.new.self c.call_and_free.new.pass i.left i.attr (O.call_numbers c.args.call.now) (O.reply_numbers c.call_and_free.result.0) c.call_and_free.result.1.place
    o.1.0 (ap (λ (z : PassModel BookModel). z.own.reg.me) o.0) (ap (λ (z : PassModel BookModel). z.initial_state) o.0) (ap (λ (z : PassModel BookModel). z.board) o.0) c.call_and_free.ensures.pass
    c.args.pass.now c.pass.view_is c.call_and_free.ensures.legal c.call_and_free.ensures.place c.requires.left

pub returns-clause-finds : goal.returns-clause-finds
returns-clause-finds g c = let i = c.pass.inside in let o = c.in_default.ensures.ok in
    subst (λ (z : CellPassModel). FindsMore z.found c.call_and_free.new.pass.found) c.pass.view_is (finds-both i.pass.found c.attempt.new.self.found c.call_and_free.new.pass.found (o.2.0 ∷ [], o.2.2) c.call_and_free.ensures.finds)
