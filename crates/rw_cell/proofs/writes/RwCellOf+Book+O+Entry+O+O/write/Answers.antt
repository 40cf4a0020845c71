use Rattle.std.proofs.Common.{◌≡◌, ℕ, ◌<◌, sym, ap, ◌∙◌, subst, List, ◌≤◌, length, All, refl}
use Rattle.shfl_table.specs.PassModel.{BoardId}
use Rattle.shfl_line.specs.declared.events.Mode.TheVariants.{Write}
use Rattle.shfl_table.specs.Waits.{FindsMore}
use Rattle.shfl_table.proofs.WaitSteps.{finds-both, has-hold}
use Rattle.hist_log.specs.declared.entry.Entry.{Entry}
use Rattle.rw_cell.specs.RwCells.{RwPassModel, RwCellModel}
use Rattle.rw_cell.proofs.HeldCopies.{all-copies}
use Rattle.rw_cell.proofs.LastCalls.{last_write}
use Rattle.rw_cell.proofs.MadeWrites.{makes_write, kept_after_write}
use Rattle.rw_cell.proofs.writes.RwCellOf+Book+O+Entry+O+O.write.Goals as goal

pub write_and_free-answer-requires-clause-within : goal.write_and_free-answer-requires-clause-within
write_and_free-answer-requires-clause-within g c = let w = c.wait_for.ensures.waited in let q = c.wait_for.new.pass in
    let slots = ap (λ (z : RwPassModel _). z.cell.table.slots) c.pass.view_is ∙ (ap (λ (b : BoardId). b.table.slots) c.requires.cell ∙ (ap (λ (z : RwCellModel). z.id.table.slots) (sym c.self.view_is) ∙ sym c.self.invariant.0)) in
    all-copies c.pass.inside.pass q w.root_is c.self.inside.places (w.within Write (has-hold q.own Write c.wait_for.ensures.holds w.mode_is)) slots

pub invariant_of-pass : goal.invariant_of-pass
invariant_of-pass g c = let w = c.wait_for.ensures.waited in let q = c.wait_for.new.pass in let O = g.O.Object in let i = c.pass.inside in
    kept_after_write O.reply_at O.state_after i.pass q c.write_and_free-answer.new.pass i.left i.attr i.reads.items (O.call_numbers c.args.call.now) (O.reply_numbers c.write_and_free-answer.result.0) 0
    (w.within Write (has-hold q.own Write c.wait_for.ensures.holds w.mode_is)).0 w.number w.root_is w.board c.write_and_free-answer.ensures.pass
    _ _ _ _ (subst (λ (z : RwPassModel _). 0 < z.left) (sym c.pass.view_is) c.requires.left) c.pass.invariant

pub returns-clause-made : goal.returns-clause-made
returns-clause-made g c = let w = c.wait_for.ensures.waited in let q = c.wait_for.new.pass in let O = g.O.Object in let i = c.pass.inside in let f = c.write_and_free-answer in
    makes_write O.reply_at O.state_after i.pass q f.new.pass i.left i.attr i.reads.items (O.call_numbers c.args.call.now) (O.reply_numbers f.result.0) f.result.1.place
    (w.within Write (has-hold q.own Write c.wait_for.ensures.holds w.mode_is)).0 w.number w.root_is w.board f.ensures.pass
    c.args.pass.now c.pass.view_is f.ensures.legal f.ensures.place c.requires.left

pub returns-clause-last : goal.returns-clause-last
returns-clause-last g c = let w = c.wait_for.ensures.waited in let q = c.wait_for.new.pass in let O = g.O.Object in let i = c.pass.inside in let f = c.write_and_free-answer in
    last_write O.call_numbers O.reply_numbers O.reply_at O.state_after c.args.pass.now _ (subst (λ (z : RwPassModel (Entry g.row.O.Denot g.row.O-Call.Denot g.row.O-Reply.Denot)). All (λ e. e.receipt ≤ length z.seen) z.reads) c.pass.view_is c.pass.invariant.keeps.within) _ _
    (makes_write O.reply_at O.state_after i.pass q f.new.pass i.left i.attr i.reads.items (O.call_numbers c.args.call.now) (O.reply_numbers f.result.0) f.result.1.place
    (w.within Write (has-hold q.own Write c.wait_for.ensures.holds w.mode_is)).0 w.number w.root_is w.board f.ensures.pass
    c.args.pass.now c.pass.view_is f.ensures.legal f.ensures.place c.requires.left)

pub returns-clause-finds : goal.returns-clause-finds
returns-clause-finds g c = let i = c.pass.inside in let q = c.wait_for.new.pass in let f = c.write_and_free-answer in
    subst (λ (z : RwPassModel _). FindsMore z.found f.new.pass.found) c.pass.view_is (finds-both i.pass.found q.found f.new.pass.found c.wait_for.ensures.waited.finds f.ensures.finds)
