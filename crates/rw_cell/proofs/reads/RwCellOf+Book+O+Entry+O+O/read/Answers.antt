use Rattle.std.proofs.Common.{◌≡◌, ℕ, ◌<◌, sym, ap, ◌∙◌, subst, List, [], ◌∷◌, ◌++◌, ◌≤◌, length, All, refl}
use Rattle.shfl_line.specs.declared.events.Mode.TheVariants.{Read}
use Rattle.shfl_table.specs.Waits.{FindsMore}
use Rattle.shfl_table.proofs.WaitSteps.{finds-both, has-hold}
use Rattle.hist_log.specs.declared.entry.Entry.{Entry}
use Rattle.rw_cell.specs.RwCells.{RwPassModel}
use Rattle.rw_cell.proofs.HeldCopies.{own-copy}
use Rattle.rw_cell.proofs.LastCalls.{last_read}
use Rattle.rw_cell.proofs.MadeReads.{makes_read, kept_after_read}
use Rattle.rw_cell.proofs.reads.RwCellOf+Book+O+Entry+O+O.read.Goals as goal

pub read_and_free-reply-requires-clause-within : goal.read_and_free-reply-requires-clause-within
read_and_free-reply-requires-clause-within g c = let w = c.wait_for.ensures.waited in let q = c.wait_for.new.pass in
    own-copy c.pass.inside.pass q w.root_is (w.within Read (has-hold q.own Read c.wait_for.ensures.holds w.mode_is)) c.pass.invariant.place

pub invariant_of-pass : goal.invariant_of-pass
invariant_of-pass g c = let w = c.wait_for.ensures.waited in let q = c.wait_for.new.pass in let O = g.O.Object in let i = c.pass.inside in let f = c.read_and_free-reply in let p = c.push_reserved.ensures in
    kept_after_read O.reply_at O.state_after i.pass q f.new.pass i.left i.attr i.reads.items (O.call_numbers c.args.call.now) (O.reply_numbers f.result.0) 0 _ _ p.items
    (w.within Read (has-hold q.own Read c.wait_for.ensures.holds w.mode_is)).0 w.number w.root_is w.board f.ensures.pass
    _ _ _ _ _ p.capacity (subst (λ (z : RwPassModel _). 0 < z.left) (sym c.pass.view_is) c.requires.left)
    c.number-worker.ensures f.ensures.place (c.requires.read, f.ensures.reply) c.pass.invariant

pub returns-clause-made : goal.returns-clause-made
returns-clause-made g c = let w = c.wait_for.ensures.waited in let q = c.wait_for.new.pass in let O = g.O.Object in let i = c.pass.inside in let f = c.read_and_free-reply in let p = c.push_reserved.ensures in
    makes_read O.reply_at O.state_after i.pass q f.new.pass i.left i.attr i.reads.items (O.call_numbers c.args.call.now) (O.reply_numbers f.result.0) f.result.1.place _ _
    (p.items ∙ (λ j. i.reads.items ++ record { worker = (c.number-worker.ensures ∙ ap (λ (z : RwPassModel _). z.reg.me) c.pass.view_is) j; call = c.args.call.now; reply = f.result.0; receipt = f.result.1.place } ∷ []))
    (w.within Read (has-hold q.own Read c.wait_for.ensures.holds w.mode_is)).0 w.number w.root_is w.board f.ensures.pass
    c.args.pass.now c.pass.view_is f.ensures.reply f.ensures.place c.requires.left

pub returns-clause-last : goal.returns-clause-last
returns-clause-last g c = let w = c.wait_for.ensures.waited in let q = c.wait_for.new.pass in let O = g.O.Object in let i = c.pass.inside in let f = c.read_and_free-reply in let p = c.push_reserved.ensures in
    last_read O.call_numbers O.reply_numbers O.reply_at O.state_after c.args.pass.now _ (subst (λ (z : RwPassModel (Entry g.row.O.Denot g.row.O-Call.Denot g.row.O-Reply.Denot)). All (λ e. e.receipt ≤ length z.seen) z.reads) c.pass.view_is c.pass.invariant.keeps.within) _ _ _ _
    (makes_read O.reply_at O.state_after i.pass q f.new.pass i.left i.attr i.reads.items (O.call_numbers c.args.call.now) (O.reply_numbers f.result.0) f.result.1.place _ _
    (p.items ∙ (λ j. i.reads.items ++ record { worker = (c.number-worker.ensures ∙ ap (λ (z : RwPassModel _). z.reg.me) c.pass.view_is) j; call = c.args.call.now; reply = f.result.0; receipt = f.result.1.place } ∷ []))
    (w.within Read (has-hold q.own Read c.wait_for.ensures.holds w.mode_is)).0 w.number w.root_is w.board f.ensures.pass
    c.args.pass.now c.pass.view_is f.ensures.reply f.ensures.place c.requires.left) refl

pub returns-clause-finds : goal.returns-clause-finds
returns-clause-finds g c = let i = c.pass.inside in let q = c.wait_for.new.pass in let f = c.read_and_free-reply in
    subst (λ (z : RwPassModel _). FindsMore z.found f.new.pass.found) c.pass.view_is (finds-both i.pass.found q.found f.new.pass.found c.wait_for.ensures.waited.finds f.ensures.finds)
