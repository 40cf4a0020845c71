use Rattle.std.proofs.Common.{◌≡◌, length, ap, ◌∙◌, subst, arith}
use Rattle.dir_table.specs.Numbers.{call_numbers, reply_numbers}
use Rattle.dir_table.specs.Meanings.{reply_at, state_after}
use Rattle.hist_log.specs.History.{IsLegal, operations, state_left}
use Rattle.shfl_workers.proofs.Numbered.{each_of_dir, everyone}
use Rattle.shfl_workers.proofs.CellEnding.{cell_has_all}
use Rattle.shfl_workers.proofs.Histories.{is_history}
use Rattle.shfl_workers.proofs.LockRuns.{ran_for, actions_of}
use Rattle.shfl_workers.proofs.cell_dir.ShflCellOfBookDirSharedDir.close.Goals as goal

pub close-dir-requires-clause-cell : goal.close-dir-requires-clause-cell
close-dir-requires-clause-cell c = λ k d lt. (each_of_dir _ _ _ _ c.args.passes.items c.requires.passes k d lt).0

pub close-dir-requires-clause-all : goal.close-dir-requires-clause-all
close-dir-requires-clause-all c =
    let n = c.requires.count in let ok = c.args.passes.ok.0 in let w = c.requires.opened.count in
    everyone _ _ _ _ c.args.passes.items c.requires.passes c.args.self.count (omega (arith, n, ok, w))

pub returns-clause-history : goal.returns-clause-history
returns-clause-history c =
    let t = c.args.trace.now in let e = c.close-dir.ensures in let es = c.close-dir.result.1.items in
    let many : length c.args.passes.items ≡ length t.workers.items = (let n = c.requires.count in let ok = c.args.passes.ok.0 in omega (arith, n, ok)) in
    is_history t c.requires.within es
    (cell_has_all t c.requires.within c.args.self c.args.passes.items many c.requires.opened.count c.requires.passes es e.seen e.nobody_else)
    c.close-dir.result.0
    (subst (λ s. IsLegal reply_at state_after s (operations call_numbers reply_numbers es)) c.requires.opened.opening e.legal)
    (e.state ∙ ap (λ s. state_left state_after s (operations call_numbers reply_numbers es)) c.requires.opened.opening)

pub returns-clause-ran : goal.returns-clause-ran
returns-clause-ran c =
    let o = c.requires.opened in let r = c.close-dir.ensures.run.run in
    ran_for _ _ _ _ _ _ _ o.rules o.attrs r.opened (actions_of c.close-dir.result.1.items) r.ran
