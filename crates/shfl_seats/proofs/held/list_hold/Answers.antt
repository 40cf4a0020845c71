use Rattle.std.proofs.Common.{sym, ap, ◌∙◌}
use Rattle.shfl_arena.specs.Threads.{mode_held}
use Rattle.shfl_arena.proofs.Threads.{mode-none}
use Rattle.shfl_seats.proofs.Holds.{mode-added, mode-added-else, mode-left-out}
use Rattle.shfl_seats.proofs.held.list_hold.Goals as goal

pub returns-in-Some-clause-here : goal.returns-in-Some-clause-here
returns-in-Some-clause-here c = ap (mode_held c.args.lock) c.push_reserved.ensures.items
    ∙ (mode-added c.args.lock c.in-Some.mode c.leave_out.new.others.items (ap (mode_held c.args.lock) c.leave_out.ensures.items ∙ mode-none c.args.lock c.args.others.now.items) ∙ sym c.in-Some.is)

pub returns-in-Some-clause-elsewhere : goal.returns-in-Some-clause-elsewhere
returns-in-Some-clause-elsewhere c l n = ap (mode_held l) c.push_reserved.ensures.items
    ∙ (mode-added-else l c.args.lock c.in-Some.mode c.leave_out.new.others.items n
    ∙ (ap (mode_held l) c.leave_out.ensures.items ∙ mode-left-out l c.args.lock c.args.others.now.items n))

pub returns-in_default-clause-here : goal.returns-in_default-clause-here
returns-in_default-clause-here c = ap (mode_held c.args.lock) c.leave_out.ensures.items ∙ (mode-none c.args.lock c.args.others.now.items ∙ sym c.in_default.is)

pub returns-in_default-clause-elsewhere : goal.returns-in_default-clause-elsewhere
returns-in_default-clause-elsewhere c l n = ap (mode_held l) c.leave_out.ensures.items ∙ mode-left-out l c.args.lock c.args.others.now.items n
