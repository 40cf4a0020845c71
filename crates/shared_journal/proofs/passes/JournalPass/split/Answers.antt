use Rattle.std.proofs.Common.{arith, ap, sym, ◌∙◌}
use Rattle.shared_journal.specs.Models.{PassModel, TableModel}
use Rattle.shared_journal.proofs.Steps.{splits_prefix}
use Rattle.shared_journal.proofs.passes.JournalPass.split.Goals as goal

pub split_seat-requires : goal.split_seat-requires
split_seat-requires g c = let words = c.table.invariant.0 in (
  ap (λ (p : PassModel g.row.J-Entry.Denot). p.table) c.self.view_is ∙ (c.requires ∙ ap (λ (t : TableModel). t.id) (sym c.table.view_is)),
  omega arith,
  splits_prefix g.J.Journal.entries g.J.Journal.limit g.J.Journal.opening g.J.Journal.legal g.J.Journal.worker _ _ _ _ _,
)
