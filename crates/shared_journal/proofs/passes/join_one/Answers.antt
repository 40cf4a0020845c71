use Rattle.std.proofs.Common.{arith, ap, sym, ◌∙◌}
use Rattle.shared_journal.specs.Models.{PrefixModel, TableModel}
use Rattle.shared_journal.proofs.Steps.{joins}
use Rattle.shared_journal.proofs.passes.join_one.Goals as goal

pub join_seat-requires : goal.join_seat-requires
join_seat-requires g c = let words = c.table.invariant.0 in let i = c.other.invariant in let id = ap (λ (t : TableModel). t.id) (sym c.table.view_is) in (
  c.requires.table.0 ∙ id,
  ap (λ (p : PrefixModel g.row.J-Entry.Denot). p.table) c.other.view_is ∙ (c.requires.table.1 ∙ id),
  i.1,
  omega arith,
  joins g.J.Journal.entries g.J.Journal.limit g.J.Journal.opening g.J.Journal.legal g.J.Journal.worker _ _ _ _ _ _ _ i.0,
)
