use Rattle.std.proofs.Common.{arith, ap, sym, ◌∙◌}
use Rattle.shared_journal.specs.Models.{ClosingModel, PrefixModel, TableModel}
use Rattle.shared_journal.proofs.Steps.{joins}
use Rattle.shared_journal.proofs.closing.Closing.give_prefix.Goals as goal

pub join_seat-requires : goal.join_seat-requires
join_seat-requires g c = let words = c.outer.invariant.0 in let id = ap (λ (t : TableModel). t.id) (sym c.outer.view_is) in (
  c.self.invariant.0 ∙ id,
  ap (λ (p : PrefixModel g.row.J-Entry.Denot). p.table) c.prefix.view_is ∙ (c.requires ∙ (ap (λ (z : ClosingModel g.row.J-Entry.Denot). z.table.id) (sym c.self.view_is) ∙ id)),
  c.prefix.invariant.1,
  omega arith,
  joins g.J.Journal.entries g.J.Journal.limit g.J.Journal.opening g.J.Journal.legal g.J.Journal.worker _ _ _ _ _ _ _ c.prefix.invariant.0,
)
