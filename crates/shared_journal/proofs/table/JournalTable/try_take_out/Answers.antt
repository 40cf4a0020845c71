use Rattle.std.proofs.Common.{arith, ℕ, ◌∙◌, sym, ap, List, ◌∷◌, Option, Some}
use Rattle.atomic_table.specs.Table.{rest}
use Rattle.shared_journal.specs.Models.{TableModel}
use Rattle.shared_journal.proofs.Steps.{takes_out}
use Rattle.shared_journal.proofs.table.JournalTable.try_take_out.Goals as goal

pub compare_exchange-requires : goal.compare_exchange-requires
compare_exchange-requires g c = let i = c.self.invariant in (
  c.requires.table ∙ ap (λ (t : TableModel). t.id) (sym c.self.view_is),
  omega arith,
  takes_out g.J.Journal.entries g.J.Journal.limit g.J.Journal.opening g.J.Journal.legal g.J.Journal.worker _ _ _ _ _ _ _ c.requires.numbered.0 c.requires.numbered.1,
)

pub exchange-requires : goal.exchange-requires
exchange-requires g c = let t = c.compare_exchange.ensures.2.0 c.if-compare_exchange-ne0.false in (
  c.compare_exchange.ensures.0 ∙ (c.requires.table ∙ ap (λ (t : TableModel). t.id) (sym c.self.view_is)),
  (Some t.journal, t.carried ∙ ap (λ (r : List (ℕ × Option g.row.J.Denot)). (0, Some t.journal) ∷ r) (sym (ap rest t.carried))),
)
