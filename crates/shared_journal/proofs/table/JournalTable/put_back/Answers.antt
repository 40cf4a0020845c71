use Rattle.std.proofs.Common.{arith, ◌≡◌, ℕ, ◌∙◌, sym, ap, subst, List, [], ◌∷◌, Option, Some}
use Rattle.atomic_table.specs.Table.{rest}
use Rattle.shared_journal.specs.Models.{AddsOwn, TableModel}
use Rattle.shared_journal.specs.declared.view.View.{View}
use Rattle.shared_journal.proofs.Steps.{puts_back}
use Rattle.shared_journal.proofs.table.JournalTable.put_back.Goals as goal

pub store-requires : goal.store-requires
store-requires g c = let i = c.self.invariant in let e = c.exchange.ensures in
    let at : c.exchange.new.seat.me.0 ≡ c.args.seat.now.me.0 = ap (λ m. m.0) e.3 in
    let carried : c.exchange.new.seat.me.1 ≡ (0, Some c.args.journal) ∷ [] = ap (λ m. m.1) e.3 ∙ ap (λ (r : List (ℕ × Option g.row.J.Denot)). (0, Some c.args.journal) ∷ rest r) c.requires.out.1 in (
      e.0 ∙ (c.requires.table ∙ ap (λ (t : TableModel). t.id) (sym c.self.view_is)),
      omega arith,
      puts_back g.J.Journal.entries g.J.Journal.limit g.J.Journal.opening g.J.Journal.legal g.J.Journal.worker _ _ _ _ _ _ _ c.args.journal i.1 carried
          (ap (λ (v : View g.row.J-Entry.Denot). v.out) at ∙ c.requires.out.0)
          (subst (λ (v : View g.row.J-Entry.Denot). AddsOwn g.J.Journal.entries g.J.Journal.limit g.J.Journal.opening g.J.Journal.legal g.J.Journal.worker v c.args.journal) (sym at) c.requires.adds),
    )
