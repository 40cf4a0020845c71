use Rattle.std.proofs.Common.{◌≡◌, ◌<◌, ◌≤◌, ⊎_elim, sym, ap, ◌∙◌, subst, [], ◌∷◌, length, Some}
use mathlib.Core.Option.{some-injective}
use Rattle.std.specs.Mem.Slots.{slots_items}
use Rattle.shared_journal.specs.Entries.{IsAmong, StartsWith, entries_by}
use Rattle.shared_journal.specs.Models.{ClosingModel, TableModel}
use Rattle.shared_journal.proofs.Steps.{Ended, among-append, closes, some_value}
use Rattle.shared_journal.proofs.closing.Closing.finish.Given as given_here
use Rattle.shared_journal.proofs.closing.Closing.finish.Goals as goal
use Rattle.shared_journal.proofs.closing.Closing.finish.Goals.{After-free}

module _ (g : given_here.Over) (c : After-free g) where
  table-is : (record {
    id = c.table.inside.table.shared.table_id;
    allowed = c.table.inside.table.shared.key.allowed.value.items;
    opening = g.J.Journal.opening c.table.inside.table.shared.key.journal.value;
    limit = g.J.Journal.limit c.table.inside.table.shared.key.journal.value;
  }) ≡ c.args.self.table
  table-is = c.table.view_is ∙ ap (λ (z : ClosingModel g.row.J-Entry.Denot). z.table) c.self.view_is

  numbers-are : c.self.inside.desk.me.0.own ≡ c.args.self.numbers
  numbers-are = ap (λ (z : ClosingModel g.row.J-Entry.Denot). z.numbers) c.self.view_is

  ended : Ended g.J.Journal.entries g.J.Journal.limit g.J.Journal.opening g.J.Journal.legal g.J.Journal.worker c.table.inside.table.shared.key.allowed.value.items
      (g.J.Journal.opening c.table.inside.table.shared.key.journal.value) (g.J.Journal.limit c.table.inside.table.shared.key.journal.value) c.self.inside.desk.me.0 (slots_items c.close_with-closed.result.slots)
  ended = closes g.J.Journal.entries g.J.Journal.limit g.J.Journal.opening g.J.Journal.legal g.J.Journal.worker _ _ _ c.self.inside.desk.id c.self.inside.desk.me.0 _ _ c.self.invariant.1
      (λ k h. let all = c.requires.all k (subst (λ (t : TableModel). k < length t.allowed) table-is h) in (all.0, subst (IsAmong all.0) (sym numbers-are) all.1, all.2))
      c.close_with-closed.ensures.values.2

  slot-is : c.take-slot.result ≡ Some ended.journal
  slot-is = some-injective c.take-slot.result (Some ended.journal) (sym c.take-slot.ensures.value ∙ ended.home)

pub unreachable-requires : goal.unreachable-requires
unreachable-requires g c = let d = (goal.at.unreachable-requires g c).After-free in c.in_default.not-Some (ended g d).journal (slot-is g d)

pub returns-clause-begins : goal.returns-clause-begins
returns-clause-begins g c l h = let d = (goal.at.returns-clause-begins g c).After-free in let e = ended g d in
    let same : e.journal ≡ c.in-Some.journal = some_value e.journal c.in-Some.journal (sym (slot-is g d) ∙ c.in-Some.is) in
    subst (λ x. StartsWith (g.J.Journal.entries x) l) same
    (⊎_elim (λ j. e.joined l j) (λ r. ⊎_elim (λ is. subst (StartsWith (g.J.Journal.entries e.journal)) (sym is) e.begins) (λ no. absurd no) r)
    (among-append l c.self.inside.desk.me.0.joined (c.self.inside.desk.me.0.list ∷ []) (subst (IsAmong l) (sym (ap (λ (z : ClosingModel g.row.J-Entry.Denot). z.lists) c.self.view_is)) h)))

pub returns-clause-own : goal.returns-clause-own
returns-clause-own g c o h = let d = (goal.at.returns-clause-own g c).After-free in let e = ended g d in
    let same : e.journal ≡ c.in-Some.journal = some_value e.journal c.in-Some.journal (sym (slot-is g d) ∙ c.in-Some.is) in
    e.own o (subst (IsAmong o) (sym (numbers-are g d)) h) ∙ ap (λ x. entries_by g.J.Journal.worker o.number (g.J.Journal.entries x)) same

pub returns-clause-only : goal.returns-clause-only
returns-clause-only g c k h = let d = (goal.at.returns-clause-only g c).After-free in let e = ended g d in
    let same : e.journal ≡ c.in-Some.journal = some_value e.journal c.in-Some.journal (sym (slot-is g d) ∙ c.in-Some.is) in
    ap (λ x. entries_by g.J.Journal.worker k (g.J.Journal.entries x)) (sym same) ∙ e.only k (subst (λ (t : TableModel). length t.allowed ≤ k) (sym (table-is g d)) h)

pub returns-clause-opening : goal.returns-clause-opening
returns-clause-opening g c = let d = (goal.at.returns-clause-opening g c).After-free in let e = ended g d in
    let same : e.journal ≡ c.in-Some.journal = some_value e.journal c.in-Some.journal (sym (slot-is g d) ∙ c.in-Some.is) in
    ap g.J.Journal.opening (sym same) ∙ (e.opening_is ∙ ap (λ (t : TableModel). t.opening) (table-is g d))

pub returns-clause-legal : goal.returns-clause-legal
returns-clause-legal g c = let d = (goal.at.returns-clause-legal g c).After-free in let e = ended g d in
    let same : e.journal ≡ c.in-Some.journal = some_value e.journal c.in-Some.journal (sym (slot-is g d) ∙ c.in-Some.is) in
    subst (λ x. g.J.Journal.legal c.args.self.table.opening (g.J.Journal.entries x)) same (subst (λ (t : TableModel). g.J.Journal.legal t.opening (g.J.Journal.entries e.journal)) (table-is g d) e.lawful)
