use Rattle.std.proofs.Common.{◌≡◌, ℕ, sym, refl, ap, ◌∙◌, subst, List, [], ◌∷◌, ◌++◌, Option, Some}
use Rattle.atomic_table.specs.Table.{opening}
use Rattle.shared_journal.specs.Rule.{IsInTurn, first_view}
use Rattle.shared_journal.proofs.Steps.{opens}
use Rattle.shared_journal.proofs.table.JournalTable.open.Goals as goal

pub new-requires : goal.new-requires
new-requires g c = let x = c.args.journal in let J = g.J.Journal in
    let calls : c.of.result.value.items ≡ c.args.calls.now = ap (λ v. v.items) c.of.ensures ∙ c.in_ok-from_slice.ensures.items in
    let slots : c.push_reserved.new.self.items ≡ Some x ∷ [] = c.push_reserved.ensures.items ∙ ap (λ (l : List (Option g.row.J.Denot)). l ++ Some x ∷ []) c.in_ok-slots.ensures.items in
    subst (λ (z : List ℕ × g.row.J.Denot × List (Option g.row.J.Denot)). IsInTurn J.entries J.limit J.opening J.legal J.worker z.0 (J.opening z.1) (J.limit z.1) (opening (0 ∷ []) z.2 (first_view z.0 (J.opening z.1) (J.limit z.1))))
    (λ i. (sym calls i, sym c.of-2.ensures i, sym slots i))
    (opens J.entries J.limit J.opening J.legal J.worker c.args.calls.now (J.opening x) (J.limit x) x c.requires.empty refl refl c.requires.room c.requires.legal)
