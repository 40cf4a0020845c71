use Rattle.std.proofs.Common.{◌≡◌, ℕ, List, ◌∷◌, ◌++◌, sym, ap, ◌∙◌, Option, Some}
use Rattle.atomic_table.specs.Table.{rest}
use Rattle.shfl_table.proofs.Turning.{turned_to, turned_back}
use Rattle.shfl_table.proofs.visits.visited.Goals as goal

pub visited_here-answer-requires-clause-there : goal.visited_here-answer-requires-clause-there
visited_here-answer-requires-clause-there g c = let q = c.requires.there in let x = q.2 in
    let p = turned_to _ _ c.turn.new.seat.me.1 q.0 q.1 (c.args.place, Some x) (ap (λ m. m.1) c.turn.ensures.2) q.3 q.4 in
    (x, p ∙ ap (λ (l : List (ℕ × Option g.row.V.Denot)). (c.args.place, Some x) ∷ l) (sym (ap rest p)), q.6)

pub returns-clause-there : goal.returns-clause-there
returns-clause-there g c a b x is here left = let p = turned_to _ _ c.turn.new.seat.me.1 a b (c.args.place, Some x) (ap (λ m. m.1) c.turn.ensures.2) is here in
    let e = c.visited_here-answer.ensures in
    let v = e.there x (p ∙ ap (λ (l : List (ℕ × Option g.row.V.Denot)). (c.args.place, Some x) ∷ l) (sym (ap rest p))) in
    let now : c.visited_here-answer.new.seat.me.1 ≡ (c.args.place, Some v.0) ∷ (b ++ a) = v.2 ∙ ap (λ (l : List (ℕ × Option g.row.V.Denot)). (c.args.place, Some v.0) ∷ rest l) p in (
      v.0,
      v.1,
      turned_back _ _ c.turn-2.new.seat.me.1 a b (c.args.place, Some v.0) (ap (λ m. m.1) c.turn-2.ensures.2) now left,
    )
