use Rattle.std.proofs.Common.{◌≡◌, ℕ, List, ◌∷◌, ◌++◌, sym, ap, ◌∙◌, Option}
use Rattle.atomic_table.specs.Table.{rest}
use Rattle.shfl_table.proofs.Turning.{turned_to, turned_back, first_value}
use Rattle.shfl_table.proofs.exchanges.exchanged.Goals as goal

pub exchange-old-requires : goal.exchange-old-requires
exchange-old-requires g c = let q = c.requires.there in let y = q.2 in
    let p = turned_to _ _ c.turn.new.seat.me.1 q.0 q.1 (c.args.place, y) (ap (λ m. m.1) c.turn.ensures.2) q.3 q.4 in (
      c.turn.ensures.0 ∙ c.requires.board,
      (y, p ∙ ap (λ (l : List (ℕ × Option g.row.V.Denot)). (c.args.place, y) ∷ l) (sym (ap rest p))),
    )

pub returns-clause-there : goal.returns-clause-there
returns-clause-there g c a b y is here left = let p = turned_to _ _ c.turn.new.seat.me.1 a b (c.args.place, y) (ap (λ m. m.1) c.turn.ensures.2) is here in
    let e = c.exchange-old.ensures in
    let now : c.exchange-old.new.seat.me.1 ≡ (c.args.place, c.args.new) ∷ (b ++ a) = ap (λ m. m.1) e.3 ∙ ap (λ (l : List (ℕ × Option g.row.V.Denot)). (c.args.place, c.args.new) ∷ rest l) p in (
      turned_back _ _ c.turn-2.new.seat.me.1 a b (c.args.place, c.args.new) (ap (λ m. m.1) c.turn-2.ensures.2) now left,
      first_value c.args.place _ _ _ _ (sym e.2 ∙ p),
    )
