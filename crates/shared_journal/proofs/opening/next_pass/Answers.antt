use Rattle.std.proofs.Common.{arith, ◌≡◌, ℕ, ◌+◌, sym, refl, ap, ◌∙◌, subst, List, [], ◌∷◌, slice_index, Option, false}
use Rattle.atomic_table.specs.Table.{Me}
use Rattle.shared_journal.specs.declared.view.Own.{Own}
use Rattle.shared_journal.specs.declared.view.View.{View}
use Rattle.shared_journal.specs.Rule.{only_first, without_first}
use Rattle.shared_journal.specs.Models.{PassInvariant, limit_of, opening_of}
use Rattle.shared_journal.proofs.Steps.{splits_pass}
use Rattle.shared_journal.proofs.Dealing.{dealt-is, first-dealt, rest-dealt}
use Rattle.shared_journal.proofs.opening.next_pass.Given as given_here
use Rattle.shared_journal.proofs.opening.next_pass.Goals as goal
use Rattle.shared_journal.proofs.opening.next_pass.Goals.{After-split_seat}

pub split_seat-requires : goal.split_seat-requires
split_seat-requires g c = let key = c.args.shared.now.key in let r = c.requires in (
  r.table.0,
  r.table.1,
  splits_pass g.J.Journal.entries g.J.Journal.limit g.J.Journal.opening g.J.Journal.legal g.J.Journal.worker _ _ _ _ _ _ _
      (ap (λ (m : Me (Option g.row.J.Denot) (View g.row.J-Entry.Denot)). m.0.own) r.seat ∙ dealt-is (g.J.Journal.opening key.journal.value) (g.J.Journal.limit key.journal.value) c.args.calls.now c.args.k r.place.0)
      (ap (λ (m : Me (Option g.row.J.Denot) (View g.row.J-Entry.Denot)). m.0.out) r.seat),
)

zero-plus : (n : ℕ) → n ≡ 0 + n
zero-plus n = omega arith

module _ (g : given_here.Over) (c : After-split_seat g) where
  abbrev left : ℕ
  left = slice_index c.args.calls.now c.args.k

  abbrev alone : View g.row.J-Entry.Denot
  alone = let key = c.args.shared.now.key in
      record { list = []; joined = []; own = record { number = c.args.k; allowed = left; opening = g.J.Journal.opening key.journal.value; limit = g.J.Journal.limit key.journal.value; entries = [] } ∷ []; out = false }

  split-off : c.split_seat.result.me ≡ (alone, [])
  split-off = let key = c.args.shared.now.key in let e = c.split_seat.ensures in
      e.4 ∙ ((λ i. (only_first (c.requires.seat i).0, []))
      ∙ ap (λ (os : List (Own g.row.J-Entry.Denot)). (record { list = []; joined = []; own = os; out = false }, [])) (first-dealt (g.J.Journal.opening key.journal.value) (g.J.Journal.limit key.journal.value) c.args.calls.now c.args.k c.requires.place.0))

  kept : PassInvariant {J = g.row.J.Denot} g.J.Journal.worker c.args.k left c.split_seat.result.me
  kept = let key = c.args.shared.now.key in subst (PassInvariant {J = g.row.J.Denot} g.J.Journal.worker c.args.k left) (sym split-off) (record {
    own = ap (λ (n : ℕ). record { number = c.args.k; allowed = n; opening = g.J.Journal.opening key.journal.value; limit = g.J.Journal.limit key.journal.value; entries = [] } ∷ []) (zero-plus left);
    joined = refl;
    home = λ _. refl;
    out = λ no. absurd (cc);
  })

pub invariant_of-result : goal.invariant_of-result
invariant_of-result g c = kept g (goal.at.invariant_of-result g c).After-split_seat

pub returns-clause-seat : goal.returns-clause-seat
returns-clause-seat g c = let key = c.args.shared.now.key in let e = c.split_seat.ensures in
    e.2 ∙ ((λ i. (without_first (c.requires.seat i).0, (c.requires.seat i).1))
    ∙ ap (λ (os : List (Own g.row.J-Entry.Denot)). (record { list = []; joined = []; own = os; out = false }, [])) (rest-dealt (g.J.Journal.opening key.journal.value) (g.J.Journal.limit key.journal.value) c.args.calls.now c.args.k c.requires.place.0))

pub returns-clause-pass : goal.returns-clause-pass
returns-clause-pass g c = let m = split-off g (goal.at.returns-clause-pass g c).After-split_seat in let e = c.split_seat.ensures in
    (λ i. record {
      table = (e.3 ∙ c.requires.table.0) i;
      number = c.args.k;
      left = slice_index c.args.calls.now c.args.k;
      opening = opening_of (m i).0;
      limit = limit_of (m i).0;
      seen = (m i).0.list;
      is_out = (m i).0.out;
    })
