use Rattle.std.proofs.Common.{rules, ◌≡◌, ◌<◌, ap, subst, length, vec_len}
use Rattle.std.proofs.lemmas.Option.{get_or_from_slice_get}
use Rattle.shfl_cell.specs.Cells.{number}
use Rattle.shfl_cell.proofs.opening.ShflCellOf+Book+O.open.Goals as goal

pub returns-clause-own : goal.returns-clause-own
returns-clause-own g c k d h = let e : length c.in_ok-passes.passes.items ≡ vec_len c.in_ok-passes.passes = search rules in
    ap (λ p. p.cell) (get_or_from_slice_get c.in_ok-passes.passes.items k _ d (c.in_ok-passes.ensures.fresh k (subst (λ n. k < n) e h)))

pub returns-clause-in_order : goal.returns-clause-in_order
returns-clause-in_order g c k d h = let e : length c.in_ok-passes.passes.items ≡ vec_len c.in_ok-passes.passes = search rules in
    ap number (get_or_from_slice_get c.in_ok-passes.passes.items k _ d (c.in_ok-passes.ensures.fresh k (subst (λ n. k < n) e h)))
