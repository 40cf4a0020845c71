use Rattle.std.proofs.Common.{◌+◌, ◌-◌, get_or, sym, ap, ◌∙◌, subst, ⊎_elim, arith}
use Rattle.std.proofs.lemmas.List.{get_or_default}
use Rattle.dir_table.specs.declared.calls.DirRow.{DirRow}
use Rattle.dir_table.specs.declared.block.Spot.{Spot}
use Rattle.dir_table.specs.Blocks.{joined, rows_before, block_at, IsRow, IsCut}
use Rattle.dir_table.proofs.Limits.{gap_at_cut}
use Rattle.dir_table.proofs.Spots.{spot_at, gap_by_row}
use Rattle.dir_table.proofs.rows.place_of.Goals as goal

pub returns-then-end-eq0-clause-absent : goal.returns-then-end-eq0-clause-absent
returns-then-end-eq0-clause-absent c =
    let rows = joined c.args.list.now.blocks in
    let i = rows_before c.args.list.now.blocks c.cut_near-end.result in
    let cut : IsCut rows (c.args.dir, c.args.name + 1) i = subst (λ n. IsCut rows (c.args.dir, n + 1) i) c.from.ensures c.cut_near-end.ensures.cut in
    let start = c.cut_near-end.ensures.start c.if-end-eq0.true in
    gap_at_cut rows (c.args.dir, c.args.name) i c.requires.in_order cut (λ d some. absurd (omega arith))

pub returns-then-row-name-clause-found : goal.returns-then-row-name-clause-found
returns-then-row-name-clause-found c =
    let blocks = c.args.list.now.blocks in
    let end = c.cut_near-end.result in
    let none : DirRow = record { dir = 0; name = 0; ino = 0 } in
    let last : Spot = record { block = end.block; at = end.at - 1 } in
    let known = c.cut_near-end.ensures.gap.block in
    let here = c.rows_of.ensures in
    let there : IsRow blocks last = record { block = known; row = omega (arith, c.cut_near-end.ensures.gap.within, c.if-end-eq0.false) } in
    spot_at blocks last there (c.args.dir, c.args.name) none c.requires.in_order
    (ap (λ rs. (get_or rs last.at none).dir) (sym here) ∙ c.if-row-dir.true) (ap (λ rs. (get_or rs last.at none).name) (sym here) ∙ c.if-row-name.true)

pub returns-else-row-dir-clause-absent : goal.returns-else-row-dir-clause-absent
returns-else-row-dir-clause-absent c =
    let blocks = c.args.list.now.blocks in
    let rows = joined blocks in
    let end = c.cut_near-end.result in
    let i = rows_before blocks end in
    let none : DirRow = record { dir = 0; name = 0; ino = 0 } in
    let last : Spot = record { block = end.block; at = end.at - 1 } in
    let known = c.cut_near-end.ensures.gap.block in
    let cut : IsCut rows (c.args.dir, c.args.name + 1) i = subst (λ n. IsCut rows (c.args.dir, n + 1) i) c.from.ensures c.cut_near-end.ensures.cut in
    let here = c.rows_of.ensures in
    let there : IsRow blocks last = record { block = known; row = omega (arith, c.cut_near-end.ensures.gap.within, c.if-end-eq0.false) } in
    gap_by_row blocks last (c.args.dir, c.args.name) i none there c.requires.in_order cut (omega (arith, c.if-end-eq0.false))
    (λ dir name. ⊎_elim (λ h. h.1 (ap (λ rs. (get_or rs last.at none).name) here ∙ name)) (λ h. h (ap (λ rs. (get_or rs last.at none).dir) here ∙ dir)) c.else-row-dir.either)

pub returns-then-row-name-clause-own : goal.returns-then-row-name-clause-own
returns-then-row-name-clause-own c none =
    let zero : DirRow = record { dir = 0; name = 0; ino = 0 } in
    let end = c.cut_near-end.result in
    ap (λ row. row.dir) (get_or_default (block_at c.args.list.now.blocks end.block) (end.at - 1) none zero (omega (arith, c.cut_near-end.ensures.gap.within, c.if-end-eq0.false)))
    ∙ ap (λ rows. (get_or rows (end.at - 1) zero).dir) (sym c.rows_of.ensures) ∙ c.if-row-dir.true
