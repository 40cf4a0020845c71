use Rattle.std.proofs.Common.{◌≡◌, Some, None, ap, sym, ◌∙◌, subst}
use Rattle.std.specs.List.{find, slice_get}
use Rattle.std.specs.Option.{option_map}
use Rattle.dir_table.specs.Names.{entries_of}
use Rattle.dir_table.specs.Rows.{AreInOrder}
use Rattle.dir_table.specs.Blocks.{joined, rows_before}
use Rattle.dir_table.proofs.Next.{is_next}
use Rattle.dir_table.proofs.Spots.{next_is_row, no_next_row}
use Rattle.dir_table.proofs.rows.next_of.Goals as goal

pub returns-in-Some : goal.returns-in-Some
returns-in-Some c =
    let blocks = c.blocks-list.result.now.blocks in
    let i = rows_before blocks c.place_after.result in
    let read : slice_get (joined blocks) i ≡ Some c.in-Some.row = sym c.row_from.ensures ∙ c.in-Some.is in
    sym (next_is_row (joined blocks) c.args.dir c.args.after i c.in-Some.row c.place_after.ensures.begin read c.if-row-dir.true)
    ∙ ap (λ bs. option_map (λ e. e.0.1) (find (is_next c.args.dir c.args.after) (entries_of (joined bs)))) c.blocks-list.ensures.blocks

pub returns-in_default : goal.returns-in_default
returns-in_default c =
    let blocks = c.blocks-list.result.now.blocks in
    let i = rows_before blocks c.place_after.result in
    let read : slice_get (joined blocks) i ≡ Some c.in-Some.row = sym c.row_from.ensures ∙ c.in-Some.is in
    let sorted = subst (λ bs. AreInOrder (joined bs)) (sym c.blocks-list.ensures.blocks) c.requires in
    sym (no_next_row (joined blocks) c.args.dir c.args.after i sorted c.place_after.ensures.begin (λ row is same.
    let one : Some row ≡ Some c.in-Some.row = sym is ∙ read in
    let row_is : row ≡ c.in-Some.row = cc in
    c.if-row-dir.false (ap (λ r. r.dir) (sym row_is) ∙ same)))
    ∙ ap (λ bs. option_map (λ e. e.0.1) (find (is_next c.args.dir c.args.after) (entries_of (joined bs)))) c.blocks-list.ensures.blocks

pub returns-in_default-2 : goal.returns-in_default-2
returns-in_default-2 c =
    let blocks = c.blocks-list.result.now.blocks in
    let i = rows_before blocks c.place_after.result in
    let sorted = subst (λ bs. AreInOrder (joined bs)) (sym c.blocks-list.ensures.blocks) c.requires in
    sym (no_next_row (joined blocks) c.args.dir c.args.after i sorted c.place_after.ensures.begin (λ row is same.
    let none : Some row ≡ None = sym is ∙ sym c.row_from.ensures ∙ c.in_default.is in
    cc))
    ∙ ap (λ bs. option_map (λ e. e.0.1) (find (is_next c.args.dir c.args.after) (entries_of (joined bs)))) c.blocks-list.ensures.blocks
