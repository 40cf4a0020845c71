use Rattle.std.proofs.Common.{◌≡◌, suc, ◌+◌, ◌-◌, ◌<◌, [], set, eqb, length, sym, refl, ap, ◌∙◌, subst, arith}
use Rattle.std.specs.List.{insert}
use Rattle.std.proofs.lemmas.List.{length-set, get_or-set_same}
use Rattle.std.proofs.lemmas.List.Sums.{count_by-le-length}
use Rattle.dir_table.specs.Blocks.{joined, block_at, rows_before, half_room, halved, AreStored, IsGap}
use Rattle.dir_table.proofs.Counted.{counted_more}
use Rattle.dir_table.proofs.Joined.{joins-halved}
use Rattle.dir_table.proofs.Stored.{stored_added, stored_halved, stored_as}
use Rattle.dir_table.proofs.Edits.{one_more, put_joined}
use Rattle.dir_table.proofs.buffer.RowBuffer.insert.Goals as goal

-- the rows as the buffer has them then, where the block is divided and where it isn't
divided : (c : goal.After-split) → joined c.split.new.self.blocks ≡ insert (joined c.self.inside.blocks.blocks) (rows_before c.self.inside.blocks.blocks c.args.spot) c.args.row
divided c =
    let blocks = c.self.inside.blocks.blocks in
    let spot = c.args.spot in
    let gap : IsGap blocks spot = subst (λ b. IsGap b.blocks spot) (sym c.self.view_is) c.requires.gap in
    let new = set blocks spot.block (insert (block_at blocks spot.block) spot.at c.args.row) in
    let known : spot.block < length new = omega (arith, gap.block, length-set blocks spot.block (insert (block_at blocks spot.block) spot.at c.args.row)) in
    ap joined (c.split.ensures.blocks ∙ ap (λ bs. halved bs spot.block) c.insert.ensures.blocks) ∙ joins-halved new spot.block half_room [] known
    ∙ put_joined blocks spot c.args.row gap

whole : (c : goal.Else-rows_of-eq-BLOCK_ROOM) → joined c.insert.new.self.blocks ≡ insert (joined c.self.inside.blocks.blocks) (rows_before c.self.inside.blocks.blocks c.args.spot) c.args.row
whole c =
    let blocks = c.self.inside.blocks.blocks in
    let spot = c.args.spot in
    ap joined c.insert.ensures.blocks ∙ put_joined blocks spot c.args.row (subst (λ b. IsGap b.blocks spot) (sym c.self.view_is) c.requires.gap)

pub invariant_of-self : goal.invariant_of-self
invariant_of-self c =
    let list = c.self.inside.blocks in
    let spot = c.args.spot in
    let spare = c.self.inside.spare - 1 in
    let gap : IsGap list.blocks spot = subst (λ b. IsGap b.blocks spot) (sym c.self.view_is) c.requires.gap in
    let rows = insert (block_at list.blocks spot.block) spot.at c.args.row in
    let some : 0 < c.self.inside.spare = subst (λ b. 0 < b.spare) (sym c.self.view_is) c.requires.spare in
    let stored = subst (λ n. AreStored list.blocks n list.left) {x = c.self.inside.spare} {y = suc spare} (omega arith) c.self.invariant.stored in
    let more = one_more list.blocks spot c.args.row gap in
    let shown = c.rows_of.ensures ∙ ap (λ bs. block_at bs spot.block) c.insert.ensures.blocks ∙ get_or-set_same list.blocks spot.block rows [] gap.block in
    let full = sym (ap length shown) ∙ c.if-rows_of-eq-BLOCK_ROOM.true in
    let fewer : c.split.new.self.left + 1 ≡ list.left = omega (arith, c.split.ensures.left, c.insert.ensures.left) in
    let left = stored_as _ _ _ _ _ (c.split.ensures.blocks ∙ ap (λ bs. halved bs spot.block) c.insert.ensures.blocks) refl
    (stored_halved list.blocks spare list.left spot.block rows gap.block stored more full c.split.new.self.left fewer) in
    record {
      stored = left;
      counted = counted_more c.self.inside.counts (joined list.blocks) c.self.invariant.counted c.self.told (rows_before list.blocks spot) c.args.row _ 0 (omega arith) (divided c);
    }

pub invariant_of-self-else-rows_of-eq-BLOCK_ROOM : goal.invariant_of-self-else-rows_of-eq-BLOCK_ROOM
invariant_of-self-else-rows_of-eq-BLOCK_ROOM c =
    let list = c.self.inside.blocks in
    let spot = c.args.spot in
    let spare = c.self.inside.spare - 1 in
    let gap : IsGap list.blocks spot = subst (λ b. IsGap b.blocks spot) (sym c.self.view_is) c.requires.gap in
    let rows = insert (block_at list.blocks spot.block) spot.at c.args.row in
    let some : 0 < c.self.inside.spare = subst (λ b. 0 < b.spare) (sym c.self.view_is) c.requires.spare in
    let stored = subst (λ n. AreStored list.blocks n list.left) {x = c.self.inside.spare} {y = suc spare} (omega arith) c.self.invariant.stored in
    let more = one_more list.blocks spot c.args.row gap in
    let before = c.self.invariant.stored.apart spot.block [] gap.block in
    let shown = c.rows_of.ensures ∙ ap (λ bs. block_at bs spot.block) c.insert.ensures.blocks ∙ get_or-set_same list.blocks spot.block rows [] gap.block in
    let left = stored_as _ _ _ _ _ c.insert.ensures.blocks c.insert.ensures.left
    (stored_added list.blocks spare list.left spot.block rows gap.block stored more (omega (arith, ap length shown, c.if-rows_of-eq-BLOCK_ROOM.false))) in
    record {
      stored = left;
      counted = counted_more c.self.inside.counts (joined list.blocks) c.self.invariant.counted c.self.told (rows_before list.blocks spot) c.args.row _ 0 (omega arith) (whole c);
    }

pub returns-then-rows_of-eq-BLOCK_ROOM-clause-rows : goal.returns-then-rows_of-eq-BLOCK_ROOM-clause-rows
returns-then-rows_of-eq-BLOCK_ROOM-clause-rows c = divided c ∙ ap (λ b. insert (joined b.blocks) (rows_before b.blocks c.args.spot) c.args.row) c.self.view_is

pub returns-else-rows_of-eq-BLOCK_ROOM-clause-rows : goal.returns-else-rows_of-eq-BLOCK_ROOM-clause-rows
returns-else-rows_of-eq-BLOCK_ROOM-clause-rows c = whole c ∙ ap (λ b. insert (joined b.blocks) (rows_before b.blocks c.args.spot) c.args.row) c.self.view_is

pub overflow_add-self : goal.overflow_add-self
overflow_add-self c =
    let rows = joined c.self.inside.blocks.blocks in
    let few : length rows < 4294967295 = subst (λ b. length (joined b.blocks) < 4294967295) (sym c.self.view_is) c.requires.few in
    omega (arith, few, c.self.invariant.counted c.args.row.dir 0 (omega arith), count_by-le-length (λ row. eqb row.dir c.args.row.dir) rows)
