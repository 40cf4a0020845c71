use Rattle.std.proofs.Common.{◌≡◌, ◌<◌, [], set, length, get_or, sym, ap, ◌∙◌, subst, arith}
use Rattle.std.specs.List.{remove}
use Rattle.std.proofs.lemmas.Bool.{eqb-true}
use Rattle.std.proofs.lemmas.Bool.Decides.{nat_tests}
use Rattle.std.proofs.lemmas.List.{length-set, get_or-set_same, nil_from_length}
use Rattle.dir_table.specs.Blocks.{joined, block_at, rows_before, AreStored, IsRow}
use Rattle.dir_table.proofs.Counted.{counted_some, counted_fewer}
use Rattle.dir_table.proofs.Joined.{joins-emptied}
use Rattle.dir_table.proofs.Reading.{before_in_range}
use Rattle.dir_table.proofs.Stored.{stored_changed, stored_emptied, stored_as}
use Rattle.dir_table.proofs.Edits.{one_fewer, taken_row, taken_joined}
use Rattle.dir_table.proofs.buffer.RowBuffer.remove.Goals as goal
use Rattle.dir_table.proofs.buffer.RowBuffer.remove.Goals.{else-spot-gt0-via-then-spot-gt0+else-is_empty, else-spot-gt0-via-else-spot-gt0}

-- the rows as the buffer has them then, where a block was given back
emptied : (c : goal.After-give_back) → joined c.give_back.new.self.blocks ≡ remove (joined c.self.inside.blocks.blocks) (rows_before c.self.inside.blocks.blocks c.args.spot)
emptied c =
    let blocks = c.self.inside.blocks.blocks in
    let spot = c.args.spot in
    let there : IsRow blocks spot = subst (λ b. IsRow b.blocks spot) (sym c.self.view_is) c.requires in
    let rows = remove (block_at blocks spot.block) spot.at in
    let new = set blocks spot.block rows in
    let known : spot.block < length new = omega (arith, there.block, length-set blocks spot.block rows) in
    let shown = c.rows_of.ensures ∙ ap (λ bs. block_at bs spot.block) c.remove-row.ensures.blocks in
    let none : block_at new spot.block ≡ [] = sym shown ∙ nil_from_length c.rows_of.result.now (eqb-true (length c.rows_of.result.now) 0 (sym c.is_empty.ensures ∙ c.if-is_empty.true)) in
    ap joined (c.give_back.ensures.blocks ∙ ap (λ bs. remove bs spot.block) c.remove-row.ensures.blocks)
    ∙ joins-emptied new spot.block [] known none ∙ taken_joined blocks spot c.remove-row.result there

pub invariant_of-self : goal.invariant_of-self
invariant_of-self c =
    let list = c.self.inside.blocks in
    let spot = c.args.spot in
    let there : IsRow list.blocks spot = subst (λ b. IsRow b.blocks spot) (sym c.self.view_is) c.requires in
    let left : AreStored c.give_back.new.self.blocks c.self.inside.spare c.give_back.new.self.left =
    stored_as _ _ _ _ _ (c.give_back.ensures.blocks ∙ ap (λ bs. remove bs spot.block) c.remove-row.ensures.blocks) (omega (arith, c.give_back.ensures.left, c.remove-row.ensures.left))
    (stored_emptied list.blocks c.self.inside.spare list.left spot.block (remove (block_at list.blocks spot.block) spot.at) there.block c.self.invariant.stored c.if-spot-gt0.true) in
    record {
      stored = left;
      counted = counted_fewer c.self.inside.counts (joined list.blocks) c.self.invariant.counted c.self.told (rows_before list.blocks spot) c.remove-row.result
          (before_in_range list.blocks spot.block spot.at [] there.block there.row) (omega arith) (taken_row list.blocks spot c.remove-row.result there c.remove-row.ensures.row) _ 0 (emptied c);
    }

pub invariant_of-self-else-is_empty : goal.invariant_of-self-else-is_empty
invariant_of-self-else-is_empty c =
    let list = c.self.inside.blocks in
    let spot = c.args.spot in
    let there : IsRow list.blocks spot = subst (λ b. IsRow b.blocks spot) (sym c.self.view_is) c.requires in
    let rows = remove (block_at list.blocks spot.block) spot.at in
    let some : 0 < length c.rows_of.result.now = grind (arith, nat_tests, c.is_empty.ensures, c.if-is_empty.false) in
    let shown = c.rows_of.ensures ∙ ap (λ bs. block_at bs spot.block) c.remove-row.ensures.blocks ∙ get_or-set_same list.blocks spot.block rows [] there.block in
    let left = stored_as _ _ _ _ _ c.remove-row.ensures.blocks c.remove-row.ensures.left
    (stored_changed list.blocks c.self.inside.spare list.left spot.block rows there.block c.self.invariant.stored (λ _. omega (arith, ap length shown)) (omega (arith, one_fewer list.blocks spot c.remove-row.result there))) in
    record {
      stored = left;
      counted = counted_fewer c.self.inside.counts (joined list.blocks) c.self.invariant.counted c.self.told (rows_before list.blocks spot) c.remove-row.result
          (before_in_range list.blocks spot.block spot.at [] there.block there.row) (omega arith) (taken_row list.blocks spot c.remove-row.result there c.remove-row.ensures.row) _ 0 (ap joined c.remove-row.ensures.blocks ∙ taken_joined list.blocks spot c.remove-row.result there);
    }

pub invariant_of-self-else-spot-gt0 : goal.invariant_of-self-else-spot-gt0
invariant_of-self-else-spot-gt0 c =
    let list = c.self.inside.blocks in
    let spot = c.args.spot in
    let there : IsRow list.blocks spot = subst (λ b. IsRow b.blocks spot) (sym c.self.view_is) c.requires in
    let rows = remove (block_at list.blocks spot.block) spot.at in
    let first = c.if-spot-gt0.false in
    let left = stored_as _ _ _ _ _ c.remove-row.ensures.blocks c.remove-row.ensures.left
    (stored_changed list.blocks c.self.inside.spare list.left spot.block rows there.block c.self.invariant.stored (λ behind. absurd (omega (arith, first))) (omega (arith, one_fewer list.blocks spot c.remove-row.result there))) in
    record {
      stored = left;
      counted = counted_fewer c.self.inside.counts (joined list.blocks) c.self.invariant.counted c.self.told (rows_before list.blocks spot) c.remove-row.result
          (before_in_range list.blocks spot.block spot.at [] there.block there.row) (omega arith) (taken_row list.blocks spot c.remove-row.result there c.remove-row.ensures.row) _ 0 (ap joined c.remove-row.ensures.blocks ∙ taken_joined list.blocks spot c.remove-row.result there);
    }

pub returns-then-is_empty-clause-row : goal.returns-then-is_empty-clause-row
returns-then-is_empty-clause-row c =
    let spot = c.args.spot in
    let row = c.remove-row.result in
    taken_row c.self.inside.blocks.blocks spot row (subst (λ b. IsRow b.blocks spot) (sym c.self.view_is) c.requires) c.remove-row.ensures.row
    ∙ ap (λ b. get_or (joined b.blocks) (rows_before b.blocks spot) row) c.self.view_is

pub returns-then-is_empty-clause-rows : goal.returns-then-is_empty-clause-rows
returns-then-is_empty-clause-rows c = emptied c ∙ ap (λ b. remove (joined b.blocks) (rows_before b.blocks c.args.spot)) c.self.view_is

pub returns-else-spot-gt0-clause-row : goal.returns-else-spot-gt0-clause-row
returns-else-spot-gt0-clause-row c =
    let spot = c.args.spot in
    let row = c.remove-row.result in
    taken_row c.self.inside.blocks.blocks spot row (subst (λ b. IsRow b.blocks spot) (sym c.self.view_is) c.requires) c.remove-row.ensures.row
    ∙ ap (λ b. get_or (joined b.blocks) (rows_before b.blocks spot) row) c.self.view_is

pub returns-else-spot-gt0-clause-rows : goal.returns-else-spot-gt0-clause-rows
returns-else-spot-gt0-clause-rows c =
    let blocks = c.self.inside.blocks.blocks in
    let spot = c.args.spot in
    let there : IsRow blocks spot = subst (λ b. IsRow b.blocks spot) (sym c.self.view_is) c.requires in
    let left = ap joined c.remove-row.ensures.blocks ∙ taken_joined blocks spot c.remove-row.result there
    ∙ ap (λ b. remove (joined b.blocks) (rows_before b.blocks spot)) c.self.view_is in
    elim c.else-spot-gt0.branch [
      | else-spot-gt0-via-then-spot-gt0+else-is_empty w ↦ ap (λ b. joined b.blocks) w.self-is ∙ left
      | else-spot-gt0-via-else-spot-gt0 w ↦ ap (λ b. joined b.blocks) w.self-is ∙ left
    ]

pub overflow_sub-self : goal.overflow_sub-self
overflow_sub-self c =
    let list = c.self.inside.blocks in
    let spot = c.args.spot in
    let there : IsRow list.blocks spot = subst (λ b. IsRow b.blocks spot) (sym c.self.view_is) c.requires in
    let some = counted_some c.self.inside.counts (joined list.blocks) c.self.invariant.counted c.self.told (rows_before list.blocks spot) c.remove-row.result
    (before_in_range list.blocks spot.block spot.at [] there.block there.row) (omega arith) (taken_row list.blocks spot c.remove-row.result there c.remove-row.ensures.row) 0 in
    omega (arith, some)
