use Rattle.std.proofs.Common.{◌≡◌, [], set, length, get_or, sym, ap, ◌∙◌, subst, arith}
use Rattle.std.proofs.lemmas.List.{length-set}
use Rattle.std.proofs.lemmas.List.Concat.{get_or-flat_map}
use Rattle.dir_table.specs.Blocks.{joined, rows_before, block_at, IsRow}
use Rattle.dir_table.proofs.Counted.{counted_same}
use Rattle.dir_table.proofs.Reading.{before_in_range}
use Rattle.dir_table.proofs.Stored.{stored_changed, stored_as}
use Rattle.dir_table.proofs.Edits.{replaced_joined}
use Rattle.dir_table.proofs.buffer.RowBuffer.replace.Goals as goal

-- the rows as the buffer has them then
joined_then : (c : goal.After-replace) → joined c.replace.new.self.blocks ≡ set (joined c.self.inside.blocks.blocks) (rows_before c.self.inside.blocks.blocks c.args.spot) c.args.row
joined_then c =
    let blocks = c.self.inside.blocks.blocks in
    let spot = c.args.spot in
    ap joined c.replace.ensures.blocks ∙ replaced_joined blocks spot c.args.row (subst (λ b. IsRow b.blocks spot) (sym c.self.view_is) c.requires.there)

pub invariant_of-self : goal.invariant_of-self
invariant_of-self c =
    let list = c.self.inside.blocks in
    let spot = c.args.spot in
    let there : IsRow list.blocks spot = subst (λ b. IsRow b.blocks spot) (sym c.self.view_is) c.requires.there in
    let rows = set (block_at list.blocks spot.block) spot.at c.args.row in
    let count : length rows ≡ length (block_at list.blocks spot.block) = length-set (block_at list.blocks spot.block) spot.at c.args.row in
    let left = stored_as _ _ _ _ _ c.replace.ensures.blocks c.replace.ensures.left
    (stored_changed list.blocks c.self.inside.spare list.left spot.block rows there.block c.self.invariant.stored (λ _. omega (arith, there.row, count)) (omega (arith, count))) in
    record {
      stored = left;
      counted = counted_same c.self.inside.counts (joined list.blocks) c.self.invariant.counted c.self.told (rows_before list.blocks spot) c.args.row _
          (before_in_range list.blocks spot.block spot.at [] there.block there.row)
          (ap (λ r. r.dir) (get_or-flat_map (λ rs. rs) list.blocks spot.block spot.at [] c.args.row there.block there.row)
          ∙ subst (λ b. (get_or (block_at b.blocks spot.block) spot.at c.args.row).dir ≡ c.args.row.dir) (sym c.self.view_is) (c.requires.same c.args.row)) (joined_then c);
    }

pub returns-clause-rows : goal.returns-clause-rows
returns-clause-rows c = joined_then c ∙ ap (λ b. set (joined b.blocks) (rows_before b.blocks c.args.spot) c.args.row) c.self.view_is
