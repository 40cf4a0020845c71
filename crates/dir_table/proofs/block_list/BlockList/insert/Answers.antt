use Rattle.std.proofs.Common.{◌<◌, ◌≤◌, set, length, sym, ap, ◌∙◌, subst}
use Rattle.std.specs.List.{insert}
use Rattle.dir_table.specs.Blocks.{block_at, first_row}
use Rattle.dir_table.specs.Slots.{blocks_in}
use Rattle.dir_table.proofs.Listed.{first_found, listed_with}
use Rattle.dir_table.proofs.Slots.{IsFound, found_here, changed_here}
use Rattle.dir_table.proofs.block_list.BlockList.insert.Goals as goal

-- the block, where it was looked up
found : (c : goal.After-self-2-1) → IsFound c.self.inside.slots.items c.self.inside.order.items c.args.spot.block c.index.result.now c.index_mut.result.now
found c = record {
  in_range = subst (λ b. c.args.spot.block < length b.blocks) (sym c.self.view_is) c.requires.gap.block;
  slot_is = c.index.ensures;
  rows_are = c.index_mut.ensures.value;
}

pub returns-clause-blocks : goal.returns-clause-blocks
returns-clause-blocks c =
    let slots = c.self.inside.slots.items in
    let order = c.self.inside.order.items in
    let k = c.args.spot.block in
    changed_here slots order _ c.self.invariant.held.apart k _ _ (found c) c.insert.new.self
    ∙ ap (set (blocks_in slots order) k) (c.insert.ensures ∙ ap (λ rs. insert rs c.args.spot.at c.args.row) (found_here slots order _ c.self.invariant.held.apart k _ _ (found c)))
    ∙ ap (λ b. set b.blocks k (insert (block_at b.blocks k) c.args.spot.at c.args.row)) c.self.view_is

pub invariant_of-self : goal.invariant_of-self
invariant_of-self c =
    let slots = c.self.inside.slots in
    let order = c.self.inside.order in
    let free = c.self.inside.free in
    let firsts = c.self.inside.firsts in
    let k = c.args.spot.block in
    let here = found_here slots.items order.items free.items c.self.invariant.held.apart k _ _ (found c) in
    let within : c.args.spot.at ≤ length c.index_mut.result.now =
    subst (λ rs. c.args.spot.at ≤ length rs) (sym here) (subst (λ b. c.args.spot.at ≤ length (block_at b.blocks k)) (sym c.self.view_is) c.requires.gap.within) in
    let first = first_found slots order free firsts c.self.invariant k _ _ (found c) c.index-2.result.now c.index-2.ensures in
    listed_with slots order free firsts c.self.invariant k _ _ (found c) c.insert.new.self c.first_with.result
    (c.first_with.ensures.put_in c.index_mut.result.now first within ∙ ap first_row (sym c.insert.ensures))
