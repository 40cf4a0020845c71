use Rattle.std.proofs.Common.{◌≡◌, suc, ◌+◌, ◌<◌, cond, map, set, take, drop, length, sym, ap, ◌∙◌, subst, arith}
use Rattle.std.specs.List.{insert}
use Rattle.std.specs.Result.{is_ok}
use Rattle.dir_table.specs.Blocks.{half_room, first_row, halved}
use Rattle.dir_table.specs.Slots.{blocks_in}
use Rattle.dir_table.proofs.Firsts.{begun_halved}
use Rattle.dir_table.proofs.Slots.{IsFound, found_here, changed_here}
use Rattle.dir_table.proofs.block_list.BlockList.split.Goals as goal

-- the blocks as the list has them then
there : (c : goal.After-unwrap) → blocks_in c.insert_block.new.slots.items c.insert_block.new.order.items ≡ halved (blocks_in c.self.inside.slots.items c.self.inside.order.items) c.args.full
there c =
    let slots = c.self.inside.slots.items in
    let order = c.self.inside.order.items in
    let k = c.args.full in
    let found : IsFound slots order k c.index.result.now c.index_mut.result.now =
    record { in_range = subst (λ b. k < length b.blocks) (sym c.self.view_is) c.requires.known; slot_is = c.index.ensures; rows_are = c.index_mut.ensures.value } in
    let here = found_here slots order _ c.self.invariant.held.apart k _ _ found in
    let lower = changed_here slots order _ c.self.invariant.held.apart k _ _ found c.split-upper.new.self
    ∙ ap (set (blocks_in slots order) k) (c.split-upper.ensures.lower ∙ ap (take half_room) here) in
    c.insert_block.ensures.blocks
    ∙ ap (λ n. insert (blocks_in (set slots c.index.result.now c.split-upper.new.self) order) n c.split-upper.result) {x = k + 1} {y = suc k} (omega arith)
    ∙ (λ i. insert (lower i) (suc k) ((c.split-upper.ensures.upper ∙ ap (drop half_room) here) i))

pub returns-clause-blocks : goal.returns-clause-blocks
returns-clause-blocks c = there c ∙ ap (λ b. halved b.blocks c.args.full) c.self.view_is

pub invariant_of-self : goal.invariant_of-self
invariant_of-self c =
    let slots = c.self.inside.slots.items in
    let order = c.self.inside.order.items in
    let blocks = blocks_in slots order in
    let k = c.args.full in
    let found : IsFound slots order k c.index.result.now c.index_mut.result.now =
    record { in_range = subst (λ b. k < length b.blocks) (sym c.self.view_is) c.requires.known; slot_is = c.index.ensures; rows_are = c.index_mut.ensures.value } in
    let here = found_here slots order _ c.self.invariant.held.apart k _ _ found in
    let first = c.first_row-first.ensures ∙ ap first_row (c.as_slice.ensures ∙ c.split-upper.ensures.upper ∙ ap (drop half_room) here) in
    let noted : c.insert.new.self.items ≡ insert c.self.inside.firsts.items (suc k) c.first_row-first.result =
    c.insert.ensures.items ∙ ap (λ r. cond (is_ok r) (insert c.self.inside.firsts.items (k + 1) c.first_row-first.result) c.self.inside.firsts.items) c.unwrap.ensures
    ∙ ap (λ n. insert c.self.inside.firsts.items n c.first_row-first.result) {x = k + 1} {y = suc k} (omega arith) in
    record {
      held = c.insert_block.ensures.held;
      begun = noted ∙ begun_halved c.self.inside.firsts.items blocks k c.first_row-first.result c.self.invariant.begun first
          ∙ ap (map first_row) (sym (there c));
      noted = omega (arith, c.self.invariant.noted, c.insert_block.ensures.left, c.insert.ensures.capacity);
    }
