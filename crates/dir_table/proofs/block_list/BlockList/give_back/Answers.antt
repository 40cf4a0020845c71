use Rattle.std.proofs.Common.{◌≡◌, ◌<◌, ◌∷◌, ◌++◌, [], map, length, get_or, sym, ap, ◌∙◌, subst, arith}
use Rattle.std.specs.List.{remove}
use Rattle.std.proofs.lemmas.List.{length-map}
use Rattle.dir_table.specs.Blocks.{block_at, first_row}
use Rattle.dir_table.specs.Slots.{blocks_in, AreApart}
use Rattle.dir_table.proofs.Firsts.{begun_without}
use Rattle.dir_table.proofs.ListEdits.{map-remove}
use Rattle.dir_table.proofs.Slots.{apart_freed}
use Rattle.dir_table.proofs.block_list.BlockList.give_back.Goals as goal

pub invariant_of-self : goal.invariant_of-self
invariant_of-self c =
    let slots = c.self.inside.slots.items in
    let order = c.self.inside.order.items in
    let free = c.self.inside.free.items in
    let held = c.self.invariant.held in
    let k = c.args.block in
    let known : k < length order = subst (λ n. k < n) (length-map order (block_at slots)) (subst (λ b. k < length b.blocks) (sym c.self.view_is) c.requires) in
    let apart = apart_freed (length slots) order free k c.remove-slot.result held.apart known in
    let freed : c.push_reserved.new.self.items ≡ free ++ get_or order k c.remove-slot.result ∷ [] = c.push_reserved.ensures.items ∙ ap (λ s. free ++ s ∷ []) c.remove-slot.ensures.value in
    record {
      held = record {
        apart = subst (AreApart (length slots) c.remove-slot.new.self.items) (sym freed) (subst (λ l. AreApart (length slots) l (free ++ get_or order k c.remove-slot.result ∷ [])) (sym c.remove-slot.ensures.items) apart);
        within = held.within;
        numbered = held.numbered;
        listed = omega (arith, held.listed, c.remove-slot.ensures.capacity);
        returned = omega (arith, held.returned, c.push_reserved.ensures.capacity);
      };
      begun = c.remove.ensures.items ∙ begun_without c.self.inside.firsts.items (blocks_in slots order) k c.self.invariant.begun
          ∙ ap (map first_row) (sym (ap (blocks_in slots) c.remove-slot.ensures.items ∙ map-remove (block_at slots) order k));
      noted = omega (arith, c.self.invariant.noted, c.remove.ensures.capacity);
    }

pub returns-clause-blocks : goal.returns-clause-blocks
returns-clause-blocks c =
    let slots = c.self.inside.slots.items in
    ap (blocks_in slots) c.remove-slot.ensures.items ∙ map-remove (block_at slots) c.self.inside.order.items c.args.block
    ∙ ap (λ b. remove b.blocks c.args.block) c.self.view_is
