use Rattle.std.proofs.Common.{◌≡◌, suc, ◌∷◌, [], cond, set, length, sym, ap, ◌∙◌, subst, arith}
use Rattle.std.specs.List.{insert}
use Rattle.std.specs.Result.{is_ok}
use Rattle.std.proofs.lemmas.List.{length-set, length-append, append-nil}
use Rattle.dir_table.specs.Slots.{blocks_in, AreApart}
use Rattle.dir_table.proofs.Slots.{apart_more, apart_used, used_there, added_there}
use Rattle.dir_table.proofs.block_list.insert_block.Goals as goal

pub returns-in-Some-clause-held : goal.returns-in-Some-clause-held
returns-in-Some-clause-held c =
    let slots = c.args.slots.now.items in
    let order = c.args.order.now.items in
    let free = c.pop.new.self.items in
    let slot = c.in-Some.slot in
    let held = c.requires.held in
    let listed : c.insert.new.self.items ≡ insert order c.args.at slot =
    c.insert.ensures.items ∙ ap (λ r. cond (is_ok r) (insert order c.args.at slot) order) c.unwrap.ensures in
    let apart = apart_used (length slots) order free slot (subst (AreApart (length slots) order) c.in-Some.ensures.items held.apart) c.args.at c.requires.within in
    let count = length-set slots slot c.args.block in
    record {
      apart = subst (λ n. AreApart n c.insert.new.self.items free) (sym count) (subst (λ l. AreApart (length slots) l free) (sym listed) apart);
      within = omega (arith, count, held.within);
      numbered = held.numbered;
      listed = omega (arith, held.listed, c.insert.ensures.capacity);
      returned = omega (arith, held.returned, c.in-Some.ensures.capacity);
    }

pub returns-in-Some-clause-blocks : goal.returns-in-Some-clause-blocks
returns-in-Some-clause-blocks c =
    let slots = c.args.slots.now.items in
    let order = c.args.order.now.items in
    let slot = c.in-Some.slot in
    let listed : c.insert.new.self.items ≡ insert order c.args.at slot =
    c.insert.ensures.items ∙ ap (λ r. cond (is_ok r) (insert order c.args.at slot) order) c.unwrap.ensures in
    ap (blocks_in (set slots slot c.args.block)) listed
    ∙ used_there slots order c.pop.new.self.items slot c.args.at c.args.block (subst (AreApart (length slots) order) c.in-Some.ensures.items c.requires.held.apart)

pub returns-in-None-clause-held : goal.returns-in-None-clause-held
returns-in-None-clause-held c =
    let slots = c.args.slots.now.items in
    let order = c.args.order.now.items in
    let free = c.pop.new.self.items in
    let held = c.requires.held in
    let number : c.len.result ≡ length slots = omega arith in
    let listed : c.insert-in-None.new.self.items ≡ insert order c.args.at (length slots) =
    c.insert-in-None.ensures.items ∙ ap (λ r. cond (is_ok r) (insert order c.args.at c.len.result) order) c.unwrap-in-None.ensures ∙ ap (insert order c.args.at) number in
    let none : c.args.free.now.items ≡ free = c.in-None.ensures.items ∙ append-nil free in
    let apart = subst (AreApart (length slots) order) none held.apart in
    let more = apart_used (suc (length slots)) order free (length slots) (apart_more (length slots) order free apart) c.args.at c.requires.within in
    let count : suc (length slots) ≡ length c.push_reserved.new.self.items = omega (arith, ap length c.push_reserved.ensures.items, length-append slots (c.args.block ∷ [])) in
    record {
      apart = subst (λ n. AreApart n c.insert-in-None.new.self.items free) count (subst (λ l. AreApart (suc (length slots)) l free) (sym listed) more);
      within = omega (arith, count, held.apart.all, c.in-None.ensures.cases.0, c.requires.left, c.push_reserved.ensures.capacity);
      numbered = omega (arith, held.numbered, c.push_reserved.ensures.capacity);
      listed = omega (arith, held.listed, c.insert-in-None.ensures.capacity, c.push_reserved.ensures.capacity);
      returned = omega (arith, held.returned, c.in-None.ensures.capacity, c.push_reserved.ensures.capacity);
    }

pub returns-in-None-clause-blocks : goal.returns-in-None-clause-blocks
returns-in-None-clause-blocks c =
    let slots = c.args.slots.now.items in
    let order = c.args.order.now.items in
    let number : c.len.result ≡ length slots = omega arith in
    let listed : c.insert-in-None.new.self.items ≡ insert order c.args.at (length slots) =
    c.insert-in-None.ensures.items ∙ ap (λ r. cond (is_ok r) (insert order c.args.at c.len.result) order) c.unwrap-in-None.ensures ∙ ap (insert order c.args.at) number in
    (λ i. blocks_in (c.push_reserved.ensures.items i) (listed i)) ∙ added_there slots order c.args.free.now.items c.args.at c.args.block c.requires.held.apart
