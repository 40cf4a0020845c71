use Rattle.std.proofs.Common.{◌≡◌, ℕ, ◌+◌, ◌-◌, ◌<◌, ◌≤◌, slice_index, slice_set, length, arith, ap, ap₂, sym, ◌∙◌}
use Rattle.std.proofs.lemmas.List.{length-set}
use Rattle.shard_rows.specs.Tables.{held, count_of}
use Rattle.shard_rows.proofs.Tabled.{count_changed, count_below, is_set}
use Rattle.shard_rows.proofs.table.NumberTable.set.Goals as goal

-- the count with both changes
changed : (count a b old number : ℕ) → a ≡ held old → b ≡ held number → (count - a) + b ≡ (count - held old) + held number
changed count a b old number first second = ap₂ (λ x y. (count - x) + y) first second

pub overflow_add-self : goal.overflow_add-self
overflow_add-self c =
    let ns = c.reach.new.numbers.items in
    let len = c.reach.ensures.len in
    let room : c.self.inside.room ≡ c.args.self.now.room = ap (λ t. t.room) c.self.view_is in
    let below = count_below ns c.args.name c.args.number c.self.inside.count c.index.result.now (omega (arith, len)) (c.self.invariant.counted ∙ sym c.reach.ensures.count) c.index.ensures in
    let is = changed c.self.inside.count c.held.result c.held-2.result c.index.result.now c.args.number c.held.ensures c.held-2.ensures in
    omega (arith, below, is, len, c.self.invariant.within, c.self.invariant.fits, c.requires, room)

pub invariant_of-self : goal.invariant_of-self
invariant_of-self c =
    let ns = c.reach.new.numbers.items in
    let len = c.reach.ensures.len in
    let room : c.self.inside.room ≡ c.args.self.now.room = ap (λ t. t.room) c.self.view_is in
    record {
      within = omega (arith, len, length-set ns c.args.name c.args.number, c.self.invariant.within, c.requires, room);
      counted = changed c.self.inside.count c.held.result c.held-2.result c.index.result.now c.args.number c.held.ensures c.held-2.ensures
          ∙ count_changed ns c.args.name c.args.number c.self.inside.count c.index.result.now (omega (arith, len)) (c.self.invariant.counted ∙ sym c.reach.ensures.count) c.index.ensures;
      reserved = omega (arith, c.self.invariant.reserved, c.reach.ensures.capacity);
      fits = c.self.invariant.fits;
    }
