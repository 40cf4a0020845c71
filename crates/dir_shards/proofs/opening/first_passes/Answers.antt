use Rattle.std.proofs.Common.{rules, length-append, ◌++◌, ◌∷◌, [], arith, ◌≡◌, ℕ, ◌+◌, ◌<◌, ◌≤◌, length, vec_len, vec_capacity, slice_get, slice_index, slice_index_or, Some, sym, ap, ◌∙◌, subst}
use Rattle.dir_shards.specs.ShardPasses.{ShardPassModel, fresh_with, no_attr}
use Rattle.dir_shards.proofs.Places.{each_is-more}
use Rattle.dir_shards.proofs.opening.first_passes.Goals as goal

pub loop-journal-preserved : goal.loop-journal-preserved
loop-journal-preserved c = let i = c.loop-journal.invariant in let p = c.push_reserved.ensures in let t = c.args.table.now in
    let f : ℕ → ShardPassModel = λ n. fresh_with [] t.id (slice_index t.opening 0) n (slice_index c.args.calls.now n) (slice_index_or c.args.attrs.now n no_attr) in
    let old = c.loop-journal.all.ok.0 in let new = c.push_reserved.new.self.ok.0 in
    let long : c.loop-journal.k + 1 ≡ length (c.loop-journal.yielded ++ c.in-Some.journal ∷ []) = (let a = i.2 in omega (arith, length-append c.loop-journal.yielded (c.in-Some.journal ∷ []))) in
    let place : c.loop-journal.k ≡ length c.loop-journal.all.items = (let a = i.3 in omega arith) in
    let len : vec_len c.push_reserved.new.self ≡ c.loop-journal.k + 1 = (let a = p.len in let b = i.3 in omega arith) in
    let room : length c.args.calls.now ≤ vec_capacity c.push_reserved.new.self = (let a = i.4 in let b = p.capacity in search rules) in (
      tt,
      tt,
      long,
      len,
      room,
      λ j h. each_is-more f c.loop-journal.all.items c.push_reserved.new.self.items _ p.items (c.in_ok-first_pass.ensures ∙ ap f place) (λ k l. i.5 k (omega arith)) j (omega arith),
    )
