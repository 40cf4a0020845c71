use Rattle.std.proofs.Common.{rules, length-append, ◌++◌, ◌∷◌, [], arith, ◌≡◌, ◌+◌, ◌<◌, ◌≤◌, length, vec_len, vec_capacity, slice_index, slice_index_or, sym, ◌∙◌, subst}
use Rattle.shfl_cell.specs.Cells.{fresh, cell_on, no_attr}
use Rattle.shfl_table.proofs.Ends.{each_snoc}
use Rattle.shfl_cell.proofs.opening.cell_passes.Goals as goal

pub loop-pass-preserved : goal.loop-pass-preserved
loop-pass-preserved g c = let i = c.loop-pass.invariant in let p = c.push_reserved.ensures in let cell = cell_on c.args.board.now in
    let old : vec_len c.loop-pass.all ≡ length c.loop-pass.all.items = search rules in let new : vec_len c.push_reserved.new.self ≡ length c.push_reserved.new.self.items = search rules in
    let long : c.loop-pass.k + 1 ≡ length (c.loop-pass.yielded ++ c.in-Some.pass ∷ []) = (let a = i.2 in omega (arith, length-append c.loop-pass.yielded (c.in-Some.pass ∷ []))) in
    let place : c.loop-pass.k ≡ length c.loop-pass.all.items = (let a = i.3 in omega arith) in
    let len : vec_len c.push_reserved.new.self ≡ c.loop-pass.k + 1 = (let a = p.len in let b = i.3 in omega arith) in
    let room : length c.args.calls.now ≤ vec_capacity c.push_reserved.new.self = (let a = i.4 in let b = p.capacity in search rules) in
    let here = c.cell_pass.ensures in (
      tt,
      tt,
      long,
      len,
      room,
      λ j h. each_snoc (λ n. fresh cell n (slice_index c.args.calls.now n) (slice_index_or c.args.attrs.now n no_attr)) c.loop-pass.all.items c.push_reserved.new.self.items _ p.items
          (here ∙ (λ m. fresh cell (place m) (slice_index c.args.calls.now (place m)) (slice_index_or c.args.attrs.now (place m) no_attr))) (λ k l. i.5 k (subst (λ n. k < n) (sym old) l)) j (subst (λ n. j < n) new h),
    )
