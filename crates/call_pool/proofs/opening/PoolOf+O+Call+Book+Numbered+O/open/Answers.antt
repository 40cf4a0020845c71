use Rattle.std.proofs.Common.{◌≡◌, ℕ, ◌<◌, List, length, sym, ap, ◌∙◌, subst, arith, slice_index, All, replicate}
use Rattle.std.proofs.lemmas.List.{length-map, length-replicate, get_or-replicate}
use Rattle.shfl_cell.specs.Cells.{AreInOrder}
use Rattle.call_pool.specs.Pools.{PoolPassModel}
use Rattle.call_pool.proofs.Openings.{all_own, all_unused, all_attrs}
use Rattle.call_pool.proofs.opening.PoolOf+O+Call+Book+Numbered+O.open.Given as given_here
use Rattle.call_pool.proofs.opening.PoolOf+O+Call+Book+Numbered+O.open.Goals as goal
use Rattle.call_pool.proofs.opening.PoolOf+O+Call+Book+Numbered+O.open.Goals.{In_ok-passes}

module _ (g : given_here.Over) (c : In_ok-passes g) where
  long : length c.in_ok-passes.passes.items ≡ length c.as_slice.result.now
  long = let a = ap length c.in_ok-passes.ensures.paired.1 in let b = length-map c.in_ok-passes.passes.items (λ (p : PoolPassModel _). p.cell) in
      let n = c.in_ok-cell.ensures.count in let cells = c.in_ok-cell.cells.ok.0 in omega arith

  every : (k : ℕ) → k < length c.as_slice.result.now → slice_index c.as_slice.result.now k ≡ length c.in_ok-queue.queue.calls
  every k below = let passes = length c.args.attrs.now in let calls = length c.args.calls.now in
      let same : c.as_slice.result.now ≡ replicate passes calls = c.as_slice.ensures.value ∙ c.in_ok-counts.ensures.items_if_clones_equal (λ y is. is) in
      let within : k < passes = (let n = ap length same ∙ length-replicate passes calls in omega arith) in
      ap (λ (l : List ℕ). slice_index l k) same ∙ (get_or-replicate passes k calls 0 within ∙ sym (ap length c.in_ok-queue.ensures.queue.0))

  many : c.in_ok-queue.queue.takers ≡ length c.in_ok-passes.passes.items
  many = let l = long in let t = c.in_ok-queue.ensures.queue.1 in let n = ap length (c.as_slice.ensures.value ∙ c.in_ok-counts.ensures.items_if_clones_equal (λ y is. is)) in
      let r = length-replicate (length c.args.attrs.now) (length c.args.calls.now) in omega arith

pub returns-clause-passes : goal.returns-clause-passes
returns-clause-passes g c = let d = (goal.at.returns-clause-passes g c).In_ok-passes in let O = g.O.Object in
    all_own c.in_ok-queue.queue c.in_ok-cell.cell c.args.attrs.now c.as_slice.result.now c.in_ok-passes.passes.items c.in_ok-cell.cells.items
    c.in_ok-passes.ensures.paired.0 c.in_ok-passes.ensures.rest (many g d) c.in_ok-passes.ensures.paired.1 (long g d) c.in_ok-cell.ensures.passes O.call_numbers O.admits (every g d)
    (subst (All (λ x. O.admits c.in_ok-cell.cell.opening (O.call_numbers x))) (sym c.in_ok-queue.ensures.queue.0)
    (subst (λ s. All (λ x. O.admits s (O.call_numbers x)) c.args.calls.now) (sym (c.in_ok-cell.ensures.cell.1 ∙ c.new-object.ensures.state)) c.requires.admitted))

pub returns-clause-unused : goal.returns-clause-unused
returns-clause-unused g c = let d = (goal.at.returns-clause-unused g c).In_ok-passes in
    all_unused c.in_ok-queue.queue c.in_ok-cell.cell c.args.attrs.now c.as_slice.result.now c.in_ok-passes.passes.items c.in_ok-cell.cells.items
    c.in_ok-passes.ensures.paired.0 c.in_ok-passes.ensures.rest (many g d) c.in_ok-passes.ensures.paired.1 (long g d) c.in_ok-cell.ensures.passes

pub returns-clause-attrs : goal.returns-clause-attrs
returns-clause-attrs g c = let d = (goal.at.returns-clause-attrs g c).In_ok-passes in
    all_attrs c.in_ok-queue.queue c.in_ok-cell.cell c.args.attrs.now c.as_slice.result.now c.in_ok-passes.passes.items c.in_ok-cell.cells.items
    c.in_ok-passes.ensures.paired.0 c.in_ok-passes.ensures.rest (many g d) c.in_ok-passes.ensures.paired.1 (long g d) c.in_ok-cell.ensures.passes

pub returns-clause-in_order : goal.returns-clause-in_order
returns-clause-in_order g c = subst AreInOrder (sym c.in_ok-passes.ensures.paired.1) c.in_ok-cell.ensures.in_order
