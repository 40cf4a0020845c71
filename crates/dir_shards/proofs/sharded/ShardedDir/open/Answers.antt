use Rattle.std.proofs.Common.{◌≡◌, ◌<◌, ℕ, ◌∷◌, ◌++◌, [], List, map, length, take, drop, vec_len, Some, slice_get, slice_index, slice_index_or, refl, sym, ap, ◌∙◌, subst, arith}
use Rattle.std.specs.Option.{option_map}
use Rattle.std.proofs.lemmas.List.{length-map}
use Rattle.std.proofs.lemmas.Option.{same_Some, slice_get_within, slice_get-map, slice_get-get_or, get_or_from_slice_get}
use Rattle.shfl_line.specs.declared.events.Form.TheVariants.{Park}
use Rattle.shfl_table.specs.PassModel.{BoardModel, BoardId}
use Rattle.shared_journal.specs.Models.{TableModel}
use Rattle.dir_shards.specs.ShardPasses.{ShardPassModel, IsPassOf, fresh_with, no_attr, with_locks}
use Rattle.dir_shards.proofs.Places.{got_map, written_back, all_got}
use Rattle.dir_shards.proofs.sharded.ShardedDir.open.Goals as goal

module _ (c : goal.In_ok-with_capacity-3) where
  abbrev locks : List BoardId
  locks = map (λ (b : BoardModel). b.id) c.in_ok-boards.boards.items

  abbrev table : TableModel
  table = c.in_ok-table.table

  -- the passes that are handed out
  abbrev passes : List ShardPassModel
  passes = take c.in_ok-passes.passes.len (c.open_locks.new.all ++ drop (length c.open_locks.new.all) c.in_ok-passes.passes.items)

  are : passes ≡ map (with_locks locks) c.in_ok-passes.passes.items
  are = let all = c.in_ok-boards.ensures.passes ∙ ap (map (with_locks locks)) c.deref_mut.ensures.value in
      let ok = c.in_ok-passes.passes.ok.0 in let long = ap length all in let long' = length-map c.in_ok-passes.passes.items (with_locks locks) in
      written_back c.in_ok-passes.passes.len c.open_locks.new.all (drop (length c.open_locks.new.all) c.in_ok-passes.passes.items) (omega (arith, long, long', ok)) ∙ all

  many : length passes ≡ length c.args.calls.now
  many = let ok = c.in_ok-passes.passes.ok.0 in let long = ap length are in let long' = length-map c.in_ok-passes.passes.items (with_locks locks) in let n = c.in_ok-passes.ensures.count in
      omega (arith, long, long', ok, n)

  each : (k : ℕ) → k < length c.args.calls.now
      → slice_get passes k ≡ Some (fresh_with locks table.id (slice_index table.opening 0) k (slice_index c.args.calls.now k) (slice_index_or c.args.attrs.now k no_attr))
  each k within = let n = c.in_ok-passes.ensures.count in
      ap (λ l. slice_get l k) are ∙ (slice_get-map (with_locks locks) c.in_ok-passes.passes.items k ∙ ap (option_map (with_locks locks)) (c.in_ok-passes.ensures.fresh k (omega arith)))

  is : (k : ℕ) (p : ShardPassModel) → slice_get passes k ≡ Some p
      → p ≡ fresh_with locks table.id (slice_index table.opening 0) k (slice_index c.args.calls.now k) (slice_index_or c.args.attrs.now k no_attr)
  is k p at = let within = slice_get_within passes k p at in let m = many in same_Some p _ (sym at ∙ each k (omega (arith, within, m)))

pub returns-clause-locks : goal.returns-clause-locks
returns-clause-locks c =
    let boards = c.in_ok-boards.boards.items in let ok = c.in_ok-boards.boards.ok.0 in let n = c.in_ok-boards.ensures.count in let long = length-map boards (λ (b : BoardModel). b.id) in
    (omega (arith, ok, n, long), all_got _ (locks c) (λ k id at. let b = got_map (λ (b : BoardModel). b.id) boards k id at in ap (λ (z : BoardId). z.rules) b.2 ∙ c.in_ok-boards.ensures.rules k b.0 b.1))

pub returns-clause-attrs : goal.returns-clause-attrs
returns-clause-attrs c = let boards = c.in_ok-boards.boards.items in
    all_got _ (locks c) (λ k id at. let b = got_map (λ (b : BoardModel). b.id) boards k id at in ap (λ (z : BoardId). z.attrs) b.2 ∙ c.in_ok-boards.ensures.attrs k b.0 b.1)

pub returns-clause-passes : goal.returns-clause-passes
returns-clause-passes c k within =
    subst (λ (z : TableModel). slice_get (passes c) k ≡ Some (fresh_with (locks c) z.id (slice_index z.opening 0) k (slice_index c.args.calls.now k) (slice_index_or c.args.attrs.now k no_attr)))
    (sym c.table.view_is) (each c k within)

pub returns-clause-own : goal.returns-clause-own
returns-clause-own c k d within = let same = is c k (slice_index_or (passes c) k d) (slice_get-get_or (passes c) k d within) in record {
  locks = ap (λ (z : ShardPassModel). z.locks) same;
  journal = ap (λ (z : ShardPassModel). z.journal) same ∙ ap (λ (z : TableModel). z.id) (sym c.table.view_is);
  room = ap (λ (z : ShardPassModel). z.room) same ∙ ap (λ (z : TableModel). slice_index z.opening 0) (sym c.table.view_is);
}

pub returns-clause-in_order : goal.returns-clause-in_order
returns-clause-in_order c k d within = let m = many c in
    ap (λ (z : ShardPassModel). z.number) (get_or_from_slice_get (passes c) k _ d (each c k (omega (arith, within, m))))
