use Rattle.std.proofs.Common.{◌≡◌, ◌<◌, ◌≤◌, ℕ, List, ◌+◌, ◌-◌, ◌∷◌, ◌++◌, [], length, slice_index_or, sym, refl, ap, ◌∙◌, subst, arith, length-append}
use Rattle.std.proofs.lemmas.Option.{slice_get-get_or, slice_get_within}
use Rattle.shfl_table.specs.declared.kept.Action.{Action}
use Rattle.shfl_table.specs.PassModel.{BoardModel, ClosingModel}
use Rattle.shfl_table.specs.ThreadRuns.{RanUntilClosed}
use Rattle.dir_shards.specs.ShardPasses.{ShardPassModel, without_last}
use Rattle.dir_shards.specs.Closings.{EndsOn, part_at}
use Rattle.dir_shards.proofs.Places.{snoc_same, all_got}
use Rattle.dir_shards.proofs.LockEnds.{AreShorter, AreBack, none_shorter, shorter_more, all_shorter, none_back, back_more, all_back, now_is}
use Rattle.dir_shards.proofs.LockRuns.{HaveTold, none_told, told_more, no_history, told_all}
use Rattle.dir_shards.proofs.lock_closing.close_lock.Goals as goal

pub loop-k-init : goal.loop-k-init
loop-k-init c = let before = c.args.passes.now in let d = c.index-passes-0.result in let was = slice_get-get_or before 0 d c.requires.some in
    let e = c.take_last-first.ensures in let n = c.new-closing.ensures in
    record {
      board = ap (λ (z : ClosingModel). z.board) n;
      passes = shorter_more 0 before before (slice_index_or before 0 d) c.take_last-first.new.self (none_shorter before) was e.pass;
      back = subst (AreBack 1 before) (sym (ap (λ (z : ClosingModel). z.back) n)) (back_more 0 before [] (slice_index_or before 0 d) _ (none_back before) was e.given);
      told = subst (HaveTold 1 before) (sym (ap (λ (z : ClosingModel). z.parts) n)) (told_more 0 before [] (slice_index_or before 0 d) _ (none_told before) was e.asked e.part);
    }

pub take_last-first-requires : goal.take_last-first-requires
take_last-first-requires c = let ends = c.requires.last 0 c.index-passes-0.result c.requires.some in
    let l = ap length ends.1 in let m = length-append ends.0 (c.args.board.id ∷ []) in omega (arith, l, m)

pub take_last-pass-requires : goal.take_last-pass-requires
take_last-pass-requires c = let v = c.loop-k.invariant in let before = c.args.passes.now in let k = c.loop-k.k in let d = c.index-passes-k.result in
    let long = v.passes.long in let test = c.loop-k-test.true in
    let within : k < length before = omega arith in
    let ends = c.requires.last k d within in
    let some : 0 < length (slice_index_or before k d).locks = (let l = ap length ends.1 in let m = length-append ends.0 (c.args.board.id ∷ []) in omega (arith, l, m)) in
    subst (λ (p : ShardPassModel). 0 < length p.locks) (sym (now_is k before c.loop-k.passes d v.passes within)) some

pub give-requires-clause-board : goal.give-requires-clause-board
give-requires-clause-board c = let v = c.loop-k.invariant in let before = c.args.passes.now in let k = c.loop-k.k in let d = c.index-passes-k.result in
    let long = v.passes.long in let test = c.loop-k-test.true in
    let within : k < length before = omega arith in
    let ends = c.requires.last k d within in let lock = c.take_last-pass.ensures.lock in
    (snoc_same lock.0 ends.0 c.take_last-pass.result.board c.args.board.id (sym lock.1 ∙ ap (λ (p : ShardPassModel). p.locks) (now_is k before c.loop-k.passes d v.passes within) ∙ ends.1)).1
    ∙ ap (λ (b : BoardModel). b.id) (sym v.board)

pub loop-k-preserved : goal.loop-k-preserved
loop-k-preserved c = let v = c.loop-k.invariant in let before = c.args.passes.now in let k = c.loop-k.k in let d = c.index-passes-k.result in
    let long = v.passes.long in let test = c.loop-k-test.true in
    let within : k < length before = omega arith in
    let same = now_is k before c.loop-k.passes d v.passes within in let was = slice_get-get_or before k d within in
    record {
      board = ap (λ (z : ClosingModel). z.board) c.give.ensures ∙ v.board;
      passes = shorter_more k before c.loop-k.passes (slice_index_or before k d) c.take_last-pass.new.self v.passes was (c.take_last-pass.ensures.pass ∙ ap without_last same);
      back = subst (AreBack (k + 1) before) (sym (ap (λ (z : ClosingModel). z.back) c.give.ensures))
          (back_more k before c.loop-k.closing.back (slice_index_or before k d) _ v.back was (c.take_last-pass.ensures.given ∙ ap (λ (p : ShardPassModel). record { number = p.number; history = [] }) same));
      told = subst (HaveTold (k + 1) before) (sym (ap (λ (z : ClosingModel). z.parts) c.give.ensures))
          (told_more k before c.loop-k.closing.parts (slice_index_or before k d) _ v.told was (subst (λ (p : ShardPassModel). length p.decisions ≡ length p.locks) same c.take_last-pass.ensures.asked)
          (c.take_last-pass.ensures.part ∙ ap (λ (p : ShardPassModel). part_at (length p.locks - 1) c.take_last-pass.result.steps_taken c.take_last-pass.result.found c.take_last-pass.result.attempts p) same));
    }

pub finish-values-requires : goal.finish-values-requires
finish-values-requires c = let v = c.loop-k.invariant in let test = c.loop-k-test.false in let long = v.passes.long in record {
  all = λ k below. all_back c.loop-k.k c.args.board.count c.args.passes.now c.loop-k.closing.back (omega arith) c.requires.all v.back k (subst (λ (b : BoardModel). k < b.count) v.board below);
}

pub returns-clause-passes : goal.returns-clause-passes
returns-clause-passes c = let v = c.loop-k.invariant in let test = c.loop-k-test.false in let long = v.passes.long in
    all_shorter c.loop-k.k c.args.passes.now c.loop-k.passes (omega arith) v.passes

pub new-closing-requires-clause-board : goal.new-closing-requires-clause-board
new-closing-requires-clause-board c = let before = c.args.passes.now in let d = c.index-passes-0.result in
    let ends = c.requires.last 0 d c.requires.some in let lock = c.take_last-first.ensures.lock in
    (snoc_same lock.0 ends.0 c.take_last-first.result.board c.args.board.id (sym lock.1 ∙ ends.1)).1

pub returns-clause-asked : goal.returns-clause-asked
returns-clause-asked c = let v = c.loop-k.invariant in let test = c.loop-k-test.false in let long = v.passes.long in let before = c.args.passes.now in
    all_got (λ (p : ShardPassModel). length p.decisions ≡ length p.locks) before (λ k p at. let within = slice_get_within before k p at in v.told.asked k p (omega arith) at)

pub returns-clause-run : goal.returns-clause-run
returns-clause-run c dir locks = let v = c.loop-k.invariant in let test = c.loop-k-test.false in let long = v.passes.long in
    let values = c.finish-values.result in let r = c.finish-values.ensures.run in
    let slots = ap (λ (b : BoardModel). b.id.table.slots) v.board in let one = c.requires.one in let len = c.finish-values.ensures.len in let ok = values.ok.0 in
    let none = no_history c.loop-k.closing.board.initial_state r.0 values.items (omega arith) r.1 in
    told_all c.loop-k.k dir c.args.board.count c.args.board.id c.args.passes.now c.loop-k.closing.parts (omega arith) v.told locks
    (subst (λ (z : BoardModel × List Action). RanUntilClosed z.0.id.rules z.0.id.attrs z.0.count c.loop-k.closing.parts z.1) (λ i. (v.board i, sym none i)) r.2)
