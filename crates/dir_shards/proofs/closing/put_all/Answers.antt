use Rattle.std.proofs.Common.{rules, ◌≡◌, ℕ, ◌+◌, ◌∷◌, ◌++◌, [], length, Some, slice_get, sym, ap, ◌∙◌, arith, append_assoc, length-append}
use Rattle.shard_rows.specs.Values.{rows_below}
use Rattle.dir_shards.proofs.Places.{got_middle}
use Rattle.dir_shards.proofs.closing.put_all.Goals as goal

pub put_rows-requires-clause-up_to : goal.put_rows-requires-clause-up_to
put_rows-requires-clause-up_to c = let v = c.loop-shard.invariant in let before = c.loop-shard.yielded in
    c.requires.shards.up_to (length before) c.in-Some.shard (ap (λ l. slice_get l (length before)) (v.all ∙ ap (λ l. before ++ l) c.in-Some.ensures.steps.0) ∙ got_middle before c.in-Some.shard c.next.new.self.rest.items)

pub put_rows-requires-clause-room : goal.put_rows-requires-clause-room
put_rows-requires-clause-room c = let v = c.loop-shard.invariant in let before = c.loop-shard.yielded in
    c.requires.shards.room (length before) c.in-Some.shard (ap (λ l. slice_get l (length before)) (v.all ∙ ap (λ l. before ++ l) c.in-Some.ensures.steps.0) ∙ got_middle before c.in-Some.shard c.next.new.self.rest.items)

pub put_rows-requires-clause-lesser : goal.put_rows-requires-clause-lesser
put_rows-requires-clause-lesser c = let v = c.loop-shard.invariant in let before = c.loop-shard.yielded in
    let dir = c.requires.shards.dir (length before) c.in-Some.shard (ap (λ l. slice_get l (length before)) (v.all ∙ ap (λ l. before ++ l) c.in-Some.ensures.steps.0) ∙ got_middle before c.in-Some.shard c.next.new.self.rest.items) in
    v.rows ∙ ap (rows_below c.args.journal.now) (sym dir)

pub loop-shard-preserved : goal.loop-shard-preserved
loop-shard-preserved c = let v = c.loop-shard.invariant in let before = c.loop-shard.yielded in let shard = c.in-Some.shard in
    let dir = c.requires.shards.dir (length before) shard (ap (λ l. slice_get l (length before)) (v.all ∙ ap (λ l. before ++ l) c.in-Some.ensures.steps.0) ∙ got_middle before shard c.next.new.self.rest.items) in
    let next : shard.dir + 1 ≡ length (before ++ shard ∷ []) = omega (arith, dir, length-append before (shard ∷ [])) in
    record {
      next = tt;
      finite = tt;
      all = v.all ∙ ap (λ l. before ++ l) c.in-Some.ensures.steps.0 ∙ sym (append_assoc before (shard ∷ []) c.next.new.self.rest.items);
      rows = c.put_rows.ensures.rows ∙ ap (rows_below c.args.journal.now) next;
      reserved = search rules;
    }
