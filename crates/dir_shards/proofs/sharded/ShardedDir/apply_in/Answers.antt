use Rattle.std.proofs.Common.{◌≡◌, ◌<◌, inl, ℕ, List, length, drop, map, slice_index, sym, refl, ap, ◌∙◌, subst, arith, ◌∷◌, []}
use Rattle.std.proofs.lemmas.Option.{slice_get_within}
use Rattle.dir_table.specs.Meanings.{IsAdmitted}
use Rattle.shfl_table.specs.PassModel.{BoardModel}
use Rattle.shfl_table.specs.Waits.{AsksInRounds}
use Rattle.dir_shards.specs.KeptShards.{state_of}
use Rattle.dir_shards.specs.Locks.{LockPass, decisions_at}
use Rattle.dir_shards.specs.Naming.{in_order}
use Rattle.dir_shards.specs.ShardPasses.{ShardPassModel, ShardedDirModel, ShardPassInvariant, MakesCall, Asks}
use Rattle.dir_shards.proofs.LockPasses.{all_free, stand_frees, may_free, of_locks-takes, of_locks-frees, passes-takes, passes-frees, and_also}
use Rattle.dir_shards.proofs.Places.{written_back}
use Rattle.dir_shards.proofs.MadeCalls.{none, room_of, pass_on, took_first, free_first, makes_call, kept_again, alone, asks_one}
use Rattle.dir_shards.proofs.sharded.ShardedDir.apply_in.Goals as goal

pub lock_at-kept-requires-clause-free : goal.lock_at-kept-requires-clause-free
lock_at-kept-requires-clause-free g c = free_first c.pass.inside.journal c.first_dir-dir.result _ _ c.pass.invariant c.as_mut_slice-passes.ensures.value

pub commit_in-reply-requires-clause-table : goal.commit_in-reply-requires-clause-table
commit_in-reply-requires-clause-table g c =
    let h = took_first c.pass.inside.journal c.first_dir-dir.result _ _ _ _ c.pass.invariant c.as_mut_slice-passes.ensures.value c.lock_at-kept.ensures.takes in
    let is = ap (λ (p : ShardPassModel). p.journal) c.pass.view_is ∙ (c.requires.pass.journal ∙ sym (ap (λ (d : ShardedDirModel). d.journal) c.self.view_is)) in
    (is, h.table ∙ is)

pub commit_in-reply-requires-clause-room : goal.commit_in-reply-requires-clause-room
commit_in-reply-requires-clause-room g c =
    let h = took_first c.pass.inside.journal c.first_dir-dir.result _ _ _ _ c.pass.invariant c.as_mut_slice-passes.ensures.value c.lock_at-kept.ensures.takes in
    sym h.room

pub commit_in-reply-requires-clause-admitted : goal.commit_in-reply-requires-clause-admitted
commit_in-reply-requires-clause-admitted g c =
    let h = took_first c.pass.inside.journal c.first_dir-dir.result _ _ _ _ c.pass.invariant c.as_mut_slice-passes.ensures.value c.lock_at-kept.ensures.takes in
    subst (λ r. IsAdmitted r c.args.call.now) (sym (h.room ∙ ap (λ (p : ShardPassModel). p.room) c.pass.view_is)) c.requires.admitted

pub commit_in-reply-requires-clause-named : goal.commit_in-reply-requires-clause-named
commit_in-reply-requires-clause-named g c =
    let h = took_first c.pass.inside.journal c.first_dir-dir.result _ _ _ _ c.pass.invariant c.as_mut_slice-passes.ensures.value c.lock_at-kept.ensures.takes in
    sym (h.dir ∙ c.first_dir-dir.ensures)

pub free_at-requires-clause-within : goal.free_at-requires-clause-within
free_at-requires-clause-within g c =
    let t = c.lock_at-kept.ensures.takes in let passes = c.as_mut_slice-passes.result.now in
    let long = passes-takes c.first_dir-dir.result passes c.lock_at-kept.new.passes c.lock_at-kept.result t in let within = slice_get_within passes c.first_dir-dir.result t.before t.was in omega (arith, long, within)

pub free_at-requires-clause-locks : goal.free_at-requires-clause-locks
free_at-requires-clause-locks g c =
    of_locks-takes c.first_dir-dir.result _ _ _ _ c.lock_at-kept.ensures.takes
    (ap (map (λ (p : LockPass). p.board)) c.as_mut_slice-passes.ensures.value
    ∙ (ap (λ (p : ShardPassModel). p.locks) c.pass.view_is ∙ (c.requires.pass.locks ∙ (sym (ap (λ (d : ShardedDirModel). d.locks) c.self.view_is) ∙ ap (map (λ (b : BoardModel). b.id)) (sym c.as_slice-boards.ensures.value)))))

pub free_at-requires-clause-out : goal.free_at-requires-clause-out
free_at-requires-clause-out g c =
    let j = c.pass.inside.journal in
    let h = took_first j c.first_dir-dir.result _ _ _ _ c.pass.invariant c.as_mut_slice-passes.ensures.value c.lock_at-kept.ensures.takes in
    may_free j.table (room_of j) j.number (and_also c.first_dir-dir.result none) c.first_dir-dir.result c.lock_at-kept.new.passes c.commit_in-reply.result.2 h.stand (inl refl) (ap state_of c.commit_in-reply.ensures.kept ∙ h.state)

pub invariant_of-pass : goal.invariant_of-pass
invariant_of-pass g c =
    let j = c.pass.inside.journal in let passes = c.free_at.new.passes in
    let h = took_first j c.first_dir-dir.result _ _ _ _ c.pass.invariant c.as_mut_slice-passes.ensures.value c.lock_at-kept.ensures.takes in
    let long = passes-takes c.first_dir-dir.result _ _ _ h.takes in let long' = passes-frees c.first_dir-dir.result _ _ c.free_at.ensures in
    let ok = c.pass.inside.passes.ok.0 in
    subst (λ l. ShardPassInvariant l c.commit_in-reply.new.pass) (sym (written_back c.pass.inside.passes.len passes _ (omega (arith, long, long', ok))))
    (kept_again passes j c.commit_in-reply.new.pass c.commit_in-reply.ensures.pass (alone _ j c.pass.invariant)
    (all_free j.table (room_of j) j.number passes (stand_frees j.table (room_of j) j.number none c.first_dir-dir.result _ _ (λ f. f) h.stand c.free_at.ensures)))

pub returns-clause-made : goal.returns-clause-made
returns-clause-made g c =
    let j = c.pass.inside.journal in let passes = c.free_at.new.passes in let dir = c.first_dir-dir.result in
    let h = took_first j dir _ _ _ _ c.pass.invariant c.as_mut_slice-passes.ensures.value c.lock_at-kept.ensures.takes in
    let long = passes-takes dir _ _ _ h.takes in let long' = passes-frees dir _ _ c.free_at.ensures in
    let ok = c.pass.inside.passes.ok.0 in let done = c.commit_in-reply in
    subst (λ l. MakesCall c.args.pass.now c.args.call.now done.result.0 done.result.1.place (pass_on l done.new.pass c.pass.inside.attr)) (sym (written_back c.pass.inside.passes.len passes _ (omega (arith, long, long', ok))))
    (makes_call c.pass.inside.passes.items passes j done.new.pass c.pass.inside.attr c.args.pass.now c.lock_at-kept.result.room c.args.call.now done.result.0 done.result.1.place c.pass.view_is
    (of_locks-frees dir _ _ _ c.free_at.ensures (of_locks-takes dir _ _ _ _ h.takes refl)) done.ensures.pass (sym h.room) done.ensures.goes_on)

pub returns-clause-asked : goal.returns-clause-asked
returns-clause-asked g c =
    let j = c.pass.inside.journal in let passes = c.free_at.new.passes in let dir = c.first_dir-dir.result in
    let h = took_first j dir _ _ _ _ c.pass.invariant c.as_mut_slice-passes.ensures.value c.lock_at-kept.ensures.takes in
    let long = passes-takes dir _ _ _ h.takes in let long' = passes-frees dir _ _ c.free_at.ensures in
    let ok = c.pass.inside.passes.ok.0 in let done = c.commit_in-reply in let told = g.C.Chooser.told c.args.chooser.now in let told' = g.C.Chooser.told c.lock_at-kept.new.chooser in
    subst (λ (ls : List LockPass × List ℕ). Asks c.args.pass.now (pass_on ls.0 done.new.pass c.pass.inside.attr) ls.1 told told')
    (λ i. (sym (written_back c.pass.inside.passes.len passes (drop (length passes) c.pass.inside.passes.items) (omega (arith, long, long', ok))) i, in_order (c.first_dir-dir.ensures i) (sym c.requires.alone i)))
    (asks_one c.pass.inside.passes.items c.lock_at-kept.new.passes passes j done.new.pass c.pass.inside.attr c.args.pass.now dir c.lock_at-kept.result told told' c.pass.view_is h.takes c.free_at.ensures
    (subst (λ l. AsksInRounds c.pass.inside.attr (decisions_at l dir) (decisions_at c.lock_at-kept.new.passes dir) told told') c.as_mut_slice-passes.ensures.value c.lock_at-kept.ensures.asked))
