use Rattle.std.proofs.Common.{◌≡◌, ◌≢◌, ◌<◌, ◌⊎◌, inl, inr, ℕ, List, length, drop, map, min, max, slice_index, sym, refl, ap, ◌∙◌, subst, arith, ◌∷◌, []}
use Rattle.dir_table.specs.Meanings.{IsAdmitted}
use Rattle.shfl_table.specs.PassModel.{BoardModel}
use Rattle.shfl_table.specs.Waits.{AsksInRounds}
use Rattle.shard_rows.specs.Shares.{first_named}
use Rattle.dir_shards.specs.KeptShards.{KeptShardModel, state_of}
use Rattle.dir_shards.specs.Locks.{LockPass, decisions_at}
use Rattle.dir_shards.specs.Naming.{in_order, other_named}
use Rattle.dir_shards.specs.ShardPasses.{ShardPassModel, ShardedDirModel, ShardPassInvariant, MakesCall, Asks}
use Rattle.dir_shards.proofs.LockPasses.{all_free, is_free, stand_frees, may_free, of_locks-takes, of_locks-frees, passes-takes, passes-frees, and_also}
use Rattle.dir_shards.proofs.Places.{written_back}
use Rattle.dir_shards.proofs.MadeCalls.{none, room_of, pass_on, took_first, took_lock, free_first, makes_call, kept_again, alone, asks_two}
use Rattle.dir_shards.proofs.NamedLocks.{other_than, apart, one_of}
use Rattle.dir_shards.proofs.sharded.ShardedDir.apply_over.Goals as goal

pub lock_at-lower-requires-clause-free : goal.lock_at-lower-requires-clause-free
lock_at-lower-requires-clause-free g c =
    free_first c.pass.inside.journal c.min.result _ _ c.pass.invariant c.as_mut_slice-passes.ensures.value

pub lock_at-higher-requires-clause-locks : goal.lock_at-higher-requires-clause-locks
lock_at-higher-requires-clause-locks g c =
    of_locks-takes c.min.result _ _ _ _ c.lock_at-lower.ensures.takes
    (ap (map (λ (p : LockPass). p.board)) c.as_mut_slice-passes.ensures.value
    ∙ (ap (λ (p : ShardPassModel). p.locks) c.pass.view_is ∙ (c.requires.pass.locks ∙ (sym (ap (λ (d : ShardedDirModel). d.locks) c.self.view_is) ∙ ap (map (λ (b : BoardModel). b.id)) (sym c.as_slice-boards.ensures.value)))))

pub lock_at-higher-requires-clause-free : goal.lock_at-higher-requires-clause-free
lock_at-higher-requires-clause-free g c =
    let j = c.pass.inside.journal in let low = c.min.result in let high = c.max.result in
    let far : low ≢ high = subst (λ (z : ℕ × ℕ). z.0 ≢ z.1) (λ i. (sym (c.min.ensures ∙ ap (λ n. min n c.args.other) c.first_dir-first.ensures) i, sym (c.max.ensures ∙ ap (λ n. max n c.args.other) c.first_dir-first.ensures) i))
    (apart (first_named c.args.call.now) c.args.other (other_than c.args.call.now c.args.other c.requires.over)) in
    let h = took_first j low c.lock_at-lower.result _ _ c.lock_at-lower.new.passes c.pass.invariant c.as_mut_slice-passes.ensures.value c.lock_at-lower.ensures.takes in
    is_free j.table (room_of j) j.number (and_also low none) c.lock_at-lower.new.passes high h.stand (elim [ inl is ↦ far (sym is) | inr never ↦ never ])

pub commit_over-reply-requires-clause-table : goal.commit_over-reply-requires-clause-table
commit_over-reply-requires-clause-table g c =
    let j = c.pass.inside.journal in let low = c.min.result in let high = c.max.result in
    let h = took_first j low c.lock_at-lower.result _ _ c.lock_at-lower.new.passes c.pass.invariant c.as_mut_slice-passes.ensures.value c.lock_at-lower.ensures.takes in
    let k = took_lock j (and_also low none) high c.lock_at-higher.result c.lock_at-lower.new.passes c.lock_at-higher.new.passes h.stand c.lock_at-higher.ensures.takes in
    let is = ap (λ (p : ShardPassModel). p.journal) c.pass.view_is ∙ (c.requires.pass.journal ∙ sym (ap (λ (d : ShardedDirModel). d.journal) c.self.view_is)) in
    (is, h.table ∙ is, k.table ∙ is)

pub commit_over-reply-requires-clause-room : goal.commit_over-reply-requires-clause-room
commit_over-reply-requires-clause-room g c =
    let j = c.pass.inside.journal in let low = c.min.result in let high = c.max.result in
    let h = took_first j low c.lock_at-lower.result _ _ c.lock_at-lower.new.passes c.pass.invariant c.as_mut_slice-passes.ensures.value c.lock_at-lower.ensures.takes in
    let k = took_lock j (and_also low none) high c.lock_at-higher.result c.lock_at-lower.new.passes c.lock_at-higher.new.passes h.stand c.lock_at-higher.ensures.takes in
    (sym h.room, k.room ∙ sym h.room)

pub commit_over-reply-requires-clause-admitted : goal.commit_over-reply-requires-clause-admitted
commit_over-reply-requires-clause-admitted g c =
    let j = c.pass.inside.journal in let low = c.min.result in let high = c.max.result in
    let h = took_first j low c.lock_at-lower.result _ _ c.lock_at-lower.new.passes c.pass.invariant c.as_mut_slice-passes.ensures.value c.lock_at-lower.ensures.takes in
    subst (λ r. IsAdmitted r c.args.call.now) (sym (h.room ∙ ap (λ (p : ShardPassModel). p.room) c.pass.view_is)) c.requires.admitted

pub commit_over-reply-requires-clause-named : goal.commit_over-reply-requires-clause-named
commit_over-reply-requires-clause-named g c =
    let j = c.pass.inside.journal in let low = c.min.result in let high = c.max.result in
    let h = took_first j low c.lock_at-lower.result _ _ c.lock_at-lower.new.passes c.pass.invariant c.as_mut_slice-passes.ensures.value c.lock_at-lower.ensures.takes in
    let k = took_lock j (and_also low none) high c.lock_at-higher.result c.lock_at-lower.new.passes c.lock_at-higher.new.passes h.stand c.lock_at-higher.ensures.takes in
    let first = first_named c.args.call.now in
    let at_low : low ≡ min first c.args.other = c.min.ensures ∙ ap (λ n. min n c.args.other) c.first_dir-first.ensures in
    let at_high : high ≡ max first c.args.other = c.max.ensures ∙ ap (λ n. max n c.args.other) c.first_dir-first.ensures in
    elim (one_of first c.args.other) [
      | inl is ↦ inl (is ∙ sym (h.dir ∙ at_low))
      | inr is ↦ inr (is ∙ sym (k.dir ∙ at_high))
    ]

pub free_at-requires-clause-locks : goal.free_at-requires-clause-locks
free_at-requires-clause-locks g c =
    of_locks-takes c.max.result _ _ _ _ c.lock_at-higher.ensures.takes (of_locks-takes c.min.result _ _ _ _ c.lock_at-lower.ensures.takes
    (ap (map (λ (p : LockPass). p.board)) c.as_mut_slice-passes.ensures.value
    ∙ (ap (λ (p : ShardPassModel). p.locks) c.pass.view_is ∙ (c.requires.pass.locks ∙ (sym (ap (λ (d : ShardedDirModel). d.locks) c.self.view_is) ∙ ap (map (λ (b : BoardModel). b.id)) (sym c.as_slice-boards.ensures.value))))))

pub free_at-requires-clause-out : goal.free_at-requires-clause-out
free_at-requires-clause-out g c =
    let j = c.pass.inside.journal in let low = c.min.result in let high = c.max.result in
    let h = took_first j low c.lock_at-lower.result _ _ c.lock_at-lower.new.passes c.pass.invariant c.as_mut_slice-passes.ensures.value c.lock_at-lower.ensures.takes in
    let k = took_lock j (and_also low none) high c.lock_at-higher.result c.lock_at-lower.new.passes c.lock_at-higher.new.passes h.stand c.lock_at-higher.ensures.takes in
    may_free j.table (room_of j) j.number (and_also high (and_also low none)) high c.lock_at-higher.new.passes c.commit_over-reply.result.3 k.stand (inl refl) (ap state_of c.commit_over-reply.ensures.higher ∙ k.state)

pub free_at-requires-2-clause-locks : goal.free_at-requires-2-clause-locks
free_at-requires-2-clause-locks g c =
    of_locks-frees c.max.result _ _ _ c.free_at.ensures (of_locks-takes c.max.result _ _ _ _ c.lock_at-higher.ensures.takes (of_locks-takes c.min.result _ _ _ _ c.lock_at-lower.ensures.takes
    (ap (map (λ (p : LockPass). p.board)) c.as_mut_slice-passes.ensures.value
    ∙ (ap (λ (p : ShardPassModel). p.locks) c.pass.view_is ∙ (c.requires.pass.locks ∙ (sym (ap (λ (d : ShardedDirModel). d.locks) c.self.view_is) ∙ ap (map (λ (b : BoardModel). b.id)) (sym c.as_slice-boards.ensures.value)))))))

pub free_at-requires-2-clause-out : goal.free_at-requires-2-clause-out
free_at-requires-2-clause-out g c =
    let j = c.pass.inside.journal in let low = c.min.result in let high = c.max.result in
    let far : low ≢ high = subst (λ (z : ℕ × ℕ). z.0 ≢ z.1) (λ i. (sym (c.min.ensures ∙ ap (λ n. min n c.args.other) c.first_dir-first.ensures) i, sym (c.max.ensures ∙ ap (λ n. max n c.args.other) c.first_dir-first.ensures) i))
    (apart (first_named c.args.call.now) c.args.other (other_than c.args.call.now c.args.other c.requires.over)) in
    let h = took_first j low c.lock_at-lower.result _ _ c.lock_at-lower.new.passes c.pass.invariant c.as_mut_slice-passes.ensures.value c.lock_at-lower.ensures.takes in
    let k = took_lock j (and_also low none) high c.lock_at-higher.result c.lock_at-lower.new.passes c.lock_at-higher.new.passes h.stand c.lock_at-higher.ensures.takes in
    may_free j.table (room_of j) j.number (and_also low none) low c.free_at.new.passes c.commit_over-reply.result.2
    (stand_frees j.table (room_of j) j.number (and_also low none) high _ _ (elim [ inl is ↦ far (sym is) | inr never ↦ never ]) k.stand c.free_at.ensures) (inl refl) (ap state_of c.commit_over-reply.ensures.lower ∙ h.state)

pub invariant_of-pass : goal.invariant_of-pass
invariant_of-pass g c =
    let j = c.pass.inside.journal in let low = c.min.result in let high = c.max.result in
    let far : low ≢ high = subst (λ (z : ℕ × ℕ). z.0 ≢ z.1) (λ i. (sym (c.min.ensures ∙ ap (λ n. min n c.args.other) c.first_dir-first.ensures) i, sym (c.max.ensures ∙ ap (λ n. max n c.args.other) c.first_dir-first.ensures) i))
    (apart (first_named c.args.call.now) c.args.other (other_than c.args.call.now c.args.other c.requires.over)) in
    let h = took_first j low c.lock_at-lower.result _ _ c.lock_at-lower.new.passes c.pass.invariant c.as_mut_slice-passes.ensures.value c.lock_at-lower.ensures.takes in
    let k = took_lock j (and_also low none) high c.lock_at-higher.result c.lock_at-lower.new.passes c.lock_at-higher.new.passes h.stand c.lock_at-higher.ensures.takes in
    let passes = c.free_at-2.new.passes in let ok = c.pass.inside.passes.ok.0 in
    let long1 = passes-takes low c.pass.inside.passes.items c.lock_at-lower.new.passes c.lock_at-lower.result h.takes in
    let long2 = passes-takes high c.lock_at-lower.new.passes c.lock_at-higher.new.passes c.lock_at-higher.result c.lock_at-higher.ensures.takes in
    let long3 = passes-frees high c.lock_at-higher.new.passes c.free_at.new.passes c.free_at.ensures in
    let long4 = passes-frees low c.free_at.new.passes passes c.free_at-2.ensures in
    let back = written_back c.pass.inside.passes.len passes (drop (length passes) c.pass.inside.passes.items) (omega (arith, long1, long2, long3, long4, ok)) in
    subst (λ l. ShardPassInvariant l c.commit_over-reply.new.pass) (sym back)
    (kept_again passes j c.commit_over-reply.new.pass c.commit_over-reply.ensures.pass (alone _ j c.pass.invariant)
    (all_free j.table (room_of j) j.number passes
    (stand_frees j.table (room_of j) j.number none low _ _ (λ f. f) (stand_frees j.table (room_of j) j.number (and_also low none) high _ _ (elim [ inl is ↦ far (sym is) | inr never ↦ never ]) k.stand c.free_at.ensures) c.free_at-2.ensures)))

pub returns-clause-made : goal.returns-clause-made
returns-clause-made g c =
    let j = c.pass.inside.journal in let low = c.min.result in let high = c.max.result in
    let h = took_first j low c.lock_at-lower.result _ _ c.lock_at-lower.new.passes c.pass.invariant c.as_mut_slice-passes.ensures.value c.lock_at-lower.ensures.takes in
    let passes = c.free_at-2.new.passes in let ok = c.pass.inside.passes.ok.0 in
    let long1 = passes-takes low c.pass.inside.passes.items c.lock_at-lower.new.passes c.lock_at-lower.result h.takes in
    let long2 = passes-takes high c.lock_at-lower.new.passes c.lock_at-higher.new.passes c.lock_at-higher.result c.lock_at-higher.ensures.takes in
    let long3 = passes-frees high c.lock_at-higher.new.passes c.free_at.new.passes c.free_at.ensures in
    let long4 = passes-frees low c.free_at.new.passes passes c.free_at-2.ensures in
    let back = written_back c.pass.inside.passes.len passes (drop (length passes) c.pass.inside.passes.items) (omega (arith, long1, long2, long3, long4, ok)) in
    let done = c.commit_over-reply in
    subst (λ l. MakesCall c.args.pass.now c.args.call.now done.result.0 done.result.1.place (pass_on l done.new.pass c.pass.inside.attr)) (sym back)
    (makes_call c.pass.inside.passes.items passes j done.new.pass c.pass.inside.attr c.args.pass.now c.lock_at-lower.result.room c.args.call.now done.result.0 done.result.1.place c.pass.view_is
    (of_locks-frees low _ _ _ c.free_at-2.ensures (of_locks-frees high _ _ _ c.free_at.ensures (of_locks-takes high _ _ _ _ c.lock_at-higher.ensures.takes (of_locks-takes low _ _ _ _ h.takes refl))))
    done.ensures.pass (sym h.room) done.ensures.goes_on)

pub returns-clause-asked : goal.returns-clause-asked
returns-clause-asked g c =
    let j = c.pass.inside.journal in let low = c.min.result in let high = c.max.result in
    let far : low ≢ high = subst (λ (z : ℕ × ℕ). z.0 ≢ z.1) (λ i. (sym (c.min.ensures ∙ ap (λ n. min n c.args.other) c.first_dir-first.ensures) i, sym (c.max.ensures ∙ ap (λ n. max n c.args.other) c.first_dir-first.ensures) i))
    (apart (first_named c.args.call.now) c.args.other (other_than c.args.call.now c.args.other c.requires.over)) in
    let h = took_first j low c.lock_at-lower.result _ _ c.lock_at-lower.new.passes c.pass.invariant c.as_mut_slice-passes.ensures.value c.lock_at-lower.ensures.takes in
    let passes = c.free_at-2.new.passes in let ok = c.pass.inside.passes.ok.0 in
    let long1 = passes-takes low c.pass.inside.passes.items c.lock_at-lower.new.passes c.lock_at-lower.result h.takes in
    let long2 = passes-takes high c.lock_at-lower.new.passes c.lock_at-higher.new.passes c.lock_at-higher.result c.lock_at-higher.ensures.takes in
    let long3 = passes-frees high c.lock_at-higher.new.passes c.free_at.new.passes c.free_at.ensures in
    let long4 = passes-frees low c.free_at.new.passes passes c.free_at-2.ensures in
    let back = written_back c.pass.inside.passes.len passes (drop (length passes) c.pass.inside.passes.items) (omega (arith, long1, long2, long3, long4, ok)) in
    let done = c.commit_over-reply in let told = g.C.Chooser.told c.args.chooser.now in let between = g.C.Chooser.told c.lock_at-lower.new.chooser in let told' = g.C.Chooser.told c.lock_at-higher.new.chooser in
    let at_low : low ≡ min (first_named c.args.call.now) c.args.other = c.min.ensures ∙ ap (λ n. min n c.args.other) c.first_dir-first.ensures in
    let at_high : high ≡ max (first_named c.args.call.now) c.args.other = c.max.ensures ∙ ap (λ n. max n c.args.other) c.first_dir-first.ensures in
    let locks : low ∷ high ∷ [] ≡ in_order (first_named c.args.call.now) (other_named c.args.call.now) = (λ i. at_low i ∷ at_high i ∷ []) ∙ ap (in_order (first_named c.args.call.now)) (sym c.requires.over) in
    subst (λ (ls : List LockPass × List ℕ). Asks c.args.pass.now (pass_on ls.0 done.new.pass c.pass.inside.attr) ls.1 told told') (λ i. (sym back i, locks i))
    (asks_two c.pass.inside.passes.items c.lock_at-lower.new.passes c.lock_at-higher.new.passes c.free_at.new.passes passes j done.new.pass c.pass.inside.attr c.args.pass.now low high
    c.lock_at-lower.result c.lock_at-higher.result told between told' c.pass.view_is far h.takes c.lock_at-higher.ensures.takes c.free_at.ensures c.free_at-2.ensures
    (subst (λ l. AsksInRounds c.pass.inside.attr (decisions_at l low) (decisions_at c.lock_at-lower.new.passes low) told between) c.as_mut_slice-passes.ensures.value c.lock_at-lower.ensures.asked)
    c.lock_at-higher.ensures.asked)
