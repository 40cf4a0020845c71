use Rattle.std.proofs.Common.{rules, ◌≡◌, ◌⊎◌, inl, inr, ◌<◌, ℕ, ◌+◌, ◌∷◌, ◌++◌, [], List, map, length, vec_len, Some, slice_get, refl, sym, ap, ◌∙◌, subst, arith, length-append}
use Rattle.std.proofs.lemmas.Option.{same_Some, slice_get_within}
use Rattle.std.proofs.lemmas.List.{length-map, map-append}
use Rattle.shfl_line.specs.declared.events.Form.TheVariants.{Park}
use Rattle.shfl_core.specs.declared.phase.Rules.{Rules}
use Rattle.shfl_table.specs.PassModel.{BoardModel, BoardId, fresh_pass}
use Rattle.atomic_table.specs.Seated.{TableId}
use Rattle.shared_journal.specs.Models as shared
use Rattle.shard_rows.specs.Replay.{DirEntry}
use Rattle.dir_shards.specs.KeptShards.{lock_state}
use Rattle.dir_shards.specs.Locks.{LockPass}
use Rattle.dir_shards.specs.ShardPasses.{ShardPassModel, MayAdd, with_lock, with_locks}
use Rattle.dir_shards.specs.ShardedDirs.{IsLockOf}
use Rattle.dir_shards.proofs.Places.{got_snoc, got_map, mapped}
use Rattle.dir_shards.proofs.Dealing.{map_locks, may_add}
use Rattle.dir_shards.proofs.locks.open_locks.Goals as goal

nothing : {A : Type 0} (xs : List A) (k : ℕ) (x : A) → xs ≡ [] → slice_get xs k ≡ Some x → ⊥
nothing xs k x is at = let within = slice_get_within xs k x at in let none = ap length is in omega arith

pub loop-dir-init : goal.loop-dir-init
loop-dir-init c = let none = c.in_ok-boards.ensures.items in record {
  count = search rules;
  room = search rules;
  known = refl;
  locks = λ dir lock is. absurd (nothing c.in_ok-boards.boards.items dir lock none is);
  rules = λ dir lock is. absurd (nothing c.in_ok-boards.boards.items dir lock none is);
  attrs = λ dir lock is. absurd (nothing c.in_ok-boards.boards.items dir lock none is);
  passes = mapped _ c.args.all.now c.args.all.now refl (λ k p is. is ∙ ap Some ((c.requires.first k p is).none ∙ ap (λ l. with_locks (map (λ (b : BoardModel). b.id) l) p) (sym none)));
}

pub deal-requires-clause-may : goal.deal-requires-clause-may
deal-requires-clause-may c k p q at at' =
    let v = c.loop-dir.invariant in let boards = c.loop-dir.boards.items in let lock = c.in_ok-board.board in
    let first = got_map (with_locks (map (λ (b : BoardModel). b.id) boards)) c.args.all.now k p (ap (λ l. slice_get l k) (sym v.passes) ∙ at) in
    let within = slice_get_within c.in_ok-board.passes.items k q at' in
    let ok = c.in_ok-board.passes.ok.0 in let ok' = c.loop-dir.boards.ok.0 in let count = v.count in
    let fresh = c.in_ok-board.ensures.passes k (omega arith) in
    let q-is = same_Some q _ (sym at' ∙ fresh) in
    let next : c.split-next.result.table ≡ c.args.table.now.id = ap (λ (z : shared.PrefixModel DirEntry). z.table) (c.split-next.ensures.prefix ∙ v.known) ∙ c.requires.known.0 in
    let long : length (map (λ (b : BoardModel). b.id) boards) ≡ c.loop-dir.dir = (let l = length-map boards (λ (b : BoardModel). b.id) in omega arith) in
    let of = subst (λ t. IsLockOf t c.args.room (length c.args.attrs.now) c.loop-dir.dir lock) next c.in_ok-board.ensures.lock in
    let may = may_add c.args.table.now.id c.args.room c.loop-dir.dir k (length c.args.attrs.now) (map (λ (b : BoardModel). b.id) boards) lock first.0 (c.requires.first k first.0 first.1) long of in (
      subst (λ (z : ShardPassModel × LockPass). MayAdd z.0 z.1) (λ i. (sym first.2 i, (ap (λ t. fresh_pass (lock_state t c.args.room c.loop-dir.dir) lock.id k) (sym next) ∙ sym q-is) i)) may,
      ap (λ (z : LockPass). z.board) q-is,
    )

pub loop-dir-preserved : goal.loop-dir-preserved
loop-dir-preserved c =
    let v = c.loop-dir.invariant in let boards = c.loop-dir.boards.items in let lock = c.in_ok-board.board in let more = c.push_reserved.ensures in
    let next : c.split-next.result.table ≡ c.args.table.now.id = ap (λ (z : shared.PrefixModel DirEntry). z.table) (c.split-next.ensures.prefix ∙ v.known) ∙ c.requires.known.0 in
    let ok = c.loop-dir.boards.ok.0 in let count = v.count in
    let here : length boards ≡ c.loop-dir.dir = omega arith in
    record {
      count = search rules;
      room = search rules;
      known = c.split-next.ensures.same ∙ v.known;
      locks = λ dir l is. elim (got_snoc boards lock dir l (ap (λ z. slice_get z dir) (sym more.items) ∙ is)) [
        | inl inside ↦ v.locks dir l inside.1
        | inr last ↦
            subst (λ (z : TableId × (ℕ × BoardModel)). IsLockOf z.0 c.args.room (length c.args.attrs.now) z.1.0 z.1.1)
            (λ i. (next i, ((sym here ∙ sym last.0) i, last.1 i))) c.in_ok-board.ensures.lock
      ];
      rules = λ dir l is. elim (got_snoc boards lock dir l (ap (λ z. slice_get z dir) (sym more.items) ∙ is)) [
        | inl inside ↦ v.rules dir l inside.1
        | inr last ↦ ap (λ (z : BoardModel). z.id.rules) (sym last.1) ∙ c.in_ok-board.ensures.rules
      ];
      attrs = λ dir l is. elim (got_snoc boards lock dir l (ap (λ z. slice_get z dir) (sym more.items) ∙ is)) [
        | inl inside ↦ v.attrs dir l inside.1
        | inr last ↦ ap (λ (z : BoardModel). z.id.attrs) (sym last.1) ∙ c.in_ok-board.ensures.attrs
      ];
      passes = c.in_ok-deal.ensures ∙ (ap (map (with_lock lock.id)) v.passes ∙ (map_locks (map (λ (b : BoardModel). b.id) boards) lock.id c.args.all.now
          ∙ ap (λ ids. map (with_locks ids) c.args.all.now) (sym (ap (map (λ (b : BoardModel). b.id)) more.items ∙ map-append (λ (b : BoardModel). b.id) boards (lock ∷ [])))));
    }
