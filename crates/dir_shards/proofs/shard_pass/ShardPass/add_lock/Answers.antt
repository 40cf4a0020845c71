use Rattle.std.proofs.Common.{◌≡◌, ◌∷◌, ◌++◌, [], length, slice_index, sym, subst}
use Rattle.std.proofs.lemmas.List.{length-map}
use Rattle.dir_shards.specs.Locks.{LockPass}
use Rattle.dir_shards.specs.ShardPasses.{ShardPassModel, ShardPassInvariant, IsLockPass}
use Rattle.dir_shards.proofs.Dealing.{kept_more}
use Rattle.dir_shards.proofs.shard_pass.ShardPass.add_lock.Goals as goal

pub invariant_of-self-2 : goal.invariant_of-self-2
invariant_of-self-2 c = let j = c.self.inside.journal in let passes = c.self.inside.passes.items in
    subst (λ l. ShardPassInvariant l j) (sym c.in-Ok.ensures.items)
    (kept_more passes j c.args.pass c.self.invariant
    (subst (λ n. IsLockPass j.table (slice_index j.opening 0) j.number n c.args.pass) (length-map passes (λ (p : LockPass). p.board))
    (subst (λ (z : ShardPassModel). IsLockPass z.journal z.room z.number (length z.locks) c.args.pass) (sym c.self.view_is) c.requires.is_lock)))
