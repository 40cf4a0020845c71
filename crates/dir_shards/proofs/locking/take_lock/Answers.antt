use Rattle.std.proofs.Common.{◌≡◌, sym, refl, ap, ◌∙◌, subst, [], ◌∷◌, Some, None, set, slice_get}
use Rattle.shfl_line.specs.declared.events.Mode.TheVariants.{Write}
use Rattle.shfl_core.specs.Plan.{is_resting}
use Rattle.shfl_table.specs.PassModel.{BoardId}
use Rattle.shfl_table.specs.Places.{place_index}
use Rattle.shfl_table.proofs.WaitSteps.{has-hold}
use Rattle.dir_shards.specs.KeptShards.{KeptShardModel}
use Rattle.dir_shards.specs.Locks.{LockPass, HasOut}
use Rattle.dir_shards.proofs.LockPasses.{sees_one}
use Rattle.dir_shards.proofs.locking.take_lock.Given as given_here
use Rattle.dir_shards.proofs.locking.take_lock.Goals as goal
use Rattle.dir_shards.proofs.locking.take_lock.Goals.{After-wait_for}

module _ (g : given_here.Over) (c : After-wait_for g) where
  -- the one value behind the lock
  one : (x : KeptShardModel) × (c.wait_for.new.pass.values ≡ Some x ∷ []) × (c.wait_for.new.pass.history ≡ [])
  one = let w = c.wait_for.ensures.waited in
      sees_one c.args.pass.now c.wait_for.new.pass (w.within Write (has-hold c.wait_for.new.pass.own Write c.wait_for.ensures.holds w.mode_is)) c.requires.free.one

pub take_value-requires-clause-within : goal.take_value-requires-clause-within
take_value-requires-clause-within g c = let d = (goal.at.take_value-requires-clause-within g c).After-wait_for in let o = one g d in
    (o.0, λ j. slice_get (o.1 j) (place_index (c.wait_for.ensures.waited.mode_is j) 0))

pub returns-clause-out : goal.returns-clause-out
returns-clause-out g c = let d = (goal.at.returns-clause-out g c).After-wait_for in let o = one g d in let out = c.take_value.ensures.out in let w = c.wait_for.ensures.waited in
    record {
      holds = ap (λ (p : LockPass). is_resting p.own) out ∙ c.wait_for.ensures.holds;
      mode = ap (λ (p : LockPass). p.own.reg.mode) out ∙ w.mode_is;
      out = ap (λ (p : LockPass). p.values) out ∙ (λ j. set (o.1 j) (place_index (w.mode_is j) 0) None);
      unseen = ap (λ (p : LockPass). p.history) out ∙ o.2;
      one = ap (λ (p : LockPass). p.board.table.slots) out ∙ (ap (λ (b : BoardId). b.table.slots) w.board ∙ c.requires.free.one);
    }
