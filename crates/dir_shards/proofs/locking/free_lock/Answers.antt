use Rattle.std.proofs.Common.{◌≡◌, ◌+◌, sym, refl, ap, ◌∙◌, [], ◌∷◌, ◌++◌, Some, set}
use Rattle.shfl_table.specs.Places.{place_index}
use Rattle.shfl_table.specs.Waits.{as_idle}
use Rattle.dir_shards.specs.Locks.{LockPass}
use Rattle.dir_shards.proofs.locking.free_lock.Given as given_here
use Rattle.dir_shards.proofs.locking.free_lock.Goals as goal
use Rattle.dir_shards.proofs.locking.free_lock.Goals.{After-put_value}

module _ (c : After-put_value) where
  -- the pass once the value is in again
  in-again : c.put_value.new.self ≡ record c.args.pass.now { values = Some c.args.kept ∷ [] }
  in-again = c.put_value.ensures ∙ (λ j. record c.args.pass.now { values = set (c.requires.out.out j) (place_index (c.requires.out.mode j) 0) (Some c.args.kept) })

pub free-requires-clause-within : goal.free-requires-clause-within
free-requires-clause-within c = let d = (goal.at.free-requires-clause-within c).After-put_value in (c.args.kept ∷ [], ap (λ (p : LockPass). p.values) (in-again d), (refl, tt))

pub returns : goal.returns
returns c = let d = (goal.at.returns c).After-put_value in let i = in-again d in
    let freed = c.free.ensures (c.args.kept ∷ []) (ap (λ (p : LockPass). p.values) i) in (
      freed.0,
      freed.1 ∙ (λ j. record {
        board = (i j).board;
        own = as_idle (i j).own;
        steps_taken = (i j).steps_taken + 1;
        found = (i j).found ++ freed.0 ∷ [];
        decisions = (i j).decisions;
        attempts = (i j).attempts;
        initial_state = (i j).initial_state;
        history = sym c.requires.out.unseen j;
        values = [];
      }),
    )
