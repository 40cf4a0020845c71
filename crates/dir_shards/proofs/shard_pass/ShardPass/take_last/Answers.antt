use Rattle.std.proofs.Common.{◌≡◌, ◌-◌, ◌∷◌, ◌++◌, [], length, Some, slice_get, sym, ap, ◌∙◌, option_to_list}
use Rattle.std.proofs.lemmas.List.{length-map}
use Rattle.dir_shards.specs.Locks.{LockPass}
use Rattle.dir_shards.specs.ShardPasses.{ShardPassModel, IsLockPass, asked_at}
use Rattle.dir_shards.proofs.LockRuns.{last_decisions}
use Rattle.dir_shards.proofs.Places.{got_front, got_last}
use Rattle.dir_shards.proofs.shard_pass.ShardPass.take_last.Goals as goal

pub invariant_of-self : goal.invariant_of-self
invariant_of-self c = let new = c.pop.new.self.items in record {
  home = c.self.invariant.home;
  each = λ dir p at. c.self.invariant.each dir p (ap (λ l. slice_get l dir) c.pop.ensures.items ∙ got_front new (option_to_list c.pop.result) dir p at);
}

pub returns-clause-idle : goal.returns-clause-idle
returns-clause-idle c = let new = c.pop.new.self.items in let pass = c.in-Some.pass in
    let items : c.self.inside.passes.items ≡ new ++ pass ∷ [] = c.pop.ensures.items ∙ ap (λ o. new ++ option_to_list o) c.in-Some.is in
    (c.self.invariant.each (length new) pass (ap (λ l. slice_get l (length new)) items ∙ got_last new pass)).free.idle

pub returns-clause-given : goal.returns-clause-given
returns-clause-given c = let new = c.pop.new.self.items in let pass = c.in-Some.pass in
    let items : c.self.inside.passes.items ≡ new ++ pass ∷ [] = c.pop.ensures.items ∙ ap (λ o. new ++ option_to_list o) c.in-Some.is in
    let is = c.self.invariant.each (length new) pass (ap (λ l. slice_get l (length new)) items ∙ got_last new pass) in
    let number = is.number_is ∙ ap (λ (z : ShardPassModel). z.number) c.self.view_is in
    λ i. record { number = number i; history = is.free.unseen i }

pub returns-clause-part : goal.returns-clause-part
returns-clause-part c = let new = c.pop.new.self.items in let pass = c.in-Some.pass in
    let items : c.self.inside.passes.items ≡ new ++ pass ∷ [] = c.pop.ensures.items ∙ ap (λ o. new ++ option_to_list o) c.in-Some.is in
    let at : slice_get c.self.inside.passes.items (length new) ≡ Some pass = ap (λ l. slice_get l (length new)) items ∙ got_last new pass in
    let number = (c.self.invariant.each (length new) pass at).number_is ∙ ap (λ (z : ShardPassModel). z.number) c.self.view_is in
    let asked = sym (last_decisions c.self.inside.passes.items new pass items at) ∙ ap (λ (z : ShardPassModel). asked_at z (length z.locks - 1)) c.self.view_is in
    λ i. record { number = number i; steps_taken = pass.steps_taken; found = pass.found; attempts = pass.attempts; decisions = asked i }

pub returns-clause-asked : goal.returns-clause-asked
returns-clause-asked c = let passes = c.self.inside.passes.items in
    ap (λ (z : ShardPassModel). length z.decisions) (sym c.self.view_is)
    ∙ (length-map passes (λ (p : LockPass). p.decisions) ∙ (sym (length-map passes (λ (p : LockPass). p.board)) ∙ ap (λ (z : ShardPassModel). length z.locks) c.self.view_is))
