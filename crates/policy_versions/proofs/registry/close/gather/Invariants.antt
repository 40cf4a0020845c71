use Rattle.std.proofs.Common.{◌≡◌, ℕ, ◌++◌, slice_get, Some}
use Rattle.policy_versions.specs.Rule.{IsAmong}
use Rattle.policy_versions.specs.Models.{PassModel}
use Rattle.policy_versions.proofs.registry.close.gather.Given as goal

abbrev pub invariant-loop-pass : goal.invariant-loop-pass
invariant-loop-pass l = (l.seat.table_id ≡ l.initial.seat.table_id) × (l.seat.me.0.publisher ≡ l.initial.seat.me.0.publisher) × (l.seat.me.0.words ≡ l.initial.seat.me.0.words) × (l.seat.me.1 ≡ l.initial.seat.me.1)
    × (l.fn.passes.items ≡ l.yielded ++ l.pass-iterator.rest.items)
    × ((i : ℕ) (p : PassModel) (k : ℕ) → slice_get l.yielded i ≡ Some p → IsAmong k p.seen → IsAmong k l.seat.me.0.seen)
