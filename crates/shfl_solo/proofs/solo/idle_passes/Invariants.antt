use Rattle.std.proofs.Common.{◌≡◌, ◌+◌, ◌-◌, ◌≤◌, take, length, vec_len}
use Rattle.std.specs.Prelude.{vec_capacity}
use Rattle.shfl_core.specs.Worlds.{idle_from}
use Rattle.shfl_solo.proofs.solo.idle_passes.Given as goal

abbrev pub invariant-loop : goal.invariant-loop
invariant-loop l = record {
  number : l.number ≡ l.index;
  passes : l.passes.items ≡ idle_from 0 (take l.index l.attrs);
  room : vec_len l.passes + (length l.attrs - l.index) ≤ vec_capacity l.passes;
}
