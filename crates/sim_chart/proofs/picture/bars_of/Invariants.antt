use Rattle.std.proofs.Common.{◌≡◌, ◌≤◌, ◌++◌, ◌*◌, drop, map, vec_len}
use Rattle.std.specs.List.{flat_map}
use Rattle.sim_chart.specs.Pictures.{gains_of, waits_of}
use Rattle.sim_chart.proofs.picture.bars_of.Given as goal

abbrev pub invariant-loop-candidate : goal.invariant-loop-candidate
invariant-loop-candidate l = record {
  gains : l.gains.items ++ map (gains_of l.setup) (drop l.candidate-index l.setup.policies) ≡ map (gains_of l.setup) l.setup.policies;
  waits : l.waits.items ++ flat_map (waits_of l.setup) (drop l.candidate-index l.setup.policies) ≡ flat_map (waits_of l.setup) l.setup.policies;
  few : vec_len l.gains ≡ l.candidate-index;
  short : vec_len l.waits ≤ 1024 * l.candidate-index;
}
