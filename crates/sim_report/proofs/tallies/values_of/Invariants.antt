use Rattle.std.proofs.Common.{◌≡◌, ◌≤◌, ◌++◌, ◌-◌, length, vec_len}
use Rattle.sim_report.specs.Tallies.{values_from, values_of}
use Rattle.sim_report.proofs.tallies.values_of.Given as goal

-- the values so far, and those from the first on, are all
abbrev pub invariant-loop-count : goal.invariant-loop-count
invariant-loop-count l = record {
  all : l.values.items ++ values_from l.key l.attrs (length l.attrs - l.count) l.first ≡ values_of l.key l.attrs;
  few : vec_len l.values ≤ l.count;
}
