use Rattle.std.proofs.Common.{◌≡◌, ◌++◌, ◌+◌, drop, map, vec_len}
use Rattle.sim_chart.specs.Pictures.{wait_bar, waits_bars}
use Rattle.sim_chart.proofs.picture.push_waits.Given as goal

abbrev pub invariant-loop-socket : goal.invariant-loop-socket
invariant-loop-socket l = record {
  bars : l.waits.items ++ map (wait_bar l.setup l.name l.ended) (drop l.socket-index l.socket-items) ≡ l.fn.waits.items ++ waits_bars l.setup l.name l.ended;
  few : vec_len l.waits ≡ vec_len l.fn.waits + l.socket-index;
}
