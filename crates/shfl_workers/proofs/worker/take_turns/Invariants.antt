use Rattle.std.proofs.Common.{◌≡◌, false, take, drop}
use Rattle.trace_text.specs.Histories.{made_in, of_worker}
use Rattle.shfl_workers.specs.Asked.{AskInTurn}
use Rattle.shfl_workers.specs.Progress.{Progress}
use Rattle.round_log.specs.Logs.{InRounds}
use Rattle.shfl_workers.proofs.worker.take_turns.Given as goal

abbrev pub invariant-loop-call : goal.invariant-loop-call
invariant-loop-call g l = record {
  pass : g.D.SharedDir.is_pass l.dir l.pass;
  worker : g.D.SharedDir.worker l.pass ≡ g.D.SharedDir.worker l.initial.pass;
  progress : Progress g.D.SharedDir.made g.D.SharedDir.left l.registry (g.D.SharedDir.worker l.initial.pass) (take l.call-index l.calls) (drop l.call-index l.calls) l.pass l.attaching;
  asked : AskInTurn g.D.SharedDir.asks (of_worker (g.D.SharedDir.worker l.initial.pass) (made_in (take l.call-index l.calls))) l.initial.pass l.pass (g.C.Chooser.told l.initial.chooser) (g.C.Chooser.told l.chooser);
  whole : InRounds (g.C.Chooser.told l.initial.chooser) (g.C.Chooser.told l.chooser);
  in_round : g.C.Chooser.in_round l.initial.chooser ≡ false → g.C.Chooser.in_round l.chooser ≡ false;
  home : g.C.Chooser.home l.chooser ≡ g.C.Chooser.home l.initial.chooser;
}
