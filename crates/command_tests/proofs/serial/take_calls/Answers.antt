use Rattle.std.proofs.Common.{List, map, sym, subst, arith}
use Rattle.std.proofs.lemmas.List.{take_more}
use Rattle.dir_table.specs.Numbers.{state_numbers}
use Rattle.trace_text.specs.declared.trace.TraceCall.{TraceCall}
use Rattle.trace_text.specs.Report.{done_of}
use Rattle.syncord_replay.specs.Serial.{Follows}
use Rattle.command_tests.proofs.serial.take_calls.Goals as goal

pub loop-call-preserved : goal.loop-call-preserved
loop-call-preserved c = record {
  follows = subst (λ (cs : List TraceCall). Follows (state_numbers c.args.dir.now) cs (map done_of c.take_call.new.history.items) (state_numbers c.take_call.new.dir))
      (sym (take_more c.args.calls.now c.loop-call.call-index _ (omega arith)))
      (c.in_ok-take_call.ensures.follows _ _ c.loop-call.invariant.follows);
  left = omega (arith, c.in_ok-take_call.ensures.left, c.loop-call.invariant.left);
}
