use Rattle.std.proofs.Common.{map}
use Rattle.trace_text.specs.Report.{done_of}
use Rattle.syncord_replay.proofs.Runs.{generated_runnable}
use Rattle.syncord_replay.proofs.Mapped.{map-map}
use Rattle.syncord_replay.proofs.bulk.summary_of.Goals as goal

pub runner-requires : goal.runner-requires
runner-requires g c = c.requires.takes _ _ (generated_runnable c.in_ok-trace.trace c.args.seed c.args.workers c.args.calls c.in_ok-trace.ensures.within c.in_ok-trace.ensures.exact c.requires.few_calls)

pub returns : goal.returns
returns g c =
    let run = c.requires.leaves _ _ _ c.in_ok-outcome.ensures in
    record {
      trace = c.in_ok-trace.trace;
      is_trace = record {
        says = c.in_ok-trace.ensures.exact;
        within = c.in_ok-trace.ensures.within;
        rising = c.in_ok-trace.ensures.rising;
        named = c.in_ok-trace.ensures.named;
      };
      history = map done_of c.in_ok-outcome.outcome.history.items;
      final = c.in_ok-outcome.outcome.dir;
      is_history = run.history;
      ran = run.ran;
      told = rw (map-map (λ e. e.reply) done_of c.in_ok-outcome.outcome.history.items) (rw c.as_slice.ensures.value at c.in_ok-text.ensures);
    }
