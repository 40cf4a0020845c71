use Rattle.std.proofs.Common.{Ok, refl, subst}
use Rattle.trace_text.specs.Grammar.{ReadsTrace}
use Rattle.trace_text.specs.Traces.{document_of}
use Rattle.syncord_replay.proofs.Runs.{fits_runnable}
use Rattle.syncord_replay.proofs.replay.ReplayingWork.report.Goals as goal

pub report_of-requires-clause-trace : goal.report_of-requires-clause-trace
report_of-requires-clause-trace g c = fits_runnable c.in-Ok.trace c.in-Ok.ensures.within c.in-Ok.ensures.found.1

pub returns-in-Ok-report_of-clause-report : goal.returns-in-Ok-report_of-clause-report
returns-in-Ok-report_of-clause-report g c =
    let t = c.in-Ok.trace in
    record {
      document = document_of t;
      read = subst (λ bytes. ReadsTrace bytes (Ok (document_of t))) c.deref.ensures.value c.in-Ok.ensures.exact;
      trace = t;
      is_trace = record { says = refl; within = c.in-Ok.ensures.within; rising = c.in-Ok.ensures.rising; named = c.in-Ok.ensures.named };
      is_report = c.in-Ok-report_of.ensures;
    }
