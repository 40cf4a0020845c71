use Rattle.std.proofs.Common.{Ok, refl, subst}
use Rattle.trace_text.specs.Grammar.{ReadsTrace}
use Rattle.trace_text.specs.Traces.{document_of}
use Rattle.syncord_replay.proofs.Runs.{fits_runnable}
use Rattle.syncord_rounds.proofs.run.replayed_in_rounds.Goals as goal

pub told_of-requires-clause-trace : goal.told_of-requires-clause-trace
told_of-requires-clause-trace g c = λ κs outlive. fits_runnable c.in-Ok.trace c.in-Ok.ensures.within c.in-Ok.ensures.found.1

pub returns-in-Ok-told_of-clause-report : goal.returns-in-Ok-told_of-clause-report
returns-in-Ok-told_of-clause-report g c =
    let t = c.in-Ok.trace in
    record {
      document = document_of t;
      read = subst (λ bytes. ReadsTrace bytes (Ok (document_of t))) c.deref.ensures.value c.in-Ok.ensures.exact;
      trace = t;
      is_trace = record { says = refl; within = c.in-Ok.ensures.within; rising = c.in-Ok.ensures.rising; named = c.in-Ok.ensures.named };
      told = c.in-Ok-told_of.ensures;
    }
