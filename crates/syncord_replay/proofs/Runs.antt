-- Which traces may be run: those that are read, and those that a seed makes.
use Rattle.std.proofs.Common.{◌≡◌, ℕ, ◌%◌, ◌≤◌, sym, ap, subst, arith}
use Rattle.std.specs.List.{AllByRecursion}
use Rattle.policy_text.specs.Accepted.{AcceptsSource}
use Rattle.trace_text.specs.declared.trace.Trace.{Trace}
use Rattle.trace_text.specs.Document.{Document}
use Rattle.trace_text.specs.Generator.{states, generated}
use Rattle.trace_text.specs.Limits.{Fits}
use Rattle.trace_text.specs.Lines.{attach_count}
use Rattle.trace_text.specs.Traces.{document_of, IsWithin}
use Rattle.trace_text.proofs.Runnable.{few_attaches, all_accepted, fits_accepted}
use Rattle.syncord_replay.specs.Runnable.{IsRunnable}
use Rattle.syncord_replay.proofs.SocketAccepted.{socket_accepted}
use Rattle.syncord_replay.proofs.GeneratedRuns.{drawn_attaches}

-- a trace that was read
pub fits_runnable : (t : Trace) → IsWithin t → Fits (document_of t) → IsRunnable t
fits_runnable t within fits = record {
  within = within;
  attaches = few_attaches t fits.calls.1;
  accepted = fits_accepted t fits;
}

-- a trace that a seed makes
pub generated_runnable : (t : Trace) (seed workers calls : ℕ) → IsWithin t → document_of t ≡ generated seed workers calls → calls ≤ 65000 → IsRunnable t
generated_runnable t seed workers calls within is few =
    let d : Document = generated seed workers calls in
    let drawn = drawn_attaches workers 0 (seed % states) calls in
    let same : attach_count (document_of t).calls ≡ attach_count d.calls = ap (λ (e : Document). attach_count e.calls) is in
    record {
      within = within;
      attaches = few_attaches t (omega (arith, same, drawn, few));
      accepted = all_accepted t.profile t.policies.items
          (subst (λ (e : Document). AllByRecursion (λ p. AcceptsSource e.profile p.source) e.policies) (sym is) ((socket_accepted, tt), ((tt, tt), tt)));
    }
