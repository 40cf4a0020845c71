use Rattle.std.proofs.Common.{refl}
use Rattle.syncord_pool.specs.Runs.{MayRun}
use Rattle.trace_text.proofs.Runnable.{fits_accepted}
use Rattle.worker_tests.proofs.takers.run_text.Goals as goal

pub run_by_takers-requires-after_bounds : goal.run_by_takers-requires-after_bounds
run_by_takers-requires-after_bounds g c κs within =
    let may : MayRun c.in_ok-trace.trace = record {
      within = c.in_ok-trace.ensures.within;
      few = c.in-None.ensures.few refl;
      accepted = fits_accepted c.in_ok-trace.trace c.in_ok-trace.ensures.found.1;
    } in may
