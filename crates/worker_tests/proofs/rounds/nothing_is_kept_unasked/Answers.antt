use Rattle.trace_text.proofs.Runnable.{few_attaches, fits_accepted}
use Rattle.worker_tests.proofs.rounds.nothing_is_kept_unasked.Goals as goal

pub run_trace-requires-clause-attaches : goal.run_trace-requires-clause-attaches
run_trace-requires-clause-attaches g c κs = few_attaches c.trace_of-trace.result c.trace_of-trace.ensures.fits.calls.1

pub run_trace-requires-clause-accepted : goal.run_trace-requires-clause-accepted
run_trace-requires-clause-accepted g c κs = fits_accepted c.trace_of-trace.result c.trace_of-trace.ensures.fits
