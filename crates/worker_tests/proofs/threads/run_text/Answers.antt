use Rattle.trace_text.proofs.Runnable.{few_attaches, fits_accepted}
use Rattle.worker_tests.proofs.threads.run_text.Goals as goal

pub run_trace-outcome-requires-clause-attaches : goal.run_trace-outcome-requires-clause-attaches
run_trace-outcome-requires-clause-attaches g c κs within = few_attaches c.trace_of-trace.result c.trace_of-trace.ensures.fits.calls.1

pub run_trace-outcome-requires-clause-accepted : goal.run_trace-outcome-requires-clause-accepted
run_trace-outcome-requires-clause-accepted g c κs within = fits_accepted c.trace_of-trace.result c.trace_of-trace.ensures.fits

pub run_copies-outcome-requires-clause-attaches : goal.run_copies-outcome-requires-clause-attaches
run_copies-outcome-requires-clause-attaches g c κs within = few_attaches c.trace_of-trace.result c.trace_of-trace.ensures.fits.calls.1

pub run_copies-outcome-requires-clause-accepted : goal.run_copies-outcome-requires-clause-accepted
run_copies-outcome-requires-clause-accepted g c κs within = fits_accepted c.trace_of-trace.result c.trace_of-trace.ensures.fits

pub run_shards-outcome-requires-clause-attaches : goal.run_shards-outcome-requires-clause-attaches
run_shards-outcome-requires-clause-attaches g c κs within = few_attaches c.trace_of-trace.result c.trace_of-trace.ensures.fits.calls.1

pub run_shards-outcome-requires-clause-accepted : goal.run_shards-outcome-requires-clause-accepted
run_shards-outcome-requires-clause-accepted g c κs within = fits_accepted c.trace_of-trace.result c.trace_of-trace.ensures.fits
