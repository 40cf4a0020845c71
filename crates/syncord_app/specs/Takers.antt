-- How takers ran the calls of a trace.
use Rattle.dir_table.specs.Meanings.{Admits}
use Rattle.dir_table.specs.Numbers.{call_numbers, reply_numbers, state_numbers}
use Rattle.pool_text.specs.PoolDocuments.{calls_of}
use Rattle.call_pool.specs.Runs.{IsLeftBy}
use Rattle.trace_text.specs.declared.trace.Trace.{Trace}
use Rattle.trace_text.specs.Histories.{beginning}
use Rattle.syncord_pool.specs.Runs.{Pooled}

-- a pool of the trace's calls on an empty directory, with a pass for each of the trace's workers, left this history as it was closed
abbrev pub RanByTakers : Trace → Pooled → Type 0
RanByTakers t history = IsLeftBy call_numbers reply_numbers Admits (state_numbers (beginning t)) t.workers.items (calls_of t.calls.items) history
