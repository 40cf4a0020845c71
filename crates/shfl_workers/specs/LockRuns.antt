-- How the locks of a trace's directory ran, and what their holds made.
use Rattle.std.specs.Prelude.{ℕ, ◌<◌, List, [], filter, map, not}
use Rattle.dir_table.specs.Meanings.{is_read}
use Rattle.dir_table.specs.Numbers.{call_numbers, reply_numbers}
use Rattle.shfl_line.specs.declared.events.Form.TheVariants.{Park, RwPark}
use Rattle.shfl_table.specs.declared.kept.Action.{Action}
use Rattle.shfl_table.specs.MadeInHolds.{RanAs}
use Rattle.trace_text.specs.declared.trace.Trace.{Trace}
use Rattle.trace_text.specs.Report.{Done}
use Rattle.shfl_workers.specs.Prevailing.{DoWritesPrevail}

-- an entry of a history by the numbers that stand for its call and its reply
abbrev pub action_of : Done → Action
action_of e = record { worker = e.worker; call = call_numbers e.call; reply = reply_numbers e.reply }

abbrev pub writes_of : List Done → List Done
writes_of history = filter (λ e. not (is_read e.call)) history

-- The lock of one directory, whose waiters sleep, opened with the attributes of the trace's workers, and came to rest by one run
-- with batches of up to 1,024. Its holds made the calls of the history, in this order.
abbrev pub RanOnOne : Trace → List Done → Type 0
RanOnOne t history = RanAs (record { limit = 1024; form = Park }) t.workers.items (map action_of history)

-- So did such a lock of a copy for each worker, which readers share. Its writers' holds made the writes of the history, in this order.
abbrev pub RanOnCopies : Trace → List Done → Type 0
RanOnCopies t history = RanAs (record { limit = 1024; form = RwPark }) t.workers.items (map action_of (writes_of history))

-- on one directory where writes prevail, and else on copies
pub record RanByThreads (t : Trace) (history : List Done) : Type 0 where
  pub on_one : DoWritesPrevail t → RanOnOne t history
  pub on_copies : ¬ DoWritesPrevail t → RanOnCopies t history

-- So did the lock of each of 64 directories. Nothing is kept behind it but names: the one journal has the calls.
abbrev pub RanByShards : Trace → List Done → Type 0
RanByShards t history = (dir : ℕ) → dir < 64 → RanAs (record { limit = 1024; form = Park }) t.workers.items []
