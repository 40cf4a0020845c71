-- The lock that a trace is run on, and how it ran.
use Rattle.std.specs.Prelude.{◌≡◌, ℕ, List, Option, Some, None, codes}
use Rattle.trace_text.specs.declared.trace.Trace.{Trace}
use Rattle.trace_text.specs.Report.{Done}
use Rattle.shfl_workers.specs.LockRuns.{RanOnOne, RanOnCopies, RanByShards}
use Rattle.shfl_workers.specs.Prevailing.{DoWritesPrevail}
use Rattle.syncord_rounds.specs.declared.lock.Lock.{Lock}
use Rattle.syncord_rounds.specs.declared.lock.Lock.TheVariants.{One, Copies, Shards}

abbrev pub lock_word : Lock → List ℕ
lock_word One = codes "one"
lock_word Copies = codes "copies"
lock_word Shards = codes "shards"

-- the one that is wanted; where none is named, one directory where writes prevail, else copies
abbrev pub IsLockFor : Option Lock → Trace → Lock → Type 0
IsLockFor (Some wanted) t lock = lock ≡ wanted
IsLockFor None t One = DoWritesPrevail t
IsLockFor None t Copies = ¬ DoWritesPrevail t
IsLockFor None t Shards = ⊥

-- a run of the trace on a lock of this kind came to this history
abbrev pub RanOn : Lock → Trace → List Done → Type 0
RanOn One t history = RanOnOne t history
RanOn Copies t history = RanOnCopies t history
RanOn Shards t history = RanByShards t history
