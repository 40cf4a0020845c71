-- What a command does with its input, its output and the error stream, and the status that it answers.
use Rattle.std.specs.Prelude.{◌≡◌, ◌⊎◌, ℕ}
use Rattle.syncord_endings.specs.Traffic.{Traffic, Failed}
use Rattle.syncord_endings.specs.Endings.{Performs}
use Rattle.shfl_workers.specs.LockRuns.{RanByThreads, RanByShards}
use Rattle.command_words.specs.declared.numbers.BulkWords.{BulkWords}
use Rattle.syncord_replay.specs.Sums.{Summarizes, Concludes}
use Rattle.syncord_line.specs.Reports as line
use Rattle.syncord_verify.specs.Verdicts as verify
use Rattle.syncord_asm.specs.Assemblies as assembly
use Rattle.syncord_asm.specs.Listings as listing
use Rattle.syncord_replay.specs.Replays as replay
use Rattle.syncord_pool.specs.Reports as pool
use Rattle.command_words.specs.declared.commands.Command.{Command}
use Rattle.command_words.specs.declared.commands.Command.TheVariants.{Line, Verify, Replay, Shards, Pool, Bulk, Assemble, Disassemble}
use Rattle.syncord_app.specs.Takers.{RanByTakers}

-- a history of the trace that these numbers make, run by threads, is summed up, or the command ends otherwise with its cause
pub record SumsUp (numbers : BulkWords) (output error : Traffic) (status : ℕ) : Type 0 where
  pub answer : Concludes (Summarizes RanByThreads numbers.seed numbers.workers numbers.calls) output error status
  pub complete : ¬ (Failed output) → (status ≡ 0) ⊎ (status ≡ 5)

-- what each command does, as the clauses of `syncord` say it one by one
abbrev pub Does : Command → (input output error : Traffic) (status : ℕ) → Type 0
Does Line input output error status = Performs line.Reports line.Refuses input output error status
Does (Verify profile) input output error status = Performs (verify.Reports profile) (verify.Refuses profile) input output error status
Does Replay input output error status = Performs (replay.Reports RanByThreads) replay.Refuses input output error status
Does Shards input output error status = Performs (replay.Reports RanByShards) replay.Refuses input output error status
Does Pool input output error status = Performs (pool.Reports RanByTakers) pool.Refuses input output error status
Does (Bulk numbers) input output error status = SumsUp numbers output error status
Does (Assemble profile) input output error status = Performs (assembly.Reports profile) (assembly.Refuses profile) input output error status
Does (Disassemble profile) input output error status = Performs (listing.Reports profile) (verify.IsNoProgram profile) input output error status
