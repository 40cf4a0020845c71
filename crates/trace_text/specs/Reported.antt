-- What is reported of values in memory.
use Rattle.std.specs.Prelude.{ℕ, ◌-◌, List, length, map}
use Rattle.std.specs.List.{count_by}
use Rattle.std.specs.FinMap.{entries}
use Rattle.dir_table.specs.declared.calls.DirCall.{DirCall}
use Rattle.dir_table.specs.declared.calls.DirReply.{DirReply}
use Rattle.dir_table.specs.Directory.{Directory}
use Rattle.hist_log.specs.declared.entry.Entry.{Entry}
use Rattle.trace_text.specs.declared.trace.Trace.{Trace}
use Rattle.trace_text.specs.Report.{Replay, Bulk, done_of}
use Rattle.trace_text.specs.Traces.{names_of, policy_names_of, is_attachment}

abbrev pub replay_of : {O : Type 0} → Trace → List (Entry O DirCall DirReply) → Directory → List (ℕ × ℕ) → Replay
replay_of t history dir attaches = record {
  version = t.version;
  profile = t.profile;
  workers = length t.workers.items;
  names = names_of t;
  policies = policy_names_of t;
  history = map done_of history;
  rows = entries dir.names;
  attaches = attaches;
}

abbrev pub attachments : Trace → ℕ
attachments t = count_by (λ c. is_attachment c.act) t.calls.items

abbrev pub bulk_of : {O : Type 0} → ℕ → Trace → List (Entry O DirCall DirReply) → Directory → Bulk
bulk_of seed t history dir = record {
  seed = seed;
  workers = length t.workers.items;
  calls = length t.calls.items - attachments t;
  attaches = attachments t;
  replies = map (λ e. e.reply) history;
  left = length (entries dir.names);
}
