-- A trace in memory, seen as what its text says.
use Rattle.std.specs.Prelude.{◌≡◌, ◌<◌, ◌≤◌, length, ℕ, Bool, true, false, List, map}
use Rattle.std.specs.Option.{option_map}
use Rattle.std.specs.List.{AllByRecursion}
use Rattle.name_order.specs.Names.{name_at}
use Rattle.dir_table.specs.Meanings.{IsAdmitted}
use Rattle.dir_table.specs.declared.calls.DirCall.{DirCall}
use Rattle.dir_table.specs.declared.calls.DirCall.TheVariants as call
use Rattle.trace_text.specs.declared.trace.TraceAct.{TraceAct}
use Rattle.trace_text.specs.declared.trace.TraceAct.TheVariants as does
use Rattle.trace_text.specs.declared.trace.TraceCall.{TraceCall}
use Rattle.trace_text.specs.declared.trace.NamedSource.{NamedSource}
use Rattle.trace_text.specs.declared.trace.Trace.{Trace}
use Rattle.trace_text.specs.Document.{Act, make, drop_name, rename, find, count, next, attach, CallLine, PolicyLine, Document}

-- a declared policy
abbrev pub policy_of : NamedSource → PolicyLine
policy_of p = record { name = p.name.items; source = p.source }

-- a call on the directory, its names spelled out
abbrev pub dir_act : List (List ℕ) → DirCall → Act
dir_act names (call.Make dir name) = make dir (name_at names name)
dir_act names (call.Drop dir name) = drop_name dir (name_at names name)
dir_act names (call.Rename dir name to_dir to_name) = rename dir (name_at names name) to_dir (name_at names to_name)
dir_act names (call.Find dir name) = find dir (name_at names name)
dir_act names (call.Count dir) = count dir
dir_act names (call.Next dir after) = next dir (option_map (name_at names) after)

-- what a worker does; the second list has the names of the policies
abbrev pub act_of : List (List ℕ) → List (List ℕ) → TraceAct → Act
act_of names policies (does.Dir c) = dir_act names c
act_of names policies (does.Attach k) = attach (name_at policies k)

abbrev pub call_of : List (List ℕ) → List (List ℕ) → TraceCall → CallLine
call_of names policies c = record { worker = c.worker; act = act_of names policies c.act }

abbrev pub names_of : Trace → List (List ℕ)
names_of t = map (λ n. n.items) t.names.items

abbrev pub policy_names_of : Trace → List (List ℕ)
policy_names_of t = map (λ p. p.name.items) t.policies.items

abbrev pub document_of : Trace → Document
document_of t = record {
  version = t.version;
  profile = t.profile;
  workers = t.workers.items;
  policies = map policy_of t.policies.items;
  calls = map (call_of (names_of t) (policy_names_of t)) t.calls.items;
}

abbrev pub is_attachment : TraceAct → Bool
is_attachment (does.Dir c) = false
is_attachment (does.Attach k) = true

-- the act names what there is; only worker 0 attaches
abbrev pub IsActOf : ℕ → ℕ → ℕ → TraceAct → Type 0
IsActOf names policies worker (does.Dir c) = IsAdmitted names c
IsActOf names policies worker (does.Attach k) = (k < policies) × (worker ≡ 0)

-- so does the call, of so many workers, names and policies
pub record IsCallOf (workers names policies : ℕ) (c : TraceCall) : Type 0 where
  pub worker : c.worker < workers
  pub act : IsActOf names policies c.worker c.act

-- a trace within the limits, whose calls name what it has
pub record IsWithin (t : Trace) : Type 0 where
  pub workers : (0 < length t.workers.items) × (length t.workers.items ≤ 16)
  pub policies : (0 < length t.policies.items) × (length t.policies.items ≤ 64)
  pub few : length t.calls.items ≤ 65536
  -- at most two names a call
  pub names : length t.names.items ≤ 131072
  pub calls : AllByRecursion (IsCallOf (length t.workers.items) (length t.names.items) (length t.policies.items)) t.calls.items
