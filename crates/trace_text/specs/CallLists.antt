-- Calls by the places of their names and policies, while names are gathered and when these are in order.
use Rattle.std.specs.Prelude.{◌≡◌, ◌≤◌, ◌*◌, ℕ, List, length, map, Contains}
use Rattle.std.specs.List.{AllByRecursion}
use Rattle.trace_text.specs.declared.trace.NamedSource.{NamedSource}
use Rattle.trace_text.specs.declared.call_list.CallList.{CallList}
use Rattle.trace_text.specs.declared.call_list.Numbered.{Numbered}
use Rattle.trace_text.specs.Document.{CallLine}
use Rattle.trace_text.specs.Lines.{attach_count}
use Rattle.name_order.specs.Names.{AreRisingBy, SameMembers}
use Rattle.trace_text.specs.Spelled.{call_names}
use Rattle.trace_text.specs.Traces.{call_of, IsCallOf}

-- what the calls of a list say
abbrev pub list_said : List NamedSource → CallList → List CallLine
list_said policies l = map (call_of l.names (map (λ p. p.name.items) policies)) l.calls.items

-- the calls name what there is, no name is there that no call has, and the attachments are counted
pub record IsListOf (workers : ℕ) (policies : List NamedSource) (l : CallList) : Type 0 where
  pub named : AllByRecursion (IsCallOf workers (length l.names) (length policies)) l.calls.items
  pub among : AllByRecursion (Contains (call_names (list_said policies l))) l.names
  -- at most two names a call
  pub few : length l.names ≤ 2 * length l.calls.items
  pub attaches : l.attaches ≡ attach_count (list_said policies l)
  pub counted : l.attaches ≤ length l.calls.items

-- what the calls say when their names are in order
abbrev pub numbered_said : List NamedSource → Numbered → List CallLine
numbered_said policies n = map (call_of (map (λ n. n.items) n.names.items) (map (λ p. p.name.items) policies)) n.calls.items

-- the calls name what there is, and the names are those of the calls, in order, each once
pub record IsNumbered (workers : ℕ) (policies : List NamedSource) (n : Numbered) : Type 0 where
  pub named : AllByRecursion (IsCallOf workers (length n.names.items) (length policies)) n.calls.items
  pub rising : AreRisingBy (λ n. n.items) n.names.items
  pub same : SameMembers (call_names (numbered_said policies n)) (map (λ n. n.items) n.names.items)
  pub few : length n.names.items ≤ 2 * length n.calls.items
