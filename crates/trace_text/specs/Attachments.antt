-- The policies that a trace attaches, as versions 1, 2 and on.
use Rattle.std.specs.Prelude.{ℕ, ◌+◌, List, [], ◌∷◌}
use Rattle.std.specs.List.{flat_map}
use Rattle.trace_text.specs.declared.trace.TraceAct.{TraceAct}
use Rattle.trace_text.specs.declared.trace.TraceAct.TheVariants as does
use Rattle.trace_text.specs.declared.trace.TraceCall.{TraceCall}
use Rattle.trace_text.specs.declared.trace.Trace.{Trace}

-- the policy that is attached, by its place among those of the trace
abbrev pub attached_by : TraceAct → List ℕ
attached_by (does.Dir call) = []
attached_by (does.Attach policy) = policy ∷ []

-- the policies attached, in order; only worker 0 attaches
abbrev pub attached_in : List TraceCall → List ℕ
attached_in calls = flat_map (λ c. attached_by c.act) calls

-- each with its version, which rises by one from each to the next
abbrev pub versions_from : ℕ → List ℕ → List (ℕ × ℕ)
versions_from version [] = []
versions_from version (policy ∷ policies) = (version, policy) ∷ versions_from (version + 1) policies

-- the policy that is current at the beginning is version 0
abbrev pub attaches_of : Trace → List (ℕ × ℕ)
attaches_of t = versions_from 1 (attached_in t.calls.items)
