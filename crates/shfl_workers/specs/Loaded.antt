-- The policies of a trace, loaded.
use Rattle.std.specs.Prelude.{◌≡◌, List, Some, slice_get}
use Rattle.bpf_isa.specs.declared.insn.Profile.{Profile}
use Rattle.shfl_policy.specs.Loading.{IsLoaded}
use Rattle.shfl_policy.specs.Policies.{PolicyModel}
use Rattle.trace_text.specs.declared.trace.NamedSource.{NamedSource}
use Rattle.shfl_workers.specs.Passes.{AtEachPlace}

-- each policy is the declared one of its place, loaded under that number
abbrev pub AreLoaded : Profile → List NamedSource → List PolicyModel → Type 0
AreLoaded profile declared policies =
    AtEachPlace (λ k p. (d : NamedSource) → slice_get declared k ≡ Some d → IsLoaded k profile d.source p) policies
