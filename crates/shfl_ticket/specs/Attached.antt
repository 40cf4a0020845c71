-- A policy attached to a pass, from the bytes of its programs.
use Rattle.std.specs.Prelude.{◌≡◌, ℕ, List, [], ◌∷◌, Option, Some, None, Result, Ok, Err}
use Rattle.bpf_isa.specs.declared.insn.Profile.{Profile}
use Rattle.policy_source.specs.Source.{SourceModel}
use Rattle.shfl_policy.specs.declared.error.LoadError.{LoadError}
use Rattle.shfl_policy.specs.Loading.{IsLoaded, IsLoadError}
use Rattle.shfl_policy.specs.Policies.{PolicyModel}
use Rattle.shfl_ticket.specs.Tickets.{TicketModel}

-- no bytes are no program
abbrev pub given : List ℕ → Option (List ℕ)
given [] = None
given (b ∷ bs) = Some (b ∷ bs)

abbrev pub source_of : List ℕ → List ℕ → SourceModel
source_of should skip = record { should = given should; skip = given skip }

-- the pass has the policy of this source, and nothing else of it changed
pub record Attaches (profile : Profile) (source : SourceModel) (old new : TicketModel) : Type 0 where
  pub policy : PolicyModel
  pub loaded : IsLoaded 0 profile source policy
  pub row : new ≡ record old { policy = Some policy }

-- a policy is attached, or refused for its first fault, or there is no memory; and then nothing changes
abbrev pub Decides : Profile → SourceModel → TicketModel → Result (Unit {0}) LoadError → TicketModel → Type 0
Decides profile source old (Ok done) new = Attaches profile source old new
Decides profile source old (Err e) new = IsLoadError profile source e × (new ≡ old)
