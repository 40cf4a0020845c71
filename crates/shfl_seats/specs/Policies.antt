-- A policy attached to a seat, from the bytes of its programs.
use Rattle.std.specs.Prelude.{◌≡◌, Some}
use Rattle.bpf_isa.specs.declared.insn.Profile.{Profile}
use Rattle.policy_source.specs.Source.{SourceModel}
use Rattle.shfl_policy.specs.Loading.{IsLoaded}
use Rattle.shfl_policy.specs.Policies.{PolicyModel}
use Rattle.shfl_seats.specs.Tickets.{TicketModel}

-- the policy of this source goes with the seat, and nothing else of it changed
pub record Attaches (profile : Profile) (source : SourceModel) (old new : TicketModel) : Type 0 where
  pub policy : PolicyModel
  pub loaded : IsLoaded 0 profile source policy
  pub row : new ≡ record old { policy = Some policy }
