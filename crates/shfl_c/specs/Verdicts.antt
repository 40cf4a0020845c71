-- What C is told of a policy.
use Rattle.std.specs.Prelude.{◌≡◌, Result}
use Rattle.bpf_isa.specs.declared.insn.Profile.{Profile}
use Rattle.policy_source.specs.Source.{SourceModel}
use Rattle.shfl_policy.specs.declared.error.LoadError.{LoadError}
use Rattle.shfl_ticket.specs.declared.told.ShflVerdict.{ShflVerdict}
use Rattle.shfl_ticket.specs.Tickets.{TicketModel}
use Rattle.shfl_ticket.specs.Attached.{Decides}
use Rattle.shfl_ticket.specs.Told.{verdict_told}

-- the policy of this source was attached to the pass, or refused and nothing changed, and the verdict tells which
pub record IsVerdict (profile : Profile) (source : SourceModel) (old : TicketModel) (verdict : ShflVerdict) (new : TicketModel) : Type 0 where
  pub outcome : Result (Unit {0}) LoadError
  pub told : verdict ≡ verdict_told outcome
  pub decided : Decides profile source old outcome new
