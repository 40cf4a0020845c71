-- What C is told of a policy.
use Rattle.std.specs.Prelude.{◌≡◌, Result, Ok, Err}
use Rattle.bpf_isa.specs.declared.insn.Profile.{Profile}
use Rattle.policy_source.specs.Source.{SourceModel}
use Rattle.shfl_policy.specs.declared.error.LoadError.{LoadError}
use Rattle.shfl_policy.specs.Loading.{IsLoadError}
use Rattle.shfl_ticket.specs.declared.told.ShflVerdict.{ShflVerdict}
use Rattle.shfl_ticket.specs.Told.{verdict_told}
use Rattle.shfl_seats.specs.Tickets.{TicketModel}
use Rattle.shfl_seats.specs.Policies.{Attaches}

-- a policy is attached, or refused for its first fault, or there is no memory; and then nothing changes
abbrev pub Decides : Profile → SourceModel → TicketModel → Result (Unit {0}) LoadError → TicketModel → Type 0
Decides profile source old (Ok done) new = Attaches profile source old new
Decides profile source old (Err e) new = IsLoadError profile source e × (new ≡ old)

-- the policy of this source was attached to the seat, or refused and nothing changed, and the verdict tells which
pub record IsVerdict (profile : Profile) (source : SourceModel) (old : TicketModel) (verdict : ShflVerdict) (new : TicketModel) : Type 0 where
  pub outcome : Result (Unit {0}) LoadError
  pub told : verdict ≡ verdict_told outcome
  pub decided : Decides profile source old outcome new

-- the profile that was named isn't there
abbrev pub no_such_profile : ShflVerdict
no_such_profile = record { slot = 0; fault = 254; hook = 0; register = 0 }
