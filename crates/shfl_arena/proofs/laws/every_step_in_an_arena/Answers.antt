use Rattle.shfl_arena.proofs.StepLaws.{arena-step-law}
use Rattle.shfl_arena.proofs.AttemptLaws.{arena-attempt-law}
use Rattle.shfl_arena.proofs.ArenaAttributes.{arena-attribute-law}
use Rattle.shfl_arena.proofs.ArenaStealing.{arena-disable-law}
use Rattle.shfl_arena.proofs.laws.every_step_in_an_arena.Goals as goal

pub returns : goal.returns
returns c = record { steps = arena-step-law; attempts = arena-attempt-law; attributes = arena-attribute-law; disabling = arena-disable-law }
