-- A setup as contracts see it.
use Rattle.std.specs.Prelude.{◌≤◌, ◌<◌, ℕ, ◌+◌, List, length}
use Rattle.shfl_line.specs.declared.words.Attr.{Attr}
use Rattle.sim_text.specs.declared.setup.Machine.{Machine}
use Rattle.sim_text.specs.declared.setup.Load.{Load}
use Rattle.sim_text.specs.declared.setup.Rule.{Rule}

-- a policy to try, and its name
pub record CandidateModel : Type 0 where
  pub name : List ℕ
  pub rule : Rule

-- the lock and the machine, the passes' work, the policies and the passes
pub record SetupModel : Type 0 where
  pub machine : Machine
  pub load : Load
  pub policies : List CandidateModel
  pub passes : List Attr

-- a setup within the limits
pub record IsWithin (s : SetupModel) : Type 0 where
  pub limit : (0 < s.machine.limit) × (s.machine.limit ≤ 1024)
  pub lines : s.load.work.lines ≤ 64
  pub seeds : (0 < s.load.seeds.count) × (s.load.seeds.first + s.load.seeds.count ≤ 18446744073709551616)
  pub policies : (0 < length s.policies) × (length s.policies ≤ 16)
  pub passes : (0 < length s.passes) × (length s.passes ≤ 1024)
