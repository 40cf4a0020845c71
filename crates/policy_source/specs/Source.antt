-- The bytes of a policy's programs.
use Rattle.std.specs.Prelude.{ℕ, List, Option}

-- each program's bytes, where the policy has it
pub record SourceModel : Type 0 where
  pub should : Option (List ℕ)
  pub skip : Option (List ℕ)
