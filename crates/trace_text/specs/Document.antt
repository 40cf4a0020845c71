-- What a trace says, each name spelled out.
use Rattle.std.specs.Prelude.{ℕ, List, Option}
use Rattle.shfl_line.specs.declared.words.Attr.{Attr}
use Rattle.bpf_isa.specs.declared.insn.Profile.{Profile}
use Rattle.policy_source.specs.Source.{SourceModel}

-- what a worker does: a call on the directory, or the attachment of a policy
pub data Act : Type 0 where
  make : ℕ → List ℕ → Act
  drop_name : ℕ → List ℕ → Act
  rename : ℕ → List ℕ → ℕ → List ℕ → Act
  find : ℕ → List ℕ → Act
  count : ℕ → Act
  next : ℕ → Option (List ℕ) → Act
  attach : List ℕ → Act

-- who does what
pub record CallLine : Type 0 where
  pub worker : ℕ
  pub act : Act

-- a named policy, with a program for each of the two questions or none
pub record PolicyLine : Type 0 where
  pub name : List ℕ
  pub source : SourceModel

pub record Document : Type 0 where
  pub version : ℕ
  pub profile : Profile
  pub workers : List Attr
  pub policies : List PolicyLine
  pub calls : List CallLine
