-- Paths through a program, and the kinds of the registers along them.
use Rattle.std.specs.Prelude.{◌≡◌, ◌<◌, ℕ, pos, List, [], ◌∷◌, length, Contains}
use Rattle.bpf_isa.specs.declared.insn.Insn.{Insn}
use Rattle.bpf_isa.specs.Flow.{insn_at, edges}
use Rattle.bpf_verifier.specs.declared.kind.Kind.{Kind}
use Rattle.bpf_verifier.specs.Kinds.{kind_at, kinds_at_start, kinds_after}

-- the instruction of this slot leads to that one
abbrev pub Leads : Insn → ℕ → ℕ → Type 0
Leads insn slot to = Contains (edges slot insn) (pos to)

-- an edge that leads forward and stays inside
pub record Edge (insns : List Insn) (slot to : ℕ) : Type 0 where
  pub leads : Leads (insn_at insns slot) slot to
  pub forward : slot < to
  pub inside : to < length insns

-- a list of slots along such edges, its last slot first, from slot 0
abbrev pub IsPath : List Insn → List ℕ → Type 0
IsPath insns [] = ⊥
IsPath insns (slot ∷ []) = slot ≡ 0
IsPath insns (to ∷ slot ∷ path) = IsPath insns (slot ∷ path) × Edge insns slot to

-- the kinds of the registers when such a list has been run up to its last slot
abbrev pub kinds_along : List Insn → List ℕ → List Kind
kinds_along insns [] = kinds_at_start
kinds_along insns (slot ∷ []) = kinds_at_start
kinds_along insns (to ∷ slot ∷ path) = kinds_after (insn_at insns slot) (kinds_along insns (slot ∷ path))

-- a path ends at the slot
abbrev pub IsReached : List Insn → ℕ → Type 0
IsReached insns slot = (path : List ℕ) × IsPath insns (slot ∷ path)

-- all paths to the slot give the register this kind
abbrev pub HasKind : List Insn → ℕ → ℕ → Kind → Type 0
HasKind insns slot reg kind = (path : List ℕ) → IsPath insns (slot ∷ path) → kind_at (kinds_along insns (slot ∷ path)) reg ≡ kind
