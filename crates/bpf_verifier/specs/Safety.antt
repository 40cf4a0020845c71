-- What acceptance is for: no run of an accepted program can go wrong.
use Rattle.std.specs.Prelude.{◌≡◌, ◌≢◌, ◌<◌, ℕ, ℤ, pos, List, [], ◌∷◌, length, true, false, Some, Contains}
use Rattle.bpf_isa.specs.declared.insn.Insn.{Insn}
use Rattle.bpf_verifier.specs.declared.kind.Kind.{Kind}
use Rattle.bpf_verifier.specs.declared.kind.Kind.TheVariants.{Absent, Number, Context}
use Rattle.bpf_isa.specs.Flow.{insn_at, is_half, edges}
use Rattle.bpf_isa.specs.Operands.{reads}
use Rattle.bpf_verifier.specs.Kinds.{kind_at, takes_pointer, base_of, loads_outside}
use Rattle.bpf_verifier.specs.Paths.{Leads, kinds_along}

-- a way that a run can take, its last slot first: any edges at all, from slot 0
abbrev pub IsWay : List Insn → List ℕ → Type 0
IsWay insns [] = ⊥
IsWay insns (slot ∷ []) = slot ≡ 0
IsWay insns (to ∷ slot ∷ way) = IsWay insns (slot ∷ way) × Leads (insn_at insns slot) slot to

-- the instruction of the slot is safe to run where the registers have these kinds
pub record IsSafe (insns : List Insn) (slot : ℕ) (kinds : List Kind) : Type 0 where
  -- the slot is the program's, and begins an instruction
  pub inside : slot < length insns
  pub begins : is_half (insn_at insns slot) ≡ false
  -- each register that is read has a value
  pub values : (reg : ℕ) → reads (insn_at insns slot) reg ≡ true → kind_at kinds reg ≢ Absent
  -- the pointer is read only to copy it, or as the base of a load
  pub numbers : (reg : ℕ) → reads (insn_at insns slot) reg ≡ true → takes_pointer (insn_at insns slot) ≡ false → kind_at kinds reg ≡ Number
  -- a load has the pointer for its base, and reads within the context
  pub bases : (reg : ℕ) → base_of (insn_at insns slot) ≡ Some reg → kind_at kinds reg ≡ Context
  pub loads : loads_outside (insn_at insns slot) ≡ false
  -- wherever the run goes on, it is in a later slot of the program
  pub edges : (place : ℤ) → Contains (edges slot (insn_at insns slot)) place → (to : ℕ) × (place ≡ pos to) × (slot < to) × (to < length insns)

-- whatever way a run takes, each slot that it comes to is safe to run
abbrev pub RunsSafely : List Insn → Type 0
RunsSafely insns = (slot : ℕ) (way : List ℕ) → IsWay insns (slot ∷ way) → IsSafe insns slot (kinds_along insns (slot ∷ way))
