-- Lists that decoding can give.
use Rattle.std.specs.Prelude.{◌≡◌, ◌≢◌, ℕ, ℤ, pos, ◌+◌, ◌<◌, ◌≤◌, List, length, Bool, true, false, ◌||◌, ◌==◌, Some, IsTrue, FitsSigned}
use Rattle.std.specs.Int.{w16, w32}
use Rattle.bpf_isa.specs.declared.insn.Insn.{Insn}
use Rattle.bpf_isa.specs.declared.insn.Insn.TheVariants as insn
use Rattle.bpf_isa.specs.declared.insn.Operand.{Operand}
use Rattle.bpf_isa.specs.declared.insn.Operand.TheVariants as operand
use Rattle.bpf_isa.specs.declared.insn.Profile.{Profile}
use Rattle.bpf_isa.specs.declared.insn.Profile.TheVariants as profile
use Rattle.bpf_isa.specs.declared.insn.Size.TheVariants as size
use Rattle.bpf_isa.specs.declared.insn.Width.{Width}
use Rattle.bpf_isa.specs.declared.insn.Width.TheVariants as width
use Rattle.bpf_isa.specs.Flow.{insn_at, is_half, is_wide, jump_offset, target}

-- the registers are 0 to 9, and numbers are those of 32 bits
abbrev pub HasOperand : Operand → Type 0
HasOperand (operand.Reg register) = register ≤ 9
HasOperand (operand.Imm imm) = FitsSigned w32 imm

-- a move extends the sign of 8 or 16 bits, and at width 64 also of 32
abbrev pub is_extended : Width → ℕ → Bool
is_extended width.W32 bits = (bits == 8) || (bits == 16)
is_extended width.W64 bits = (bits == 8) || (bits == 16) || (bits == 32)

-- the fields of an instruction are in their ranges
abbrev pub HasFields : Insn → Type 0
HasFields (insn.Alu w op dst src) = (dst ≤ 9) × HasOperand src
HasFields (insn.Neg w dst) = dst ≤ 9
HasFields (insn.Load s dst src off) = (dst ≤ 9) × (src ≤ 9) × FitsSigned w16 off
HasFields (insn.Wide dst low high) = (dst ≤ 9) × FitsSigned w32 low × FitsSigned w32 high
HasFields insn.Half = Unit {0}
HasFields (insn.Goto off) = FitsSigned w16 off
HasFields (insn.GotoLong off) = FitsSigned w32 off
HasFields (insn.Jump w c dst src off) = (dst ≤ 9) × HasOperand src × FitsSigned w16 off
HasFields insn.Exit = Unit {0}
HasFields (insn.LoadSigned s dst src off) = (s ≢ size.DW) × (dst ≤ 9) × (src ≤ 9) × FitsSigned w16 off
HasFields (insn.MovSigned w bits dst src) = IsTrue (is_extended w bits) × (dst ≤ 9) × (src ≤ 9)
HasFields (insn.Swap o bits dst) = IsTrue ((bits == 16) || (bits == 32) || (bits == 64)) × (dst ≤ 9)

-- the profile has the instruction
abbrev pub has : Profile → Insn → Bool
has profile.One (insn.LoadSigned s dst src off) = false
has profile.One (insn.MovSigned w bits dst src) = false
has profile.One (insn.Swap o bits dst) = false
has p x = true

-- a list that decoding can give in some profile
pub record IsWellFormed (insns : List Insn) : Type 0 where
  -- one slot at least, and 512 at most
  pub some : 0 < length insns
  pub few : length insns ≤ 512
  pub fields : (slot : ℕ) → slot < length insns → HasFields (insn_at insns slot)
  -- a second half stands behind each wide load, and nowhere else
  pub first : is_half (insn_at insns 0) ≡ false
  pub halves : (slot : ℕ) → slot + 1 < length insns → is_half (insn_at insns (slot + 1)) ≡ is_wide (insn_at insns slot)
  pub last : (slot : ℕ) → slot + 1 ≡ length insns → is_wide (insn_at insns slot) ≡ false
  -- no jump leads into a second half
  pub targets : (slot place : ℕ) (off : ℤ) → slot < length insns → jump_offset (insn_at insns slot) ≡ Some off → target slot off ≡ pos place
      → place < length insns → is_half (insn_at insns place) ≡ false

-- every instruction is one of the profile
abbrev pub IsOf : Profile → List Insn → Type 0
IsOf p insns = (slot : ℕ) → slot < length insns → has p (insn_at insns slot) ≡ true
