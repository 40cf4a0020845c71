-- What `asm` says of a text.
use Rattle.std.specs.Prelude.{◌≡◌, ℕ, List, Ok, Err}
use Rattle.bpf_isa.specs.declared.insn.Insn.{Insn}
use Rattle.bpf_isa.specs.declared.insn.Profile.{Profile}
use Rattle.bpf_isa.specs.Encoding.{encoding}
use Rattle.bpf_asm.specs.Assembly.{assembly}
use Rattle.bpf_asm.specs.declared.error.AsmError.TheVariants.{Format}
use Rattle.syncord_endings.specs.declared.ending.Refusal.{Refusal}
use Rattle.syncord_endings.specs.declared.ending.Refusal.TheVariants.{Line}
use Rattle.syncord_asm.specs.Slots.{slot_lines}

-- the text says these instructions, and the report has the slots of their encoding
pub record Reports (profile : Profile) (text report : List ℕ) : Type 0 where
  pub insns : List Insn
  pub said : assembly profile text ≡ Ok insns
  pub told : report ≡ slot_lines (encoding insns)

-- the text says no program; told are its first bad line and the lowest fault on it
pub record Refuses (profile : Profile) (text : List ℕ) (refusal : Refusal) : Type 0 where
  pub line : ℕ
  pub what : ℕ
  pub found : assembly profile text ≡ Err (Format line what)
  pub told : refusal ≡ Line line what
