-- What `disasm` says of hexadecimal digits. It refuses those that write no program.
use Rattle.std.specs.Prelude.{◌≡◌, ℕ, List}
use Rattle.bpf_isa.specs.declared.insn.Insn.{Insn}
use Rattle.bpf_isa.specs.declared.insn.Profile.{Profile}
use Rattle.bpf_asm.specs.Disassembly.{disassembly}
use Rattle.syncord_verify.specs.Verdicts.{Writes, IsNoProgram}

-- the digits write bytes that decode to these instructions, and the report is their text
pub record Reports (profile : Profile) (digits report : List ℕ) : Type 0 where
  pub insns : List Insn
  pub written : Writes profile digits insns
  pub told : report ≡ disassembly insns
