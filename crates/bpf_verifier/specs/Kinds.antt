-- What the registers hold, as far as a verifier tells it apart, and what an instruction makes of it.
use Rattle.std.specs.Prelude.{ℕ, ℤ, pos, negsuc, ◌+◌, ◌%◌, List, [], ◌∷◌, Bool, true, false, not, ◌&&◌, ◌==◌, nat_le, Option, Some, None, slice_index_or, slice_set, if◌then◌else◌}
use Rattle.bpf_isa.specs.declared.insn.Width.{Width}
use Rattle.bpf_isa.specs.declared.insn.Width.TheVariants.{W32, W64}
use Rattle.bpf_isa.specs.declared.insn.Size.{Size}
use Rattle.bpf_isa.specs.declared.insn.AluOp.{AluOp}
use Rattle.bpf_isa.specs.declared.insn.AluOp.TheVariants.{Mov}
use Rattle.bpf_isa.specs.declared.insn.Operand.TheVariants.{Reg}
use Rattle.bpf_isa.specs.Operands.{written, byte_count}
use Rattle.bpf_isa.specs.declared.insn.Insn.{Insn}
use Rattle.bpf_isa.specs.declared.insn.Insn.TheVariants.{Alu, Load, LoadSigned}
use Rattle.bpf_verifier.specs.declared.kind.TheConstants.{CONTEXT_BYTES}
use Rattle.bpf_verifier.specs.declared.kind.Kind.{Kind}
use Rattle.bpf_verifier.specs.declared.kind.Kind.TheVariants.{Absent, Number, Context}

-- the kind of a register
abbrev pub kind_at : List Kind → ℕ → Kind
kind_at kinds reg = slice_index_or kinds reg Absent

-- at slot 0 register 1 points to the context, and no other register has a value
abbrev pub kinds_at_start : List Kind
kinds_at_start = Absent ∷ Context ∷ Absent ∷ Absent ∷ Absent ∷ Absent ∷ Absent ∷ Absent ∷ Absent ∷ Absent ∷ []

abbrev pub is_move : AluOp → Bool
is_move Mov = true
is_move _ = false

-- a move of all 64 bits
abbrev pub moves_whole : Width → AluOp → Bool
moves_whole W64 op = is_move op
moves_whole W32 op = false

-- the one register that the instruction reads may hold the pointer: the source of a 64-bit move, or the base of a load
abbrev pub takes_pointer : Insn → Bool
takes_pointer (Alu width op dst (Reg src)) = moves_whole width op
takes_pointer (Load size dst src off) = true
takes_pointer (LoadSigned size dst src off) = true
takes_pointer _ = false

-- a copy of the pointer is the pointer, and any other result is a number
abbrev pub copied : Kind → Kind
copied Context = Context
copied Number = Number
copied Absent = Number

abbrev pub result_kind : Insn → List Kind → Kind
result_kind (Alu width op dst (Reg src)) kinds = if moves_whole width op then copied (kind_at kinds src) else Number
result_kind _ kinds = Number

abbrev pub with_result : Option ℕ → Kind → List Kind → List Kind
with_result None kind kinds = kinds
with_result (Some dst) kind kinds = slice_set kinds dst kind

-- the kinds behind an instruction
abbrev pub kinds_after : Insn → List Kind → List Kind
kinds_after insn kinds = with_result (written insn) (result_kind insn kinds) kinds

-- the base register of a load
abbrev pub base_of : Insn → Option ℕ
base_of (Load size dst src off) = Some src
base_of (LoadSigned size dst src off) = Some src
base_of _ = None

-- aligned, and within the context
abbrev pub is_in_context : Size → ℤ → Bool
is_in_context size (pos off) = (off % byte_count size == 0) && nat_le (off + byte_count size) CONTEXT_BYTES
is_in_context size (negsuc off) = false

-- a load from any other place
abbrev pub loads_outside : Insn → Bool
loads_outside (Load size dst src off) = not (is_in_context size off)
loads_outside (LoadSigned size dst src off) = not (is_in_context size off)
loads_outside _ = false
