-- A decoded instruction and its raw slot do the same.
use Rattle.std.proofs.Common.{◌≡◌, ◌==◌, ℕ, ℤ, List, true, false, IsTrue, refl, arith}
use Rattle.std.proofs.lemmas.Bool.Decides.{nat_tests}
use Rattle.bpf_isa.specs.declared.insn.AluOp.TheVariants as alu
use Rattle.bpf_isa.specs.declared.insn.Cond.TheVariants as condition
use Rattle.bpf_isa.specs.declared.insn.Order.TheVariants as order
use Rattle.bpf_isa.specs.declared.insn.Width.{Width}
use Rattle.bpf_isa.specs.declared.insn.Width.TheVariants as width
use Rattle.bpf_isa.specs.declared.insn.Size.TheVariants as size
use Rattle.bpf_isa.specs.declared.insn.Operand.TheVariants as operand
use Rattle.bpf_isa.specs.declared.insn.Insn.{Insn}
use Rattle.bpf_isa.specs.declared.insn.Insn.TheVariants as insn
use Rattle.bpf_isa.specs.Flow.{is_wide}
use Rattle.bpf_isa.specs.WellFormed.{HasFields, is_extended}
use Rattle.bpf_run.specs.Slots.{registers_after, flow_after}
use Rattle.bpf_run.specs.Instructions.{after, flow_of}
use Rattle.bpf_isa.proofs.Raws.{high_of, fields_of}

-- a move that extends the sign has an offset
extended-some : (w : Width) (bits : ℕ) → IsTrue (is_extended w bits) → (bits == 0) ≡ false
extended-some width.W32 bits h = grind (arith, nat_tests)
extended-some width.W64 bits h = grind (arith, nat_tests)

-- the slot behind a wide load has its upper number
pub registers_after-is : (x : Insn) (before behind : ℤ) (context regs : List ℕ) → HasFields x → (is_wide x ≡ true → behind ≡ high_of x)
    → registers_after (fields_of before x) behind context regs ≡ after x context regs
registers_after-is (insn.Alu width.W32 alu.Add dst (operand.Reg src)) before behind context regs fields wide = refl
registers_after-is (insn.Alu width.W32 alu.Add dst (operand.Imm imm)) before behind context regs fields wide = refl
registers_after-is (insn.Alu width.W32 alu.Sub dst (operand.Reg src)) before behind context regs fields wide = refl
registers_after-is (insn.Alu width.W32 alu.Sub dst (operand.Imm imm)) before behind context regs fields wide = refl
registers_after-is (insn.Alu width.W32 alu.Mul dst (operand.Reg src)) before behind context regs fields wide = refl
registers_after-is (insn.Alu width.W32 alu.Mul dst (operand.Imm imm)) before behind context regs fields wide = refl
registers_after-is (insn.Alu width.W32 alu.Div dst (operand.Reg src)) before behind context regs fields wide = refl
registers_after-is (insn.Alu width.W32 alu.Div dst (operand.Imm imm)) before behind context regs fields wide = refl
registers_after-is (insn.Alu width.W32 alu.Or dst (operand.Reg src)) before behind context regs fields wide = refl
registers_after-is (insn.Alu width.W32 alu.Or dst (operand.Imm imm)) before behind context regs fields wide = refl
registers_after-is (insn.Alu width.W32 alu.And dst (operand.Reg src)) before behind context regs fields wide = refl
registers_after-is (insn.Alu width.W32 alu.And dst (operand.Imm imm)) before behind context regs fields wide = refl
registers_after-is (insn.Alu width.W32 alu.Lsh dst (operand.Reg src)) before behind context regs fields wide = refl
registers_after-is (insn.Alu width.W32 alu.Lsh dst (operand.Imm imm)) before behind context regs fields wide = refl
registers_after-is (insn.Alu width.W32 alu.Rsh dst (operand.Reg src)) before behind context regs fields wide = refl
registers_after-is (insn.Alu width.W32 alu.Rsh dst (operand.Imm imm)) before behind context regs fields wide = refl
registers_after-is (insn.Alu width.W32 alu.Mod dst (operand.Reg src)) before behind context regs fields wide = refl
registers_after-is (insn.Alu width.W32 alu.Mod dst (operand.Imm imm)) before behind context regs fields wide = refl
registers_after-is (insn.Alu width.W32 alu.Xor dst (operand.Reg src)) before behind context regs fields wide = refl
registers_after-is (insn.Alu width.W32 alu.Xor dst (operand.Imm imm)) before behind context regs fields wide = refl
registers_after-is (insn.Alu width.W32 alu.Mov dst (operand.Reg src)) before behind context regs fields wide = refl
registers_after-is (insn.Alu width.W32 alu.Mov dst (operand.Imm imm)) before behind context regs fields wide = refl
registers_after-is (insn.Alu width.W32 alu.Arsh dst (operand.Reg src)) before behind context regs fields wide = refl
registers_after-is (insn.Alu width.W32 alu.Arsh dst (operand.Imm imm)) before behind context regs fields wide = refl
registers_after-is (insn.Alu width.W64 alu.Add dst (operand.Reg src)) before behind context regs fields wide = refl
registers_after-is (insn.Alu width.W64 alu.Add dst (operand.Imm imm)) before behind context regs fields wide = refl
registers_after-is (insn.Alu width.W64 alu.Sub dst (operand.Reg src)) before behind context regs fields wide = refl
registers_after-is (insn.Alu width.W64 alu.Sub dst (operand.Imm imm)) before behind context regs fields wide = refl
registers_after-is (insn.Alu width.W64 alu.Mul dst (operand.Reg src)) before behind context regs fields wide = refl
registers_after-is (insn.Alu width.W64 alu.Mul dst (operand.Imm imm)) before behind context regs fields wide = refl
registers_after-is (insn.Alu width.W64 alu.Div dst (operand.Reg src)) before behind context regs fields wide = refl
registers_after-is (insn.Alu width.W64 alu.Div dst (operand.Imm imm)) before behind context regs fields wide = refl
registers_after-is (insn.Alu width.W64 alu.Or dst (operand.Reg src)) before behind context regs fields wide = refl
registers_after-is (insn.Alu width.W64 alu.Or dst (operand.Imm imm)) before behind context regs fields wide = refl
registers_after-is (insn.Alu width.W64 alu.And dst (operand.Reg src)) before behind context regs fields wide = refl
registers_after-is (insn.Alu width.W64 alu.And dst (operand.Imm imm)) before behind context regs fields wide = refl
registers_after-is (insn.Alu width.W64 alu.Lsh dst (operand.Reg src)) before behind context regs fields wide = refl
registers_after-is (insn.Alu width.W64 alu.Lsh dst (operand.Imm imm)) before behind context regs fields wide = refl
registers_after-is (insn.Alu width.W64 alu.Rsh dst (operand.Reg src)) before behind context regs fields wide = refl
registers_after-is (insn.Alu width.W64 alu.Rsh dst (operand.Imm imm)) before behind context regs fields wide = refl
registers_after-is (insn.Alu width.W64 alu.Mod dst (operand.Reg src)) before behind context regs fields wide = refl
registers_after-is (insn.Alu width.W64 alu.Mod dst (operand.Imm imm)) before behind context regs fields wide = refl
registers_after-is (insn.Alu width.W64 alu.Xor dst (operand.Reg src)) before behind context regs fields wide = refl
registers_after-is (insn.Alu width.W64 alu.Xor dst (operand.Imm imm)) before behind context regs fields wide = refl
registers_after-is (insn.Alu width.W64 alu.Mov dst (operand.Reg src)) before behind context regs fields wide = refl
registers_after-is (insn.Alu width.W64 alu.Mov dst (operand.Imm imm)) before behind context regs fields wide = refl
registers_after-is (insn.Alu width.W64 alu.Arsh dst (operand.Reg src)) before behind context regs fields wide = refl
registers_after-is (insn.Alu width.W64 alu.Arsh dst (operand.Imm imm)) before behind context regs fields wide = refl
registers_after-is (insn.Neg width.W32 dst) before behind context regs fields wide = refl
registers_after-is (insn.Neg width.W64 dst) before behind context regs fields wide = refl
registers_after-is (insn.Load size.B dst src off) before behind context regs fields wide = refl
registers_after-is (insn.Load size.H dst src off) before behind context regs fields wide = refl
registers_after-is (insn.Load size.W dst src off) before behind context regs fields wide = refl
registers_after-is (insn.Load size.DW dst src off) before behind context regs fields wide = refl
registers_after-is (insn.LoadSigned size.B dst src off) before behind context regs fields wide = refl
registers_after-is (insn.LoadSigned size.H dst src off) before behind context regs fields wide = refl
registers_after-is (insn.LoadSigned size.W dst src off) before behind context regs fields wide = refl
registers_after-is (insn.LoadSigned size.DW dst src off) before behind context regs fields wide = refl
registers_after-is (insn.MovSigned width.W32 bits dst src) before behind context regs fields wide = let e = extended-some width.W32 bits fields.0 in rw e refl
registers_after-is (insn.MovSigned width.W64 bits dst src) before behind context regs fields wide = let e = extended-some width.W64 bits fields.0 in rw e refl
registers_after-is (insn.Swap order.Little bits dst) before behind context regs fields wide = refl
registers_after-is (insn.Swap order.Big bits dst) before behind context regs fields wide = refl
registers_after-is (insn.Swap order.Swap bits dst) before behind context regs fields wide = refl
registers_after-is (insn.Wide dst lower upper) before behind context regs fields wide = rw (wide refl) refl
registers_after-is insn.Half before behind context regs fields wide = refl
registers_after-is (insn.Goto off) before behind context regs fields wide = refl
registers_after-is (insn.GotoLong off) before behind context regs fields wide = refl
registers_after-is (insn.Jump width.W32 condition.Eq dst (operand.Reg src) off) before behind context regs fields wide = refl
registers_after-is (insn.Jump width.W32 condition.Eq dst (operand.Imm imm) off) before behind context regs fields wide = refl
registers_after-is (insn.Jump width.W32 condition.Gt dst (operand.Reg src) off) before behind context regs fields wide = refl
registers_after-is (insn.Jump width.W32 condition.Gt dst (operand.Imm imm) off) before behind context regs fields wide = refl
registers_after-is (insn.Jump width.W32 condition.Ge dst (operand.Reg src) off) before behind context regs fields wide = refl
registers_after-is (insn.Jump width.W32 condition.Ge dst (operand.Imm imm) off) before behind context regs fields wide = refl
registers_after-is (insn.Jump width.W32 condition.Set dst (operand.Reg src) off) before behind context regs fields wide = refl
registers_after-is (insn.Jump width.W32 condition.Set dst (operand.Imm imm) off) before behind context regs fields wide = refl
registers_after-is (insn.Jump width.W32 condition.Ne dst (operand.Reg src) off) before behind context regs fields wide = refl
registers_after-is (insn.Jump width.W32 condition.Ne dst (operand.Imm imm) off) before behind context regs fields wide = refl
registers_after-is (insn.Jump width.W32 condition.Sgt dst (operand.Reg src) off) before behind context regs fields wide = refl
registers_after-is (insn.Jump width.W32 condition.Sgt dst (operand.Imm imm) off) before behind context regs fields wide = refl
registers_after-is (insn.Jump width.W32 condition.Sge dst (operand.Reg src) off) before behind context regs fields wide = refl
registers_after-is (insn.Jump width.W32 condition.Sge dst (operand.Imm imm) off) before behind context regs fields wide = refl
registers_after-is (insn.Jump width.W32 condition.Lt dst (operand.Reg src) off) before behind context regs fields wide = refl
registers_after-is (insn.Jump width.W32 condition.Lt dst (operand.Imm imm) off) before behind context regs fields wide = refl
registers_after-is (insn.Jump width.W32 condition.Le dst (operand.Reg src) off) before behind context regs fields wide = refl
registers_after-is (insn.Jump width.W32 condition.Le dst (operand.Imm imm) off) before behind context regs fields wide = refl
registers_after-is (insn.Jump width.W32 condition.Slt dst (operand.Reg src) off) before behind context regs fields wide = refl
registers_after-is (insn.Jump width.W32 condition.Slt dst (operand.Imm imm) off) before behind context regs fields wide = refl
registers_after-is (insn.Jump width.W32 condition.Sle dst (operand.Reg src) off) before behind context regs fields wide = refl
registers_after-is (insn.Jump width.W32 condition.Sle dst (operand.Imm imm) off) before behind context regs fields wide = refl
registers_after-is (insn.Jump width.W64 condition.Eq dst (operand.Reg src) off) before behind context regs fields wide = refl
registers_after-is (insn.Jump width.W64 condition.Eq dst (operand.Imm imm) off) before behind context regs fields wide = refl
registers_after-is (insn.Jump width.W64 condition.Gt dst (operand.Reg src) off) before behind context regs fields wide = refl
registers_after-is (insn.Jump width.W64 condition.Gt dst (operand.Imm imm) off) before behind context regs fields wide = refl
registers_after-is (insn.Jump width.W64 condition.Ge dst (operand.Reg src) off) before behind context regs fields wide = refl
registers_after-is (insn.Jump width.W64 condition.Ge dst (operand.Imm imm) off) before behind context regs fields wide = refl
registers_after-is (insn.Jump width.W64 condition.Set dst (operand.Reg src) off) before behind context regs fields wide = refl
registers_after-is (insn.Jump width.W64 condition.Set dst (operand.Imm imm) off) before behind context regs fields wide = refl
registers_after-is (insn.Jump width.W64 condition.Ne dst (operand.Reg src) off) before behind context regs fields wide = refl
registers_after-is (insn.Jump width.W64 condition.Ne dst (operand.Imm imm) off) before behind context regs fields wide = refl
registers_after-is (insn.Jump width.W64 condition.Sgt dst (operand.Reg src) off) before behind context regs fields wide = refl
registers_after-is (insn.Jump width.W64 condition.Sgt dst (operand.Imm imm) off) before behind context regs fields wide = refl
registers_after-is (insn.Jump width.W64 condition.Sge dst (operand.Reg src) off) before behind context regs fields wide = refl
registers_after-is (insn.Jump width.W64 condition.Sge dst (operand.Imm imm) off) before behind context regs fields wide = refl
registers_after-is (insn.Jump width.W64 condition.Lt dst (operand.Reg src) off) before behind context regs fields wide = refl
registers_after-is (insn.Jump width.W64 condition.Lt dst (operand.Imm imm) off) before behind context regs fields wide = refl
registers_after-is (insn.Jump width.W64 condition.Le dst (operand.Reg src) off) before behind context regs fields wide = refl
registers_after-is (insn.Jump width.W64 condition.Le dst (operand.Imm imm) off) before behind context regs fields wide = refl
registers_after-is (insn.Jump width.W64 condition.Slt dst (operand.Reg src) off) before behind context regs fields wide = refl
registers_after-is (insn.Jump width.W64 condition.Slt dst (operand.Imm imm) off) before behind context regs fields wide = refl
registers_after-is (insn.Jump width.W64 condition.Sle dst (operand.Reg src) off) before behind context regs fields wide = refl
registers_after-is (insn.Jump width.W64 condition.Sle dst (operand.Imm imm) off) before behind context regs fields wide = refl
registers_after-is insn.Exit before behind context regs fields wide = refl

pub flow_after-is : (x : Insn) (before : ℤ) (regs : List ℕ) → flow_after (fields_of before x) regs ≡ flow_of x regs
flow_after-is (insn.Alu width.W32 alu.Add dst (operand.Reg src)) before regs = refl
flow_after-is (insn.Alu width.W32 alu.Add dst (operand.Imm imm)) before regs = refl
flow_after-is (insn.Alu width.W32 alu.Sub dst (operand.Reg src)) before regs = refl
flow_after-is (insn.Alu width.W32 alu.Sub dst (operand.Imm imm)) before regs = refl
flow_after-is (insn.Alu width.W32 alu.Mul dst (operand.Reg src)) before regs = refl
flow_after-is (insn.Alu width.W32 alu.Mul dst (operand.Imm imm)) before regs = refl
flow_after-is (insn.Alu width.W32 alu.Div dst (operand.Reg src)) before regs = refl
flow_after-is (insn.Alu width.W32 alu.Div dst (operand.Imm imm)) before regs = refl
flow_after-is (insn.Alu width.W32 alu.Or dst (operand.Reg src)) before regs = refl
flow_after-is (insn.Alu width.W32 alu.Or dst (operand.Imm imm)) before regs = refl
flow_after-is (insn.Alu width.W32 alu.And dst (operand.Reg src)) before regs = refl
flow_after-is (insn.Alu width.W32 alu.And dst (operand.Imm imm)) before regs = refl
flow_after-is (insn.Alu width.W32 alu.Lsh dst (operand.Reg src)) before regs = refl
flow_after-is (insn.Alu width.W32 alu.Lsh dst (operand.Imm imm)) before regs = refl
flow_after-is (insn.Alu width.W32 alu.Rsh dst (operand.Reg src)) before regs = refl
flow_after-is (insn.Alu width.W32 alu.Rsh dst (operand.Imm imm)) before regs = refl
flow_after-is (insn.Alu width.W32 alu.Mod dst (operand.Reg src)) before regs = refl
flow_after-is (insn.Alu width.W32 alu.Mod dst (operand.Imm imm)) before regs = refl
flow_after-is (insn.Alu width.W32 alu.Xor dst (operand.Reg src)) before regs = refl
flow_after-is (insn.Alu width.W32 alu.Xor dst (operand.Imm imm)) before regs = refl
flow_after-is (insn.Alu width.W32 alu.Mov dst (operand.Reg src)) before regs = refl
flow_after-is (insn.Alu width.W32 alu.Mov dst (operand.Imm imm)) before regs = refl
flow_after-is (insn.Alu width.W32 alu.Arsh dst (operand.Reg src)) before regs = refl
flow_after-is (insn.Alu width.W32 alu.Arsh dst (operand.Imm imm)) before regs = refl
flow_after-is (insn.Alu width.W64 alu.Add dst (operand.Reg src)) before regs = refl
flow_after-is (insn.Alu width.W64 alu.Add dst (operand.Imm imm)) before regs = refl
flow_after-is (insn.Alu width.W64 alu.Sub dst (operand.Reg src)) before regs = refl
flow_after-is (insn.Alu width.W64 alu.Sub dst (operand.Imm imm)) before regs = refl
flow_after-is (insn.Alu width.W64 alu.Mul dst (operand.Reg src)) before regs = refl
flow_after-is (insn.Alu width.W64 alu.Mul dst (operand.Imm imm)) before regs = refl
flow_after-is (insn.Alu width.W64 alu.Div dst (operand.Reg src)) before regs = refl
flow_after-is (insn.Alu width.W64 alu.Div dst (operand.Imm imm)) before regs = refl
flow_after-is (insn.Alu width.W64 alu.Or dst (operand.Reg src)) before regs = refl
flow_after-is (insn.Alu width.W64 alu.Or dst (operand.Imm imm)) before regs = refl
flow_after-is (insn.Alu width.W64 alu.And dst (operand.Reg src)) before regs = refl
flow_after-is (insn.Alu width.W64 alu.And dst (operand.Imm imm)) before regs = refl
flow_after-is (insn.Alu width.W64 alu.Lsh dst (operand.Reg src)) before regs = refl
flow_after-is (insn.Alu width.W64 alu.Lsh dst (operand.Imm imm)) before regs = refl
flow_after-is (insn.Alu width.W64 alu.Rsh dst (operand.Reg src)) before regs = refl
flow_after-is (insn.Alu width.W64 alu.Rsh dst (operand.Imm imm)) before regs = refl
flow_after-is (insn.Alu width.W64 alu.Mod dst (operand.Reg src)) before regs = refl
flow_after-is (insn.Alu width.W64 alu.Mod dst (operand.Imm imm)) before regs = refl
flow_after-is (insn.Alu width.W64 alu.Xor dst (operand.Reg src)) before regs = refl
flow_after-is (insn.Alu width.W64 alu.Xor dst (operand.Imm imm)) before regs = refl
flow_after-is (insn.Alu width.W64 alu.Mov dst (operand.Reg src)) before regs = refl
flow_after-is (insn.Alu width.W64 alu.Mov dst (operand.Imm imm)) before regs = refl
flow_after-is (insn.Alu width.W64 alu.Arsh dst (operand.Reg src)) before regs = refl
flow_after-is (insn.Alu width.W64 alu.Arsh dst (operand.Imm imm)) before regs = refl
flow_after-is (insn.Neg width.W32 dst) before regs = refl
flow_after-is (insn.Neg width.W64 dst) before regs = refl
flow_after-is (insn.Load size.B dst src off) before regs = refl
flow_after-is (insn.Load size.H dst src off) before regs = refl
flow_after-is (insn.Load size.W dst src off) before regs = refl
flow_after-is (insn.Load size.DW dst src off) before regs = refl
flow_after-is (insn.LoadSigned size.B dst src off) before regs = refl
flow_after-is (insn.LoadSigned size.H dst src off) before regs = refl
flow_after-is (insn.LoadSigned size.W dst src off) before regs = refl
flow_after-is (insn.LoadSigned size.DW dst src off) before regs = refl
flow_after-is (insn.MovSigned width.W32 bits dst src) before regs = refl
flow_after-is (insn.MovSigned width.W64 bits dst src) before regs = refl
flow_after-is (insn.Swap order.Little bits dst) before regs = refl
flow_after-is (insn.Swap order.Big bits dst) before regs = refl
flow_after-is (insn.Swap order.Swap bits dst) before regs = refl
flow_after-is (insn.Wide dst lower upper) before regs = refl
flow_after-is insn.Half before regs = refl
flow_after-is (insn.Goto off) before regs = refl
flow_after-is (insn.GotoLong off) before regs = refl
flow_after-is (insn.Jump width.W32 condition.Eq dst (operand.Reg src) off) before regs = refl
flow_after-is (insn.Jump width.W32 condition.Eq dst (operand.Imm imm) off) before regs = refl
flow_after-is (insn.Jump width.W32 condition.Gt dst (operand.Reg src) off) before regs = refl
flow_after-is (insn.Jump width.W32 condition.Gt dst (operand.Imm imm) off) before regs = refl
flow_after-is (insn.Jump width.W32 condition.Ge dst (operand.Reg src) off) before regs = refl
flow_after-is (insn.Jump width.W32 condition.Ge dst (operand.Imm imm) off) before regs = refl
flow_after-is (insn.Jump width.W32 condition.Set dst (operand.Reg src) off) before regs = refl
flow_after-is (insn.Jump width.W32 condition.Set dst (operand.Imm imm) off) before regs = refl
flow_after-is (insn.Jump width.W32 condition.Ne dst (operand.Reg src) off) before regs = refl
flow_after-is (insn.Jump width.W32 condition.Ne dst (operand.Imm imm) off) before regs = refl
flow_after-is (insn.Jump width.W32 condition.Sgt dst (operand.Reg src) off) before regs = refl
flow_after-is (insn.Jump width.W32 condition.Sgt dst (operand.Imm imm) off) before regs = refl
flow_after-is (insn.Jump width.W32 condition.Sge dst (operand.Reg src) off) before regs = refl
flow_after-is (insn.Jump width.W32 condition.Sge dst (operand.Imm imm) off) before regs = refl
flow_after-is (insn.Jump width.W32 condition.Lt dst (operand.Reg src) off) before regs = refl
flow_after-is (insn.Jump width.W32 condition.Lt dst (operand.Imm imm) off) before regs = refl
flow_after-is (insn.Jump width.W32 condition.Le dst (operand.Reg src) off) before regs = refl
flow_after-is (insn.Jump width.W32 condition.Le dst (operand.Imm imm) off) before regs = refl
flow_after-is (insn.Jump width.W32 condition.Slt dst (operand.Reg src) off) before regs = refl
flow_after-is (insn.Jump width.W32 condition.Slt dst (operand.Imm imm) off) before regs = refl
flow_after-is (insn.Jump width.W32 condition.Sle dst (operand.Reg src) off) before regs = refl
flow_after-is (insn.Jump width.W32 condition.Sle dst (operand.Imm imm) off) before regs = refl
flow_after-is (insn.Jump width.W64 condition.Eq dst (operand.Reg src) off) before regs = refl
flow_after-is (insn.Jump width.W64 condition.Eq dst (operand.Imm imm) off) before regs = refl
flow_after-is (insn.Jump width.W64 condition.Gt dst (operand.Reg src) off) before regs = refl
flow_after-is (insn.Jump width.W64 condition.Gt dst (operand.Imm imm) off) before regs = refl
flow_after-is (insn.Jump width.W64 condition.Ge dst (operand.Reg src) off) before regs = refl
flow_after-is (insn.Jump width.W64 condition.Ge dst (operand.Imm imm) off) before regs = refl
flow_after-is (insn.Jump width.W64 condition.Set dst (operand.Reg src) off) before regs = refl
flow_after-is (insn.Jump width.W64 condition.Set dst (operand.Imm imm) off) before regs = refl
flow_after-is (insn.Jump width.W64 condition.Ne dst (operand.Reg src) off) before regs = refl
flow_after-is (insn.Jump width.W64 condition.Ne dst (operand.Imm imm) off) before regs = refl
flow_after-is (insn.Jump width.W64 condition.Sgt dst (operand.Reg src) off) before regs = refl
flow_after-is (insn.Jump width.W64 condition.Sgt dst (operand.Imm imm) off) before regs = refl
flow_after-is (insn.Jump width.W64 condition.Sge dst (operand.Reg src) off) before regs = refl
flow_after-is (insn.Jump width.W64 condition.Sge dst (operand.Imm imm) off) before regs = refl
flow_after-is (insn.Jump width.W64 condition.Lt dst (operand.Reg src) off) before regs = refl
flow_after-is (insn.Jump width.W64 condition.Lt dst (operand.Imm imm) off) before regs = refl
flow_after-is (insn.Jump width.W64 condition.Le dst (operand.Reg src) off) before regs = refl
flow_after-is (insn.Jump width.W64 condition.Le dst (operand.Imm imm) off) before regs = refl
flow_after-is (insn.Jump width.W64 condition.Slt dst (operand.Reg src) off) before regs = refl
flow_after-is (insn.Jump width.W64 condition.Slt dst (operand.Imm imm) off) before regs = refl
flow_after-is (insn.Jump width.W64 condition.Sle dst (operand.Reg src) off) before regs = refl
flow_after-is (insn.Jump width.W64 condition.Sle dst (operand.Imm imm) off) before regs = refl
flow_after-is insn.Exit before regs = refl
