-- The fields of an instruction's slot are read as that instruction.
use Rattle.std.proofs.Common.{◌≡◌, ◌≢◌, ℕ, ℤ, pos, ◌+◌, ◌*◌, true, false, ◌||◌, ◌==◌, nat_le, Ok, refl, sym, subst, inl, inr}
use Rattle.std.proofs.lemmas.Bool.{le-leb, false≢true, true≢false, or_cases, eqb-true}
use Rattle.bpf_isa.specs.declared.insn.AluOp.{AluOp}
use Rattle.bpf_isa.specs.declared.insn.AluOp.TheVariants as alu
use Rattle.bpf_isa.specs.declared.insn.Cond.{Cond}
use Rattle.bpf_isa.specs.declared.insn.Cond.TheVariants as condition
use Rattle.bpf_isa.specs.declared.insn.Insn.{Insn}
use Rattle.bpf_isa.specs.declared.insn.Insn.TheVariants as insn
use Rattle.bpf_isa.specs.declared.insn.Operand.TheVariants as operand
use Rattle.bpf_isa.specs.declared.insn.Order.{Order}
use Rattle.bpf_isa.specs.declared.insn.Order.TheVariants as order
use Rattle.bpf_isa.specs.declared.insn.Profile.{Profile}
use Rattle.bpf_isa.specs.declared.insn.Profile.TheVariants as profile
use Rattle.bpf_isa.specs.declared.insn.Size.{Size}
use Rattle.bpf_isa.specs.declared.insn.Size.TheVariants as size
use Rattle.bpf_isa.specs.declared.insn.Width.{Width}
use Rattle.bpf_isa.specs.declared.insn.Width.TheVariants as width
use Rattle.bpf_isa.specs.Encoding.{raw, raw_of, alu_code, alu_class, condition_code, jump_class, load_opcode, signed_load_opcode, swap_opcode}
use Rattle.bpf_isa.specs.Flow.{is_half, is_wide}
use Rattle.bpf_isa.specs.Table.{alu_in, jump_in, load_in, insn_in}
use Rattle.bpf_isa.specs.WellFormed.{HasFields, has, is_extended}

alu_register : (p : Profile) (w : Width) (op : AluOp) (dst src : ℕ) → nat_le dst 9 ≡ true → nat_le src 9 ≡ true
    → insn_in p (raw (16 * alu_code op + alu_class w + 8) dst src (pos 0) (pos 0)) ≡ Ok (insn.Alu w op dst (operand.Reg src))
unfolding insn_in alu_in
alu_register p width.W32 alu.Add dst src d s = rw (d, s) refl
alu_register p width.W64 alu.Add dst src d s = rw (d, s) refl
alu_register p w op dst src d s = rw (d, s) refl

alu_number : (p : Profile) (w : Width) (op : AluOp) (dst : ℕ) (imm : ℤ) → nat_le dst 9 ≡ true
    → insn_in p (raw (16 * alu_code op + alu_class w) dst 0 (pos 0) imm) ≡ Ok (insn.Alu w op dst (operand.Imm imm))
unfolding insn_in alu_in
alu_number p width.W32 alu.Add dst imm d = rw d refl
alu_number p width.W64 alu.Add dst imm d = rw d refl
alu_number p w op dst imm d = rw d refl

jump_register : (p : Profile) (w : Width) (c : Cond) (dst src : ℕ) (off : ℤ) → nat_le dst 9 ≡ true → nat_le src 9 ≡ true
    → insn_in p (raw (16 * condition_code c + jump_class w + 8) dst src off (pos 0)) ≡ Ok (insn.Jump w c dst (operand.Reg src) off)
unfolding insn_in jump_in
jump_register p width.W32 condition.Eq dst src off d s = rw (d, s) refl
jump_register p width.W64 condition.Eq dst src off d s = rw (d, s) refl
jump_register p w c dst src off d s = rw (d, s) refl

jump_number : (p : Profile) (w : Width) (c : Cond) (dst : ℕ) (imm off : ℤ) → nat_le dst 9 ≡ true
    → insn_in p (raw (16 * condition_code c + jump_class w) dst 0 off imm) ≡ Ok (insn.Jump w c dst (operand.Imm imm) off)
unfolding insn_in jump_in
jump_number p width.W32 condition.Eq dst imm off d = rw d refl
jump_number p width.W64 condition.Eq dst imm off d = rw d refl
jump_number p w c dst imm off d = rw d refl

neg : (p : Profile) (w : Width) (dst : ℕ) → nat_le dst 9 ≡ true → insn_in p (raw (0x80 + alu_class w) dst 0 (pos 0) (pos 0)) ≡ Ok (insn.Neg w dst)
unfolding insn_in alu_in
neg p width.W32 dst d = rw d refl
neg p width.W64 dst d = rw d refl

load : (p : Profile) (s : Size) (dst src : ℕ) (off : ℤ) → nat_le dst 9 ≡ true → nat_le src 9 ≡ true → insn_in p (raw (load_opcode s) dst src off (pos 0)) ≡ Ok (insn.Load s dst src off)
unfolding insn_in load_in
load p size.B dst src off d s = rw (d, s) refl
load p w dst src off d s = rw (d, s) refl

signed_load : (s : Size) (dst src : ℕ) (off : ℤ) → s ≢ size.DW → nat_le dst 9 ≡ true → nat_le src 9 ≡ true
    → insn_in profile.Two (raw (signed_load_opcode s) dst src off (pos 0)) ≡ Ok (insn.LoadSigned s dst src off)
unfolding insn_in load_in
signed_load size.B dst src off short d s = rw (d, s) refl
signed_load size.H dst src off short d s = rw (d, s) refl
signed_load size.W dst src off short d s = rw (d, s) refl
signed_load size.DW dst src off short d s = absurd (short refl)

abbrev MovReads : Width → ℕ → ℕ → ℕ → Type 0
MovReads w dst src bits = insn_in profile.Two (raw (0xb8 + alu_class w) dst src (pos bits) (pos 0)) ≡ Ok (insn.MovSigned w bits dst src)

mov_signed : (w : Width) (bits dst src : ℕ) → is_extended w bits ≡ true → nat_le dst 9 ≡ true → nat_le src 9 ≡ true → MovReads w dst src bits
unfolding insn_in alu_in
mov_signed width.W32 bits dst src e d s = elim (or_cases (bits == 8) (bits == 16) e) [
  | inl a ↦ subst (MovReads width.W32 dst src) (sym (eqb-true bits 8 a)) (rw (d, s) refl)
  | inr a ↦ subst (MovReads width.W32 dst src) (sym (eqb-true bits 16 a)) (rw (d, s) refl)
]
mov_signed width.W64 bits dst src e d s = elim (or_cases ((bits == 8) || (bits == 16)) (bits == 32) e) [
  | inl b ↦ elim (or_cases (bits == 8) (bits == 16) b) [
    | inl a ↦ subst (MovReads width.W64 dst src) (sym (eqb-true bits 8 a)) (rw (d, s) refl)
    | inr a ↦ subst (MovReads width.W64 dst src) (sym (eqb-true bits 16 a)) (rw (d, s) refl)
  ]
  | inr a ↦ subst (MovReads width.W64 dst src) (sym (eqb-true bits 32 a)) (rw (d, s) refl)
]

abbrev SwapReads : Order → ℕ → ℕ → Type 0
SwapReads o dst bits = insn_in profile.Two (raw (swap_opcode o) dst 0 (pos 0) (pos bits)) ≡ Ok (insn.Swap o bits dst)

swap_16 : (o : Order) (dst : ℕ) → nat_le dst 9 ≡ true → SwapReads o dst 16
unfolding insn_in alu_in
swap_16 order.Little dst d = rw d refl
swap_16 o dst d = rw d refl

swap_32 : (o : Order) (dst : ℕ) → nat_le dst 9 ≡ true → SwapReads o dst 32
unfolding insn_in alu_in
swap_32 order.Little dst d = rw d refl
swap_32 o dst d = rw d refl

swap_64 : (o : Order) (dst : ℕ) → nat_le dst 9 ≡ true → SwapReads o dst 64
unfolding insn_in alu_in
swap_64 order.Little dst d = rw d refl
swap_64 o dst d = rw d refl

swap : (o : Order) (bits dst : ℕ) → ((bits == 16) || (bits == 32) || (bits == 64)) ≡ true → nat_le dst 9 ≡ true → SwapReads o dst bits
swap o bits dst e d = elim (or_cases ((bits == 16) || (bits == 32)) (bits == 64) e) [
  | inl b ↦ elim (or_cases (bits == 16) (bits == 32) b) [
    | inl a ↦ subst (SwapReads o dst) (sym (eqb-true bits 16 a)) (swap_16 o dst d)
    | inr a ↦ subst (SwapReads o dst) (sym (eqb-true bits 32 a)) (swap_32 o dst d)
  ]
  | inr a ↦ subst (SwapReads o dst) (sym (eqb-true bits 64 a)) (swap_64 o dst d)
]

-- the fields of an instruction's slot are read as that instruction
pub insn_again : (p : Profile) (x : Insn) → HasFields x → has p x ≡ true → is_half x ≡ false → is_wide x ≡ false → insn_in p (raw_of x) ≡ Ok x
unfolding insn_in
insn_again p (insn.Alu w op dst (operand.Reg src)) f o h v = alu_register p w op dst src (le-leb dst 9 f.0) (le-leb src 9 f.1)
insn_again p (insn.Alu w op dst (operand.Imm imm)) f o h v = alu_number p w op dst imm (le-leb dst 9 f.0)
insn_again p (insn.Neg w dst) f o h v = neg p w dst (le-leb dst 9 f)
insn_again p (insn.Load s dst src off) f o h v = load p s dst src off (le-leb dst 9 f.0) (le-leb src 9 f.1)
insn_again p (insn.Wide dst low high) f o h v = absurd (true≢false v)
insn_again p insn.Half f o h v = absurd (true≢false h)
insn_again p (insn.Goto off) f o h v = refl
insn_again p (insn.GotoLong off) f o h v = refl
insn_again p (insn.Jump w c dst (operand.Reg src) off) f o h v = jump_register p w c dst src off (le-leb dst 9 f.0) (le-leb src 9 f.1)
insn_again p (insn.Jump w c dst (operand.Imm imm) off) f o h v = jump_number p w c dst imm off (le-leb dst 9 f.0)
insn_again p insn.Exit f o h v = refl
insn_again profile.One (insn.LoadSigned s dst src off) f o h v = absurd (false≢true o)
insn_again profile.One (insn.MovSigned w bits dst src) f o h v = absurd (false≢true o)
insn_again profile.One (insn.Swap r bits dst) f o h v = absurd (false≢true o)
insn_again profile.Two (insn.LoadSigned s dst src off) f o h v = signed_load s dst src off f.0 (le-leb dst 9 f.1) (le-leb src 9 f.2)
insn_again profile.Two (insn.MovSigned w bits dst src) f o h v = mov_signed w bits dst src f.0 (le-leb dst 9 f.1) (le-leb src 9 f.2)
insn_again profile.Two (insn.Swap r bits dst) f o h v = swap r bits dst f.0 (le-leb dst 9 f.1)

alu_is_no_wide : (w : Width) (op : AluOp) → ((16 * alu_code op + alu_class w == 0x18) ≡ false) × ((16 * alu_code op + alu_class w + 8 == 0x18) ≡ false)
alu_is_no_wide width.W32 alu.Add = (refl, refl)
alu_is_no_wide width.W64 alu.Add = (refl, refl)
alu_is_no_wide w op = (refl, refl)

jump_is_no_wide : (w : Width) (c : Cond) → ((16 * condition_code c + jump_class w == 0x18) ≡ false) × ((16 * condition_code c + jump_class w + 8 == 0x18) ≡ false)
jump_is_no_wide width.W32 condition.Eq = (refl, refl)
jump_is_no_wide width.W64 condition.Eq = (refl, refl)
jump_is_no_wide w c = (refl, refl)

-- the opcode of a wide load is no other instruction's
pub wide_opcode : (x : Insn) → ((raw_of x).op == 0x18) ≡ is_wide x
wide_opcode (insn.Alu w op dst (operand.Reg src)) = (alu_is_no_wide w op).1
wide_opcode (insn.Alu w op dst (operand.Imm imm)) = (alu_is_no_wide w op).0
wide_opcode (insn.Neg width.W32 dst) = refl
wide_opcode (insn.Neg width.W64 dst) = refl
wide_opcode (insn.Load size.B dst src off) = refl
wide_opcode (insn.Load s dst src off) = refl
wide_opcode (insn.Wide dst low high) = refl
wide_opcode insn.Half = refl
wide_opcode (insn.Goto off) = refl
wide_opcode (insn.GotoLong off) = refl
wide_opcode (insn.Jump w c dst (operand.Reg src) off) = (jump_is_no_wide w c).1
wide_opcode (insn.Jump w c dst (operand.Imm imm) off) = (jump_is_no_wide w c).0
wide_opcode insn.Exit = refl
wide_opcode (insn.LoadSigned size.B dst src off) = refl
wide_opcode (insn.LoadSigned s dst src off) = refl
wide_opcode (insn.MovSigned width.W32 bits dst src) = refl
wide_opcode (insn.MovSigned width.W64 bits dst src) = refl
wide_opcode (insn.Swap order.Little bits dst) = refl
wide_opcode (insn.Swap o bits dst) = refl
