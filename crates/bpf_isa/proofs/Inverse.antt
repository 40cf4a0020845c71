-- What the table gives for a slot has the slot's fields.
use Rattle.std.proofs.Common.{◌≡◌, ◌≢◌, ℕ, ℤ, pos, negsuc, ◌+◌, ◌*◌, ◌/◌, ◌%◌, ◌<◌, ◌≤◌, Bool, true, false, ◌&&◌, ◌==◌, nat_le, subst, Option, Some, None, Result, Ok, Err, refl, sym, ap, arith, FitsSigned}
use Rattle.std.specs.Int.{w16, w32}
use Rattle.std.proofs.lemmas.Bool.{cond_both, and_parts, leb-true, eqb-true, eqb-false}
use Rattle.bpf_isa.specs.declared.fault.SlotFault.{SlotFault}
use Rattle.bpf_isa.specs.declared.insn.Insn.{Insn}
use Rattle.bpf_isa.specs.declared.insn.Insn.TheVariants as insn
use Rattle.bpf_isa.specs.declared.insn.Operand.{Operand}
use Rattle.bpf_isa.specs.declared.insn.Operand.TheVariants as operand
use Rattle.bpf_isa.specs.declared.insn.Profile.{Profile}
use Rattle.bpf_isa.specs.declared.insn.Profile.TheVariants as profile
use Rattle.bpf_isa.specs.declared.insn.Size.{Size}
use Rattle.bpf_isa.specs.declared.insn.Size.TheVariants as size
use Rattle.bpf_isa.specs.declared.insn.Width.{Width}
use Rattle.bpf_isa.specs.declared.raw.Raw.{Raw}
use Rattle.bpf_isa.specs.Encoding.{raw, raw_of, condition_code, jump_class, load_opcode, signed_load_opcode}
use Rattle.bpf_isa.specs.Flow.{is_half, is_wide}
use Rattle.bpf_isa.specs.Checks.{is_zero, checked, ◌>>=◌, found, takes_register, operand_in}
use Rattle.bpf_isa.specs.Table.{condition_of, jump_in, load_of, signed_load_of, load_in}
use Rattle.bpf_isa.specs.WellFormed.{HasFields, has}
use Rattle.bpf_isa.proofs.Codes.{condition_code-condition_of}

-- the numbers of a slot are within their types
pub record InRange (r : Raw) : Type 0 where
  pub op : r.op < 256
  pub off : FitsSigned w16 r.off
  pub imm : FitsSigned w32 r.imm

-- the instruction is one of the profile, neither half of a wide load, and its slot has these fields
pub record Inverts (p : Profile) (r : Raw) (x : Insn) : Type 0 where
  pub same : raw_of x ≡ r
  pub fields : HasFields x
  pub owned : has p x ≡ true
  pub no_half : is_half x ≡ false
  pub no_wide : is_wide x ≡ false

abbrev pub Sound : Profile → Raw → Result Insn SlotFault → Type 0
Sound p r (Ok x) = Inverts p r x
Sound p r (Err e) = Unit {0}

pub same_raw : (r : Raw) (op dst src : ℕ) (off imm : ℤ) → op ≡ r.op → dst ≡ r.dst → src ≡ r.src → off ≡ r.off → imm ≡ r.imm → raw op dst src off imm ≡ r
same_raw r op dst src off imm a b c d e = rw (a, b, c, d, e) refl

pub zero_is : (z : ℤ) → is_zero z ≡ true → pos 0 ≡ z
zero_is (pos n) e = ap (λ (k : ℕ). pos k) (sym (eqb-true n 0 e))
zero_is (negsuc n) e = absurd (cc)

pub checked_sound : (p : Profile) (r : Raw) (registers reserved : Bool) (x : Insn) → (registers ≡ true → reserved ≡ true → Inverts p r x) → Sound p r (checked registers reserved x)
checked_sound p r true true x h = h refl refl
checked_sound p r true false x h = tt
checked_sound p r false reserved x h = tt

pub found_sound : {A : Type 0} (p : Profile) (r : Raw) (o : Option A) (f : A → Result Insn SlotFault) → ((a : A) → o ≡ Some a → Sound p r (f a)) → Sound p r (found o f)
found_sound p r None f h = tt
found_sound p r (Some a) f h = h a refl

pub checked_bind_sound : {A : Type 0} (p : Profile) (r : Raw) (registers reserved : Bool) (x : A) (f : A → Result Insn SlotFault) → (registers ≡ true → reserved ≡ true → Sound p r (f x)) → Sound p r (checked registers reserved x >>= f)
checked_bind_sound p r true true x f h = h refl refl
checked_bind_sound p r true false x f h = tt
checked_bind_sound p r false reserved x f h = tt

pub bit_set : (op : ℕ) → (op / 8 % 2 == 1) ≡ true → 16 * (op / 16) + 8 + op % 8 ≡ op
bit_set op e = omega (arith, eqb-true (op / 8 % 2) 1 e)

pub bit_clear : (op : ℕ) → (op / 8 % 2 == 1) ≡ false → 16 * (op / 16) + op % 8 ≡ op
bit_clear op e = omega (arith, eqb-false (op / 8 % 2) 1 e)

-- both registers of a slot are 0 to 9
pub both_in : (r : Raw) → (nat_le r.dst 9 && nat_le r.src 9) ≡ true → (r.dst ≤ 9) × (r.src ≤ 9)
both_in r e = let parts = and_parts (nat_le r.dst 9) (nat_le r.src 9) e in (leb-true r.dst 9 parts.0, leb-true r.src 9 parts.1)

pub operand_sound : (p : Profile) (r : Raw) (reserved : Bool) (f : Operand → Insn)
    → (takes_register r ≡ true → r.dst ≤ 9 → r.src ≤ 9 → reserved ≡ true → pos 0 ≡ r.imm → Inverts p r (f (operand.Reg r.src)))
    → (takes_register r ≡ false → r.dst ≤ 9 → reserved ≡ true → 0 ≡ r.src → Inverts p r (f (operand.Imm r.imm)))
    → Sound p r (operand_in r reserved >>= λ src. Ok (f src))
operand_sound p r reserved f in_register in_slot =
    cond_both (takes_register r) _ _ (λ (m : Result Operand SlotFault). Sound p r (m >>= λ src. Ok (f src)))
    (λ t. checked_bind_sound p r (nat_le r.dst 9 && nat_le r.src 9) (reserved && is_zero r.imm) (operand.Reg r.src) (λ src. Ok (f src)) (λ registers zeros.
    in_register t (both_in r registers).0 (both_in r registers).1 (and_parts reserved (is_zero r.imm) zeros).0 (zero_is r.imm (and_parts reserved (is_zero r.imm) zeros).1)))
    (λ t. checked_bind_sound p r (nat_le r.dst 9) (reserved && (r.src == 0)) (operand.Imm r.imm) (λ src. Ok (f src)) (λ registers zeros.
    in_slot t (leb-true r.dst 9 registers) (and_parts reserved (r.src == 0) zeros).0 (sym (eqb-true r.src 0 (and_parts reserved (r.src == 0) zeros).1))))

-- an instruction of profile one is one of both
pub old_form : (p : Profile) (x : Insn) → has profile.One x ≡ true → has p x ≡ true
old_form profile.One x h = h
old_form profile.Two x h = refl

abbrev class_of_jump : Width → ℕ → Type 0
class_of_jump w op = op % 8 ≡ jump_class w

pub jump_sound : (p : Profile) (w : Width) (r : Raw) → InRange r → class_of_jump w r.op → Sound p r (jump_in w r)
unfolding jump_in
jump_sound p w r within class = found_sound p r (condition_of (r.op / 16)) _ (λ c e.
    let code : condition_code c ≡ r.op / 16 = condition_code-condition_of (r.op / 16) c (omega (arith, within.op)) e in
    operand_sound p r true (λ src. insn.Jump w c r.dst src r.off)
    (λ t dst src _ imm. record {
      same = same_raw r (16 * condition_code c + jump_class w + 8) r.dst r.src r.off (pos 0) (omega (arith, code, class, bit_set r.op t)) refl refl refl imm;
      fields = (dst, src, within.off);
      owned = old_form p (insn.Jump w c r.dst (operand.Reg r.src) r.off) refl;
      no_half = refl;
      no_wide = refl;
    })
    (λ t dst _ src. record {
      same = same_raw r (16 * condition_code c + jump_class w) r.dst 0 r.off r.imm (omega (arith, code, class, bit_clear r.op t)) refl src refl refl;
      fields = (dst, within.imm, within.off);
      owned = old_form p (insn.Jump w c r.dst (operand.Imm r.imm) r.off) refl;
      no_half = refl;
      no_wide = refl;
    }))

load_row : (p : Profile) (r : Raw) → InRange r → (s : Size) → load_opcode s ≡ r.op → r.dst ≤ 9 → r.src ≤ 9 → pos 0 ≡ r.imm → Inverts p r (insn.Load s r.dst r.src r.off)
load_row p r within s op dst src imm = record {
  same = same_raw r (load_opcode s) r.dst r.src r.off (pos 0) op refl refl refl imm;
  fields = (dst, src, within.off);
  owned = old_form p (insn.Load s r.dst r.src r.off) refl;
  no_half = refl;
  no_wide = refl;
}

signed_load_row : (r : Raw) → InRange r → (s : Size) → s ≢ size.DW → signed_load_opcode s ≡ r.op → r.dst ≤ 9 → r.src ≤ 9 → pos 0 ≡ r.imm → Inverts profile.Two r (insn.LoadSigned s r.dst r.src r.off)
signed_load_row r within s short op dst src imm = record {
  same = same_raw r (signed_load_opcode s) r.dst r.src r.off (pos 0) op refl refl refl imm;
  fields = (short, dst, src, within.off);
  owned = refl;
  no_half = refl;
  no_wide = refl;
}

abbrev LoadFits : Profile → Raw → Option Insn → Type 0
LoadFits p r None = Unit {0}
LoadFits p r (Some x) = r.dst ≤ 9 → r.src ≤ 9 → pos 0 ≡ r.imm → Inverts p r x

signed_load_fits : (p : Profile) (r : Raw) → InRange r → LoadFits p r (signed_load_of p r)
signed_load_fits profile.One r within = tt
signed_load_fits profile.Two r within =
    cond_both (r.op == 0x91) _ _ (LoadFits profile.Two r) (λ e. signed_load_row r within size.B (λ d. absurd (cc)) (sym (eqb-true r.op 0x91 e))) (λ _.
    cond_both (r.op == 0x89) _ _ (LoadFits profile.Two r) (λ e. signed_load_row r within size.H (λ d. absurd (cc)) (sym (eqb-true r.op 0x89 e))) (λ _.
    cond_both (r.op == 0x81) _ _ (LoadFits profile.Two r) (λ e. signed_load_row r within size.W (λ d. absurd (cc)) (sym (eqb-true r.op 0x81 e))) (λ _. tt)))

load_fits : (p : Profile) (r : Raw) → InRange r → LoadFits p r (load_of p r)
load_fits p r within =
    cond_both (r.op == 0x71) _ _ (LoadFits p r) (λ e. load_row p r within size.B (sym (eqb-true r.op 0x71 e))) (λ _.
    cond_both (r.op == 0x69) _ _ (LoadFits p r) (λ e. load_row p r within size.H (sym (eqb-true r.op 0x69 e))) (λ _.
    cond_both (r.op == 0x61) _ _ (LoadFits p r) (λ e. load_row p r within size.W (sym (eqb-true r.op 0x61 e))) (λ _.
    cond_both (r.op == 0x79) _ _ (LoadFits p r) (λ e. load_row p r within size.DW (sym (eqb-true r.op 0x79 e))) (λ _. signed_load_fits p r within))))

pub load_sound : (p : Profile) (r : Raw) → InRange r → Sound p r (load_in p r)
unfolding load_in
load_sound p r within = found_sound p r (load_of p r) _ (λ x e. checked_sound p r (nat_le r.dst 9 && nat_le r.src 9) (is_zero r.imm) x (λ registers zero.
    subst (LoadFits p r) e (load_fits p r within) (both_in r registers).0 (both_in r registers).1 (zero_is r.imm zero)))
