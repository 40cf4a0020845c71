-- The bytes of well-formed instructions decode to them.
use Rattle.std.proofs.Common.{◌≡◌, ℕ, ℤ, pos, ◌+◌, ◌*◌, ◌<◌, ◌≤◌, zero, suc, List, length, get_or, Bool, true, not, ◌&&◌, ◌||◌, ◌==◌, refl, sym, ap, ◌∙◌, arith, subst, FitsSigned, inl, inr}
use Rattle.std.specs.Int.{w16, w32}
use Rattle.std.proofs.lemmas.Bool.{or_cases, eqb-true}
use Rattle.bpf_isa.specs.declared.insn.Insn.{Insn}
use Rattle.bpf_isa.specs.declared.insn.Insn.TheVariants as insn
use Rattle.bpf_isa.specs.declared.insn.Operand.TheVariants as operand
use Rattle.bpf_isa.specs.declared.insn.Width.{Width}
use Rattle.bpf_isa.specs.declared.insn.Width.TheVariants as width
use Rattle.bpf_isa.specs.declared.raw.Raw.{Raw}
use Rattle.bpf_isa.specs.Encoding.{raw, encoding}
use Rattle.bpf_isa.specs.Flow.{insn_at, is_half, is_wide}
use Rattle.bpf_isa.specs.Slots.{raw_at, is_second_half}
use Rattle.bpf_isa.specs.WellFormed.{IsWellFormed, HasFields, is_extended}
use Rattle.bpf_isa.proofs.Halves.{half-step, half-zero}
use Rattle.bpf_isa.proofs.Raws.{high_of, fields_of, raws_from, high_before, raws_at, encoding_is_slots, length-raws_from, RawFits, raw_at-slots}
use Rattle.bpf_isa.proofs.SlotBytes.{raw_at-op}
use Rattle.bpf_isa.proofs.TableAgain.{wide_opcode}

zero_fits_16 : FitsSigned w16 (pos 0)
zero_fits_16 = record { sfits = omega arith }

zero_fits_32 : FitsSigned w32 (pos 0)
zero_fits_32 = record { sfits = omega arith }

-- a sign extension takes at most 32 bits, and a swap at most 64
pub small_bits : (w : Width) (bits : ℕ) → is_extended w bits ≡ true → bits ≤ 32
small_bits width.W32 bits e = elim (or_cases (bits == 8) (bits == 16) e) [ inl a ↦ omega (arith, eqb-true bits 8 a) | inr a ↦ omega (arith, eqb-true bits 16 a) ]
small_bits width.W64 bits e = elim (or_cases ((bits == 8) || (bits == 16)) (bits == 32) e) [
  | inl b ↦ elim (or_cases (bits == 8) (bits == 16) b) [ inl a ↦ omega (arith, eqb-true bits 8 a) | inr a ↦ omega (arith, eqb-true bits 16 a) ]
  | inr a ↦ omega (arith, eqb-true bits 32 a)
]

pub small_swap : (bits : ℕ) → ((bits == 16) || (bits == 32) || (bits == 64)) ≡ true → bits ≤ 64
small_swap bits e = elim (or_cases ((bits == 16) || (bits == 32)) (bits == 64) e) [
  | inl b ↦ elim (or_cases (bits == 16) (bits == 32) b) [ inl a ↦ omega (arith, eqb-true bits 16 a) | inr a ↦ omega (arith, eqb-true bits 32 a) ]
  | inr a ↦ omega (arith, eqb-true bits 64 a)
]

high_fits : (x : Insn) → HasFields x → FitsSigned w32 (high_of x)
high_fits (insn.Wide dst low high) f = f.2
high_fits x f = zero_fits_32

fields_fit : (high : ℤ) (x : Insn) → FitsSigned w32 high → HasFields x → RawFits (fields_of high x)
fields_fit high (insn.Alu w op dst (operand.Reg src)) h f = record { dst = omega (arith, f.0); src = omega (arith, f.1); off = zero_fits_16; imm = zero_fits_32 }
fields_fit high (insn.Alu w op dst (operand.Imm imm)) h f = record { dst = omega (arith, f.0); src = omega arith; off = zero_fits_16; imm = f.1 }
fields_fit high (insn.Neg w dst) h f = record { dst = omega (arith, f); src = omega arith; off = zero_fits_16; imm = zero_fits_32 }
fields_fit high (insn.Load s dst src off) h f = record { dst = omega (arith, f.0); src = omega (arith, f.1); off = f.2; imm = zero_fits_32 }
fields_fit high (insn.Wide dst low next) h f = record { dst = omega (arith, f.0); src = omega arith; off = zero_fits_16; imm = f.1 }
fields_fit high insn.Half h f = record { dst = omega arith; src = omega arith; off = zero_fits_16; imm = h }
fields_fit high (insn.Goto off) h f = record { dst = omega arith; src = omega arith; off = f; imm = zero_fits_32 }
fields_fit high (insn.GotoLong off) h f = record { dst = omega arith; src = omega arith; off = zero_fits_16; imm = f }
fields_fit high (insn.Jump w c dst (operand.Reg src) off) h f = record { dst = omega (arith, f.0); src = omega (arith, f.1); off = f.2; imm = zero_fits_32 }
fields_fit high (insn.Jump w c dst (operand.Imm imm) off) h f = record { dst = omega (arith, f.0); src = omega arith; off = f.2; imm = f.1 }
fields_fit high insn.Exit h f = record { dst = omega arith; src = omega arith; off = zero_fits_16; imm = zero_fits_32 }
fields_fit high (insn.LoadSigned s dst src off) h f = record { dst = omega (arith, f.1); src = omega (arith, f.2); off = f.3; imm = zero_fits_32 }
fields_fit high (insn.MovSigned w bits dst src) h f = record { dst = omega (arith, f.1); src = omega (arith, f.2); off = record { sfits = omega (arith, small_bits w bits f.0) }; imm = zero_fits_32 }
fields_fit high (insn.Swap o bits dst) h f = record { dst = omega (arith, f.1); src = omega arith; off = zero_fits_16; imm = record { sfits = omega (arith, small_swap bits f.0) } }

before_fits : (xs : List Insn) (slot : ℕ) → IsWellFormed xs → slot < length xs → FitsSigned w32 (high_before (pos 0) xs slot)
before_fits xs zero f lt = zero_fits_32
before_fits xs (suc slot) f lt = high_fits (insn_at xs slot) (f.fields slot (omega (arith, lt)))

-- each slot has the fields of its instruction
pub slot_fields : (xs : List Insn) (slot : ℕ) → IsWellFormed xs → slot < length xs → raw_at (encoding xs) slot ≡ fields_of (high_before (pos 0) xs slot) (insn_at xs slot)
slot_fields xs slot f lt =
    let rs : List Raw = raws_from (pos 0) xs in
    let there = raws_at (pos 0) xs slot (raw 0 0 0 (pos 0) (pos 0)) lt in
    ap (λ (bytes : List ℕ). raw_at bytes slot) (encoding_is_slots xs f)
    ∙ raw_at-slots rs slot (raw 0 0 0 (pos 0) (pos 0)) (omega (arith, lt, length-raws_from (pos 0) xs))
    (subst RawFits (sym there) (fields_fit (high_before (pos 0) xs slot) (insn_at xs slot) (before_fits xs slot f lt) (f.fields slot lt)))
    ∙ there

wide_before : (high : ℤ) (x : Insn) → (not (is_half x) && ((fields_of high x).op == 0x18)) ≡ is_wide x
wide_before high insn.Half = refl
wide_before high x = wide_opcode x

-- the second halves of the bytes are those of the instructions
pub halves_again : (xs : List Insn) (slot : ℕ) → IsWellFormed xs → slot < length xs → is_second_half (encoding xs) slot ≡ is_half (insn_at xs slot)
halves_again xs zero f lt = sym (half-zero (encoding xs)) ∙ sym f.first
halves_again xs (suc slot) f lt =
    let here : slot < length xs = omega (arith, lt) in
    let one : slot + 1 ≡ suc slot = omega arith in
    let op : get_or (encoding xs) (8 * slot) 0 ≡ (fields_of (high_before (pos 0) xs slot) (insn_at xs slot)).op = sym (raw_at-op (encoding xs) slot) ∙ ap (λ (r : Raw). r.op) (slot_fields xs slot f here) in
    ap (is_second_half (encoding xs)) (sym one)
    ∙ half-step (encoding xs) slot
    ∙ ap (λ (b : Bool). not b && (get_or (encoding xs) (8 * slot) 0 == 0x18)) (halves_again xs slot f here)
    ∙ ap (λ (n : ℕ). not (is_half (insn_at xs slot)) && (n == 0x18)) op
    ∙ wide_before (high_before (pos 0) xs slot) (insn_at xs slot)
    ∙ sym (f.halves slot (omega (arith, lt)))
    ∙ ap (λ (k : ℕ). is_half (insn_at xs k)) one
