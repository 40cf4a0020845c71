-- Registers, numbers and places that were written are read again.
use Rattle.std.proofs.Common.{◌≡◌, ℕ, ℤ, pos, negsuc, ◌-◌, ◌^◌, ◌<◌, ◌≤◌, suc, List, [], ◌∷◌, true, false, not, ◌==◌, nat_le, Result, Ok, refl, sym, ap, ◌∙◌, subst, arith, FitsSigned, codes}
use Rattle.std.specs.Int.{w16, w32}
use Rattle.std.specs.Fmt.{decimal, signed_decimal}
use Rattle.std.specs.Str.{all_ascii_digits}
use Rattle.std.specs.Char.{is_ascii_digit}
use Rattle.std.proofs.lemmas.Bool.{and_parts, le-leb, ne_eqb, leb-true, false≢true}
use Rattle.bpf_isa.specs.declared.insn.Operand.{Operand}
use Rattle.bpf_isa.specs.declared.insn.Operand.TheVariants as operand
use Rattle.bpf_isa.specs.WellFormed.{HasOperand}
use Rattle.doc_text.specs.Numbers.{is_decimal, is_padded}
use Rattle.doc_text.proofs.Counting.{is_decimal-decimal, decimal-value}
use Rattle.bpf_asm.specs.Disassembly.{register_text, source_text}
use Rattle.bpf_isa.specs.Checks.{◌>>=◌}
use Rattle.bpf_asm.specs.Operands.{magnitude_in, below_zero, signed_in, short_in, long_in, wide_in, register_number, register_in, source_in, Place, place_in}
use Rattle.bpf_asm.proofs.Sound.{Within}

-- a word that begins with a digit
pub record Digit (word : List ℕ) : Type 0 where
  pub first : ℕ
  pub rest : List ℕ
  pub parts : word ≡ first ∷ rest
  pub low : 48 ≤ first
  pub high : first ≤ 57

digit_first : (word : List ℕ) → is_decimal word ≡ true → Digit word
digit_first [] e = absurd (false≢true e)
digit_first (b ∷ bs) e =
    let digits = (and_parts (not (is_padded (b ∷ bs))) (all_ascii_digits (b ∷ bs)) e).1 in
    let digit = (and_parts (is_ascii_digit b) (all_ascii_digits bs) digits).0 in
    let ends = and_parts (nat_le 48 b) (nat_le b 57) digit in
    record { first = b; rest = bs; parts = refl; low = leb-true 48 b ends.0; high = leb-true b 57 ends.1 }

pub magnitude_again : (most n : ℕ) → n ≤ most → n < 2 ^ 64 → magnitude_in most (decimal n) ≡ Ok n
magnitude_again most n le small = let d = is_decimal-decimal n small in rw (d.0, d.1, le-leb n most le) refl

-- a word without a sign is a number at or above 0
unsigned : (low high : ℕ) (word : List ℕ) → Digit word → signed_in low high word ≡ (magnitude_in high word >>= λ n. Ok (pos n))
unsigned low high word d = subst (λ (w : List ℕ). signed_in low high w ≡ (magnitude_in high w >>= λ n. Ok (pos n))) (sym d.parts)
    (let minus : (d.first == 45) ≡ false = ne_eqb d.first 45 (λ e. omega (arith, e, d.low)) in rw minus refl)

pub signed_again : (low high : ℕ) (z : ℤ) → low < 2 ^ 64 → high < 2 ^ 64 → Within low high z → signed_in low high (signed_decimal z) ≡ Ok z
signed_again low high (pos n) l h within =
    let small : n < 2 ^ 64 = omega (arith, within, h) in
    unsigned low high (decimal n) (digit_first (decimal n) (is_decimal-decimal n small).0) ∙ ap (λ (m : Result ℕ ℕ). m >>= λ k. Ok (pos k)) (magnitude_again high n within small)
signed_again low high (negsuc n) l h within =
    let small : suc n < 2 ^ 64 = omega (arith, within, l) in
    let some : (suc n == 0) ≡ false = ne_eqb (suc n) 0 (λ e. omega (arith, e)) in
    ap (λ (m : Result ℕ ℕ). m >>= below_zero) (magnitude_again low (suc n) within small) ∙ rw some refl

within_short : (z : ℤ) → FitsSigned w16 z → Within (2 ^ 15) (2 ^ 15 - 1) z
within_short (pos n) f = omega (arith, f.sfits)
within_short (negsuc n) f = omega (arith, f.sfits)

within_long : (z : ℤ) → FitsSigned w32 z → Within (2 ^ 31) (2 ^ 31 - 1) z
within_long (pos n) f = omega (arith, f.sfits)
within_long (negsuc n) f = omega (arith, f.sfits)

pub short_again : (z : ℤ) → FitsSigned w16 z → short_in (signed_decimal z) ≡ Ok z
short_again z f = signed_again (2 ^ 15) (2 ^ 15 - 1) z (omega arith) (omega arith) (within_short z f)

pub long_again : (z : ℤ) → FitsSigned w32 z → long_in (signed_decimal z) ≡ Ok z
long_again z f = signed_again (2 ^ 31) (2 ^ 31 - 1) z (omega arith) (omega arith) (within_long z f)

pub wide_again : (n : ℕ) → n < 2 ^ 64 → wide_in (decimal n) ≡ Ok n
wide_again n small = by (decimal n) (digit_first (decimal n) (is_decimal-decimal n small).0) ∙ magnitude_again (2 ^ 64 - 1) n (omega (arith, small)) small
  where
    by : (word : List ℕ) → Digit word → wide_in word ≡ magnitude_in (2 ^ 64 - 1) word
    by word d = subst (λ (w : List ℕ). wide_in w ≡ magnitude_in (2 ^ 64 - 1) w) (sym d.parts)
        (let minus : (d.first == 45) ≡ false = ne_eqb d.first 45 (λ e. omega (arith, e, d.low)) in rw minus refl)

number_again : (n : ℕ) → n ≤ 9 → register_number (decimal n) ≡ Ok n
number_again n le = let d = is_decimal-decimal n (omega (arith, le)) in rw (d.0, d.1, le-leb n 9 le) refl

pub register_again : (n : ℕ) → n ≤ 9 → register_in (register_text n) ≡ Ok n
register_again n le = number_again n le

-- a number is no register and no name
number_source : (word : List ℕ) → Digit word → source_in word ≡ (long_in word >>= λ n. Ok (operand.Imm n))
number_source word d = subst (λ (w : List ℕ). source_in w ≡ (long_in w >>= λ n. Ok (operand.Imm n))) (sym d.parts)
    (let other : (d.first == 114) ≡ false = ne_eqb d.first 114 (λ e. omega (arith, e, d.high)) in rw other refl)

number_place : (number : List ℕ → Result ℤ ℕ) (word : List ℕ) → Digit word → place_in number word ≡ (number word >>= λ off. Ok (Place.By off))
number_place number word d = subst (λ (w : List ℕ). place_in number w ≡ (number w >>= λ off. Ok (Place.By off))) (sym d.parts)
    (let other : (d.first == 64) ≡ false = ne_eqb d.first 64 (λ e. omega (arith, e, d.high)) in rw other refl)

small_32 : (n : ℕ) → FitsSigned w32 (pos n) → n < 2 ^ 64
small_32 n f = omega (arith, f.sfits)

pub source_again : (o : Operand) → HasOperand o → source_in (source_text o) ≡ Ok o
source_again (operand.Reg n) le = ap (λ (m : Result ℕ ℕ). m >>= λ r. Ok (operand.Reg r)) (number_again n le)
source_again (operand.Imm (pos n)) f =
    number_source (decimal n) (digit_first (decimal n) (is_decimal-decimal n (small_32 n f)).0) ∙ ap (λ (m : Result ℤ ℕ). m >>= λ k. Ok (operand.Imm k)) (long_again (pos n) f)
source_again (operand.Imm (negsuc n)) f = ap (λ (m : Result ℤ ℕ). m >>= λ k. Ok (operand.Imm k)) (long_again (negsuc n) f)

place_again : (number : List ℕ → Result ℤ ℕ) (z : ℤ) → ((n : ℕ) → z ≡ pos n → n < 2 ^ 64) → number (signed_decimal z) ≡ Ok z → place_in number (signed_decimal z) ≡ Ok (Place.By z)
place_again number (pos n) small e = number_place number (decimal n) (digit_first (decimal n) (is_decimal-decimal n (small n refl)).0) ∙ ap (λ (m : Result ℤ ℕ). m >>= λ k. Ok (Place.By k)) e
place_again number (negsuc n) small e = ap (λ (m : Result ℤ ℕ). m >>= λ k. Ok (Place.By k)) e

short_small : (z : ℤ) → FitsSigned w16 z → (n : ℕ) → z ≡ pos n → n < 2 ^ 64
short_small z f n e = let g : FitsSigned w16 (pos n) = subst (FitsSigned w16) e f in omega (arith, g.sfits)

long_small : (z : ℤ) → FitsSigned w32 z → (n : ℕ) → z ≡ pos n → n < 2 ^ 64
long_small z f n e = let g : FitsSigned w32 (pos n) = subst (FitsSigned w32) e f in omega (arith, g.sfits)

pub short_place_again : (z : ℤ) → FitsSigned w16 z → place_in short_in (signed_decimal z) ≡ Ok (Place.By z)
short_place_again z f = place_again short_in z (short_small z f) (short_again z f)

pub long_place_again : (z : ℤ) → FitsSigned w32 z → place_in long_in (signed_decimal z) ≡ Ok (Place.By z)
long_place_again z f = place_again long_in z (long_small z f) (long_again z f)

-- the numbers of bits as text
pub decimal_8 : decimal 8 ≡ codes "8"
decimal_8 = sym (decimal-value (codes "8") refl (omega arith))

pub decimal_16 : decimal 16 ≡ codes "16"
decimal_16 = sym (decimal-value (codes "16") refl (omega arith))

pub decimal_32 : decimal 32 ≡ codes "32"
decimal_32 = sym (decimal-value (codes "32") refl (omega arith))

pub decimal_64 : decimal 64 ≡ codes "64"
decimal_64 = sym (decimal-value (codes "64") refl (omega arith))
