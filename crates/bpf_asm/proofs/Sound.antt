-- What a line says is well formed: its registers are 0 to 9, its numbers are within their fields, and its forms are the profile's.
use Rattle.std.proofs.Common.{◌≡◌, ℕ, ℤ, pos, negsuc, ◌-◌, ◌^◌, ◌<◌, ◌≤◌, zero, suc, List, [], ◌∷◌, false, ◌==◌, nat_le, Option, Some, None, Result, Ok, Err, refl, arith, FitsSigned}
use Rattle.std.specs.Int.{w16, w32}
use Rattle.std.proofs.lemmas.Bool.{cond_both, leb-true, ne_eqb}
use Rattle.bpf_isa.specs.declared.insn.Operand.TheVariants as operand
use Rattle.bpf_isa.specs.WellFormed.{HasOperand}
use Rattle.doc_text.specs.Numbers.{is_decimal, value_on}
use Rattle.bpf_isa.specs.Checks.{◌>>=◌}
use Rattle.bpf_asm.specs.Faults.{both, found}
use Rattle.bpf_asm.specs.Operands.{magnitude_in, below_zero, signed_in, short_in, long_in, wide_in, register_number, register_in, source_in, is_name, Place, place_in}

-- the value that a result has is such
abbrev pub Holds : {A : Type 0} → (A → Type 0) → Result A ℕ → Type 0
Holds P (Ok x) = P x
Holds P (Err e) = Unit {0}

pub bind_holds : {A B : Type 0} (Q : A → Type 0) (P : B → Type 0) (m : Result A ℕ) (f : A → Result B ℕ) → Holds Q m → ((x : A) → Q x → Holds P (f x)) → Holds P (m >>= f)
bind_holds Q P (Ok x) f h k = k x h
bind_holds Q P (Err e) f h k = tt

pub both_holds : {A B : Type 0} (P : A → Type 0) (Q : B → Type 0) (a : Result A ℕ) (b : Result B ℕ) → Holds P a → Holds Q b → Holds (λ r. P r.0 × Q r.1) (both a b)
both_holds P Q (Ok x) (Ok y) h k = (h, k)
both_holds P Q (Ok x) (Err e) h k = tt
both_holds P Q (Err d) (Ok y) h k = tt
both_holds P Q (Err d) (Err e) h k = tt

pub found_holds : {A B : Type 0} (P : B → Type 0) (o : Option A) (f : A → Result B ℕ) → ((x : A) → o ≡ Some x → Holds P (f x)) → Holds P (found o f)
found_holds P None f k = tt
found_holds P (Some x) f k = k x refl

magnitude_holds : (most : ℕ) (word : List ℕ) → Holds (λ n. n ≤ most) (magnitude_in most word)
magnitude_holds most word =
    cond_both (is_decimal word) _ _ (Holds (λ n. n ≤ most)) (λ _. cond_both (nat_le (value_on 0 word) most) _ _ (Holds (λ n. n ≤ most)) (λ e. leb-true (value_on 0 word) most e) (λ _. tt)) (λ _. tt)

-- a number whose magnitude is at most this
abbrev pub Within : ℕ → ℕ → ℤ → Type 0
Within low high (pos n) = n ≤ high
Within low high (negsuc n) = suc n ≤ low

below_holds : (low high n : ℕ) → n ≤ low → Holds (Within low high) (below_zero n)
below_holds low high zero h = tt
below_holds low high (suc n) h = let some : (suc n == 0) ≡ false = ne_eqb (suc n) 0 (λ e. omega (arith, e)) in rw some h

signed_holds : (low high : ℕ) (word : List ℕ) → Holds (Within low high) (signed_in low high word)
signed_holds low high [] = tt
signed_holds low high (b ∷ bs) =
    cond_both (b == 45) _ _ (Holds (Within low high))
    (λ _. bind_holds (λ n. n ≤ low) (Within low high) (magnitude_in low bs) below_zero (magnitude_holds low bs) (λ n h. below_holds low high n h))
    (λ _. bind_holds (λ n. n ≤ high) (Within low high) (magnitude_in high (b ∷ bs)) (λ n. Ok (pos n)) (magnitude_holds high (b ∷ bs)) (λ n h. h))

short_fits : (z : ℤ) → Within (2 ^ 15) (2 ^ 15 - 1) z → FitsSigned w16 z
short_fits (pos n) h = record { sfits = omega (arith, h) }
short_fits (negsuc n) h = record { sfits = omega (arith, h) }

long_fits : (z : ℤ) → Within (2 ^ 31) (2 ^ 31 - 1) z → FitsSigned w32 z
long_fits (pos n) h = record { sfits = omega (arith, h) }
long_fits (negsuc n) h = record { sfits = omega (arith, h) }

weaken : {A : Type 0} (P Q : A → Type 0) (m : Result A ℕ) → ((x : A) → P x → Q x) → Holds P m → Holds Q m
weaken P Q (Ok x) k h = k x h
weaken P Q (Err e) k h = tt

pub short_holds : (word : List ℕ) → Holds (FitsSigned w16) (short_in word)
short_holds word = weaken (Within (2 ^ 15) (2 ^ 15 - 1)) (FitsSigned w16) (short_in word) short_fits (signed_holds (2 ^ 15) (2 ^ 15 - 1) word)

pub long_holds : (word : List ℕ) → Holds (FitsSigned w32) (long_in word)
long_holds word = weaken (Within (2 ^ 31) (2 ^ 31 - 1)) (FitsSigned w32) (long_in word) long_fits (signed_holds (2 ^ 31) (2 ^ 31 - 1) word)

pub wide_holds : (word : List ℕ) → Holds (λ n. n < 2 ^ 64) (wide_in word)
wide_holds [] = tt
wide_holds (b ∷ bs) =
    cond_both (b == 45) _ _ (Holds (λ n. n < 2 ^ 64))
    (λ _. bind_holds (λ n. n ≤ 0) (λ n. n < 2 ^ 64) (magnitude_in 0 bs) (λ n. Err 2) (magnitude_holds 0 bs) (λ n h. tt))
    (λ _. weaken (λ n. n ≤ 2 ^ 64 - 1) (λ n. n < 2 ^ 64) (magnitude_in (2 ^ 64 - 1) (b ∷ bs)) (λ n h. omega (arith, h)) (magnitude_holds (2 ^ 64 - 1) (b ∷ bs)))

abbrev pub IsRegister : ℕ → Type 0
IsRegister n = n ≤ 9

digits_hold : (digits : List ℕ) → Holds IsRegister (register_number digits)
digits_hold digits =
    cond_both (is_decimal digits) _ _ (Holds IsRegister) (λ _. cond_both (nat_le (value_on 0 digits) 9) _ _ (Holds IsRegister) (λ e. leb-true (value_on 0 digits) 9 e) (λ _. tt)) (λ _. tt)

pub register_holds : (word : List ℕ) → Holds IsRegister (register_in word)
register_holds [] = tt
register_holds (b ∷ bs) = cond_both (b == 114) _ _ (Holds IsRegister) (λ _. digits_hold bs) (λ _. tt)

pub source_holds : (word : List ℕ) → Holds HasOperand (source_in word)
source_holds [] = tt
source_holds (b ∷ bs) =
    cond_both (b == 114) _ _ (Holds HasOperand)
    (λ _. bind_holds IsRegister HasOperand (register_number bs) (λ r. Ok (operand.Reg r)) (digits_hold bs) (λ r h. h))
    (λ _. bind_holds (FitsSigned w32) HasOperand (long_in (b ∷ bs)) (λ n. Ok (operand.Imm n)) (long_holds (b ∷ bs)) (λ n h. h))

abbrev pub PlaceFits : (ℤ → Type 0) → Place → Type 0
PlaceFits P (Place.By off) = P off
PlaceFits P (Place.To name) = Unit {0}

pub place_holds : (P : ℤ → Type 0) (number : List ℕ → Result ℤ ℕ) (word : List ℕ) → ((w : List ℕ) → Holds P (number w)) → Holds (PlaceFits P) (place_in number word)
place_holds P number [] h = tt
place_holds P number (b ∷ bs) h =
    cond_both (b == 64) _ _ (Holds (PlaceFits P))
    (λ _. cond_both (is_name bs) _ _ (Holds (PlaceFits P)) (λ _. tt) (λ _. tt))
    (λ _. bind_holds P (PlaceFits P) (number (b ∷ bs)) (λ off. Ok (Place.By off)) (h (b ∷ bs)) (λ off k. k))
