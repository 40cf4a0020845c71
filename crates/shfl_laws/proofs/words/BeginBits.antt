-- A round begins in the pass's own state word, in bits: the batch number becomes at least 1, and the flag is cleared.
use Rattle.std.proofs.Common.{◌≡◌, ℕ, zero, suc, ◌+◌, ◌*◌, ◌^◌, ◌<◌, ◌==◌, Bool, true, false, cond, sym, ap, ◌∙◌, arith}
use Rattle.std.specs.Prelude.{bit_xor, max}
use Rattle.std.proofs.lemmas.Bool.Decides.{nat_tests}
use Rattle.std.specs.Int.Bits.{xor_zero_r}
use Rattle.std.proofs.lemmas.Nat.{xor_block}
use Rattle.shfl_line.specs.declared.words.NodeState.{NodeState}
use Rattle.shfl_line.specs.Words.{bit, packed_state, state_of, IsStateWord}
use Rattle.shfl_laws.proofs.words.StateBits.{Says, says, read}
use Rattle.shfl_laws.proofs.words.StateBits as Bits

abbrev high : Bool → ℕ
high z = cond z 1 0

abbrev two : Bool → ℕ
two f = cond f 2 0

low : (r s p x : Bool) → bit_xor (bit r + 2 * bit s + 4 * bit p + 8 * bit x) (two s) ≡ bit r + 4 * bit p + 8 * bit x
low true true true true = omega arith
low true true true false = omega arith
low true true false true = omega arith
low true true false false = omega arith
low true false true true = omega arith
low true false true false = omega arith
low true false false true = omega arith
low true false false false = omega arith
low false true true true = omega arith
low false true true false = omega arith
low false true false true = omega arith
low false true false false = omega arith
low false false true true = omega arith
low false false true false = omega arith
low false false false true = omega arith
low false false false false = omega arith

small : (r s p x : Bool) → bit r + 2 * bit s + 4 * bit p + 8 * bit x < 2 ^ 16
small r s p x = let a = Bits.small r in let b = Bits.small s in let c = Bits.small p in let d = Bits.small x in omega arith

two-small : (f : Bool) → two f < 2 ^ 16
two-small true = omega arith
two-small false = omega arith

-- the batch number: 0 becomes 1, any other stays
raised : (b : ℕ) → bit_xor b (high (b == 0)) ≡ max 1 b
raised zero = omega arith
raised (suc b) = let z : (suc b == 0) ≡ false = grind (arith, nat_tests) in ap (λ y. bit_xor (suc b) (high y)) z ∙ raise-some b
  where
    raise-some : (b : ℕ) → bit_xor (suc b) 0 ≡ max 1 (suc b)
    raise-some b = xor_zero_r (suc b) ∙ (let e : suc b ≡ max 1 (suc b) = omega arith in e)

-- the mask in two parts
mask : (z f : Bool) → cond z 65536 0 + cond f 2 0 ≡ high z * 2 ^ 16 + two f
mask true true = omega arith
mask true false = omega arith
mask false true = omega arith
mask false false = omega arith

pub xor-begin : (n : ℕ) → IsStateWord n → (b : ℕ) (f : Bool) → b ≡ (state_of n).batch → f ≡ (state_of n).shuffler → Says (bit_xor n (cond (b == 0) 65536 0 + cond f 2 0)) (record (state_of n) { shuffler = false; batch = max 1 b })
xor-begin n w b f eb ef = let r = read n w in let kb : b ≡ w.batch = eb ∙ ap (λ (z : NodeState). z.batch) r in let kf : f ≡ w.shuffler = ef ∙ ap (λ (z : NodeState). z.shuffler) r in
    let few = w.few in
    let t = says (bit_xor n (cond (b == 0) 65536 0 + cond f 2 0)) w.ready false w.parked w.spin (max 1 w.batch) (omega arith)
    (ap (λ y. bit_xor y (cond (b == 0) 65536 0 + cond f 2 0)) w.is ∙ ((λ j. bit_xor (packed_state w.ready w.shuffler w.parked w.spin w.batch) (cond (kb j == 0) 65536 0 + cond (kf j) 2 0)) ∙ step w.ready w.shuffler w.parked w.spin w.batch)) in
    record { form = t.form; is = t.is ∙ ((λ j. record { ready = w.ready; shuffler = false; parked = w.parked; spin = w.spin; batch = max 1 (sym kb j) }) ∙ ap (λ (y : NodeState). record y { shuffler = false; batch = max 1 b }) (sym r)) }
  where
    step : (r s p x : Bool) (b : ℕ) → bit_xor (packed_state r s p x b) (cond (b == 0) 65536 0 + cond s 2 0) ≡ packed_state r false p x (max 1 b)
    step r s p x b = ap (λ y. bit_xor y (cond (b == 0) 65536 0 + cond s 2 0)) (let e : packed_state r s p x b ≡ b * 2 ^ 16 + (bit r + 2 * bit s + 4 * bit p + 8 * bit x) = omega arith in e)
        ∙ (ap (λ y. bit_xor (b * 2 ^ 16 + (bit r + 2 * bit s + 4 * bit p + 8 * bit x)) y) (mask (b == 0) s)
        ∙ (xor_block 16 b (high (b == 0)) (bit r + 2 * bit s + 4 * bit p + 8 * bit x) (two s) (small r s p x) (two-small s)
        ∙ ((λ j. raised b j * 2 ^ 16 + low r s p x j) ∙ (let e : max 1 b * 2 ^ 16 + (bit r + 4 * bit p + 8 * bit x) ≡ packed_state r false p x (max 1 b) = omega arith in e))))
