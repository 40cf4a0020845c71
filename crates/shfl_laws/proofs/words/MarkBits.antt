-- A batch number and the spin bit are written into a state word that has neither, in bits.
use Rattle.std.proofs.Common.{◌≡◌, ℕ, ◌+◌, ◌*◌, ◌^◌, ◌<◌, ◌≤◌, Bool, true, false, cond, sym, ap, ◌∙◌, arith}
use Rattle.std.specs.Prelude.{bit_or}
use Rattle.std.specs.Int.Bits.{or_zero_l}
use Rattle.std.proofs.lemmas.Nat.{or_block}
use Rattle.shfl_line.specs.declared.words.NodeState.{NodeState}
use Rattle.shfl_line.specs.Words.{bit, packed_state, state_of, IsStateWord}
use Rattle.shfl_laws.proofs.words.StateBits.{Says, says, read}
use Rattle.shfl_laws.proofs.words.StateBits as Bits

abbrev eight : Bool → ℕ
eight x = cond x 8 0

low : (r s p x : Bool) → bit_or (bit r + 2 * bit s + 4 * bit p) (eight x) ≡ bit r + 2 * bit s + 4 * bit p + 8 * bit x
low true true true true = omega arith
low true true true false = omega arith
low true true false true = omega arith
low true true false false = omega arith
low true false true true = omega arith
low true false true false = omega arith
low true false false true = omega arith
low true false false false = omega arith
low false true true true = omega arith
low false true true false = omega arith
low false true false true = omega arith
low false true false false = omega arith
low false false true true = omega arith
low false false true false = omega arith
low false false false true = omega arith
low false false false false = omega arith

small : (r s p : Bool) → bit r + 2 * bit s + 4 * bit p < 2 ^ 16
small r s p = let a = Bits.small r in let b = Bits.small s in let c = Bits.small p in omega arith

eight-small : (x : Bool) → eight x < 2 ^ 16
eight-small true = omega arith
eight-small false = omega arith

zero-or : (b : ℕ) → bit_or 0 b ≡ b
zero-or b = or_zero_l b

pub or-mark : (n : ℕ) → IsStateWord n → (b : ℕ) (x : Bool) → b ≤ 1024 → (state_of n).spin ≡ false → (state_of n).batch ≡ 0 → Says (bit_or n (65536 * b + cond x 8 0)) (record (state_of n) { spin = x; batch = b })
or-mark n w b x few spin batch = let r = read n w in let k : w.spin ≡ false = sym (ap (λ (z : NodeState). z.spin) r) ∙ spin in let z : w.batch ≡ 0 = sym (ap (λ (z : NodeState). z.batch) r) ∙ batch in
    let is : n ≡ packed_state w.ready w.shuffler w.parked false 0 = w.is ∙ (λ j. packed_state w.ready w.shuffler w.parked (k j) (z j)) in
    let t = says (bit_or n (65536 * b + cond x 8 0)) w.ready w.shuffler w.parked x b few (ap (λ y. bit_or y (65536 * b + eight x)) is ∙ step w.ready w.shuffler w.parked) in
    record { form = t.form; is = t.is ∙ ap (λ (y : NodeState). record y { spin = x; batch = b }) (sym r) }
  where
    step : (r s p : Bool) → bit_or (packed_state r s p false 0) (65536 * b + eight x) ≡ packed_state r s p x b
    step r s p = ap (λ y. bit_or y (65536 * b + eight x)) (let e : packed_state r s p false 0 ≡ 0 * 2 ^ 16 + (bit r + 2 * bit s + 4 * bit p) = omega arith in e)
        ∙ (ap (λ y. bit_or (0 * 2 ^ 16 + (bit r + 2 * bit s + 4 * bit p)) y) (let e : 65536 * b + eight x ≡ b * 2 ^ 16 + eight x = omega arith in e)
        ∙ (or_block 16 0 b (bit r + 2 * bit s + 4 * bit p) (eight x) (small r s p) (eight-small x)
        ∙ ((λ j. zero-or b j * 2 ^ 16 + low r s p x j) ∙ (let e : b * 2 ^ 16 + (bit r + 2 * bit s + 4 * bit p + 8 * bit x) ≡ packed_state r s p x b = omega arith in e))))
