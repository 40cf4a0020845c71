-- What a state word says, bit by bit, and the operations on it.
use Rattle.std.proofs.Common.{◌≡◌, ℕ, ◌+◌, ◌*◌, ◌/◌, ◌%◌, ◌^◌, ◌<◌, ◌≤◌, ◌==◌, Bool, true, false, sym, ap, ◌∙◌, arith}
use Rattle.std.specs.Prelude.{bit_and, bit_or}
use Rattle.std.proofs.lemmas.Bool.Decides.{nat_tests}
use Rattle.std.specs.Int.Bits.{or_zero_r, and_zero_r}
use Rattle.std.proofs.lemmas.Nat.{or_block, and_block, and_mask}
use Rattle.shfl_line.specs.declared.words.NodeState.{NodeState}
use Rattle.shfl_line.specs.Words.{bit, packed_state, ready_of, shuffler_of, parked_of, spin_of, batch_of, state_of, IsStateWord}

pub small : (b : Bool) → bit b ≤ 1
small true = omega arith
small false = omega arith

tell : (n : ℕ) (b : Bool) → n ≡ bit b → (n == 1) ≡ b
tell n true e = grind (arith, nat_tests)
tell n false e = grind (arith, nat_tests)

module _ (r s p k : Bool) (b : ℕ) where
  ready-is : ready_of (packed_state r s p k b) ≡ r
  ready-is = let a = small r in tell (packed_state r s p k b % 2) r (omega arith)

  shuffler-is : shuffler_of (packed_state r s p k b) ≡ s
  shuffler-is = let a = small r in let c = small s in tell (packed_state r s p k b / 2 % 2) s (omega arith)

  parked-is : parked_of (packed_state r s p k b) ≡ p
  parked-is = let a = small r in let c = small s in let d = small p in tell (packed_state r s p k b / 4 % 2) p (omega arith)

  spin-is : spin_of (packed_state r s p k b) ≡ k
  spin-is = let a = small r in let c = small s in let d = small p in let f = small k in tell (packed_state r s p k b / 8 % 2) k (omega arith)

  batch-is : batch_of (packed_state r s p k b) ≡ b
  batch-is = let a = small r in let c = small s in let d = small p in let f = small k in omega arith

  pub state-is : state_of (packed_state r s p k b) ≡ record { ready = r; shuffler = s; parked = p; spin = k; batch = b }
  state-is = λ j. record { ready = ready-is j; shuffler = shuffler-is j; parked = parked-is j; spin = spin-is j; batch = batch-is j }

-- the word of these fields, and what it says
pub record Says (n : ℕ) (s : NodeState) : Type 0 where
  pub form : IsStateWord n
  pub is : state_of n ≡ s

pub says : (n : ℕ) (r s p k : Bool) (b : ℕ) → b ≤ 1024 → n ≡ packed_state r s p k b → Says n (record { ready = r; shuffler = s; parked = p; spin = k; batch = b })
says n r s p k b few e = record { form = record { ready = r; shuffler = s; parked = p; spin = k; batch = b; few = few; is = e }; is = ap state_of e ∙ state-is r s p k b }

-- what a lawful word says, as its fields
pub read : (n : ℕ) (w : IsStateWord n) → state_of n ≡ record { ready = w.ready; shuffler = w.shuffler; parked = w.parked; spin = w.spin; batch = w.batch }
read n w = (says n w.ready w.shuffler w.parked w.spin w.batch w.few w.is).is

-- one bit is set
or-bit : (k a x : ℕ) (b : Bool) → x < 2 ^ k → 0 < 2 ^ k → bit_or ((a * 2 + bit b) * 2 ^ k + x) (1 * 2 ^ k + 0) ≡ (a * 2 + 1) * 2 ^ k + x
or-bit k a x b h pos = or_block k (a * 2 + bit b) 1 x 0 h pos ∙ (λ j. one j * 2 ^ k + or_zero_r x j)
  where
    one : bit_or (a * 2 + bit b) 1 ≡ a * 2 + 1
    one = or_block 1 a 0 (bit b) 1 (let c = small b in omega arith) (omega arith) ∙ ((λ j. or_zero_r a j * 2 ^ 1 + bit_or (bit b) 1) ∙ by b)
      where
        by : (b : Bool) → a * 2 ^ 1 + bit_or (bit b) 1 ≡ a * 2 + 1
        by true = omega arith
        by false = omega arith

pub or-parked : (n : ℕ) → IsStateWord n → Says (bit_or n 4) (record (state_of n) { parked = true })
or-parked n w = let t = says (bit_or n 4) w.ready w.shuffler true w.spin w.batch w.few
    (ap (λ z. bit_or z 4) (w.is ∙ (let e : packed_state w.ready w.shuffler w.parked w.spin w.batch ≡ ((bit w.spin + 8192 * w.batch) * 2 + bit w.parked) * 2 ^ 2 + (bit w.ready + 2 * bit w.shuffler) = omega arith in e))
    ∙ (or-bit 2 (bit w.spin + 8192 * w.batch) (bit w.ready + 2 * bit w.shuffler) w.parked (let a = small w.ready in let b = small w.shuffler in omega arith) (omega arith)
    ∙ (let e : ((bit w.spin + 8192 * w.batch) * 2 + 1) * 2 ^ 2 + (bit w.ready + 2 * bit w.shuffler) ≡ packed_state w.ready w.shuffler true w.spin w.batch = omega arith in e))) in
    record { form = t.form; is = t.is ∙ ap (λ (z : NodeState). record z { parked = true }) (sym (read n w)) }

pub or-ready : (n : ℕ) → IsStateWord n → Says (bit_or n 1) (record (state_of n) { ready = true })
or-ready n w = let t = says (bit_or n 1) true w.shuffler w.parked w.spin w.batch w.few
    (ap (λ z. bit_or z 1) (w.is ∙ (let e : packed_state w.ready w.shuffler w.parked w.spin w.batch ≡ ((bit w.shuffler + 2 * bit w.parked + 4 * bit w.spin + 32768 * w.batch) * 2 + bit w.ready) * 2 ^ 0 + 0 = omega arith in e))
    ∙ (or-bit 0 (bit w.shuffler + 2 * bit w.parked + 4 * bit w.spin + 32768 * w.batch) 0 w.ready (omega arith) (omega arith)
    ∙ (let e : ((bit w.shuffler + 2 * bit w.parked + 4 * bit w.spin + 32768 * w.batch) * 2 + 1) * 2 ^ 0 + 0 ≡ packed_state true w.shuffler w.parked w.spin w.batch = omega arith in e))) in
    record { form = t.form; is = t.is ∙ ap (λ (z : NodeState). record z { ready = true }) (sym (read n w)) }

pub or-shuffler : (n : ℕ) → IsStateWord n → Says (bit_or n 2) (record (state_of n) { shuffler = true })
or-shuffler n w = let t = says (bit_or n 2) w.ready true w.parked w.spin w.batch w.few
    (ap (λ z. bit_or z 2) (w.is ∙ (let e : packed_state w.ready w.shuffler w.parked w.spin w.batch ≡ ((bit w.parked + 2 * bit w.spin + 16384 * w.batch) * 2 + bit w.shuffler) * 2 ^ 1 + bit w.ready = omega arith in e))
    ∙ (or-bit 1 (bit w.parked + 2 * bit w.spin + 16384 * w.batch) (bit w.ready) w.shuffler (let a = small w.ready in omega arith) (omega arith)
    ∙ (let e : ((bit w.parked + 2 * bit w.spin + 16384 * w.batch) * 2 + 1) * 2 ^ 1 + bit w.ready ≡ packed_state w.ready true w.parked w.spin w.batch = omega arith in e))) in
    record { form = t.form; is = t.is ∙ ap (λ (z : NodeState). record z { shuffler = true }) (sym (read n w)) }

-- the announcement is taken back
pub and-parked : (n : ℕ) → IsStateWord n → Says (bit_and n 18446744073709551611) (record (state_of n) { parked = false })
and-parked n w = let t = says (bit_and n 18446744073709551611) w.ready w.shuffler false w.spin w.batch w.few
    (ap (λ z. bit_and z 18446744073709551611) (w.is ∙ (let e : packed_state w.ready w.shuffler w.parked w.spin w.batch ≡ ((bit w.spin + 8192 * w.batch) * 2 + bit w.parked) * 2 ^ 2 + (bit w.ready + 2 * bit w.shuffler) = omega arith in e))
    ∙ (and_block 2 ((bit w.spin + 8192 * w.batch) * 2 + bit w.parked) 4611686018427387902 (bit w.ready + 2 * bit w.shuffler) 3 low (omega arith)
    ∙ ((λ j. high j * 2 ^ 2 + and_mask (bit w.ready + 2 * bit w.shuffler) 2 j)
    ∙ (let l = low in let e : (bit w.spin + 8192 * w.batch) * 2 * 2 ^ 2 + (bit w.ready + 2 * bit w.shuffler) % 2 ^ 2 ≡ packed_state w.ready w.shuffler false w.spin w.batch = omega arith in e)))) in
    record { form = t.form; is = t.is ∙ ap (λ (z : NodeState). record z { parked = false }) (sym (read n w)) }
  where
    low : bit w.ready + 2 * bit w.shuffler < 2 ^ 2
    low = let a = small w.ready in let b = small w.shuffler in omega arith

    few : bit w.spin + 8192 * w.batch < 2 ^ 61
    few = let a = small w.spin in let b = w.few in omega arith

    high : bit_and ((bit w.spin + 8192 * w.batch) * 2 + bit w.parked) 4611686018427387902 ≡ (bit w.spin + 8192 * w.batch) * 2
    high = and_block 1 (bit w.spin + 8192 * w.batch) 2305843009213693951 (bit w.parked) 0 (let a = small w.parked in omega arith) (omega arith)
        ∙ ((λ j. and_mask (bit w.spin + 8192 * w.batch) 61 j * 2 ^ 1 + and_zero_r (bit w.parked) j)
        ∙ (let f = few in let e : (bit w.spin + 8192 * w.batch) % 2 ^ 61 * 2 ^ 1 + 0 ≡ (bit w.spin + 8192 * w.batch) * 2 = omega arith in e))
