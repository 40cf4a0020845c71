-- The operations on the lock word, in bits.
use Rattle.std.proofs.Common.{◌≡◌, ℕ, ◌+◌, ◌-◌, ◌*◌, ◌%◌, ◌^◌, ◌<◌, ◌≤◌, Bool, true, false, sym, ap, ◌∙◌, subst, arith}
use Rattle.std.specs.Prelude.{bit_and, bit_or}
use Rattle.std.proofs.lemmas.Bool.Decides.{nat_tests}
use Rattle.std.specs.Int.Bits.{or_zero_r}
use Rattle.std.proofs.lemmas.Nat.{or_block, and_block, and_mask}
use Rattle.shfl_line.specs.Words.{bit, packed_lock, held_of, closed_of, readers_of, IsLockWord}
use Rattle.shfl_laws.proofs.words.StateBits.{small}

-- what the word of these fields says
pub held-is : (h c : Bool) (r : ℕ) → held_of (packed_lock h c r) ≡ h
held-is true true r = grind (arith, nat_tests)
held-is true false r = grind (arith, nat_tests)
held-is false true r = grind (arith, nat_tests)
held-is false false r = grind (arith, nat_tests)

pub closed-is : (h c : Bool) (r : ℕ) → closed_of (packed_lock h c r) ≡ c
closed-is true true r = grind (arith, nat_tests)
closed-is true false r = grind (arith, nat_tests)
closed-is false true r = grind (arith, nat_tests)
closed-is false false r = grind (arith, nat_tests)

pub readers-is : (h c : Bool) (r : ℕ) → readers_of (packed_lock h c r) ≡ r
readers-is true true r = omega arith
readers-is true false r = omega arith
readers-is false true r = omega arith
readers-is false false r = omega arith

-- a word and what it says
pub record Says (n : ℕ) (h c : Bool) (r : ℕ) : Type 0 where
  pub form : IsLockWord n
  pub held : held_of n ≡ h
  pub closed : closed_of n ≡ c
  pub readers : readers_of n ≡ r

pub says : (n : ℕ) (h c : Bool) (r : ℕ) → r < 2 ^ 32 → n ≡ packed_lock h c r → Says n h c r
says n h c r few e = record {
  form = record { held = h; closed = c; readers = r; few = few; is = e };
  held = ap held_of e ∙ held-is h c r;
  closed = ap closed_of e ∙ closed-is h c r;
  readers = ap readers_of e ∙ readers-is h c r;
}

-- a lawful word is the word of what it says
pub word-is : (n : ℕ) → IsLockWord n → (n ≡ packed_lock (held_of n) (closed_of n) (readers_of n)) × (readers_of n < 2 ^ 32)
word-is n w = let s = says n w.held w.closed w.readers w.few w.is in (w.is ∙ (λ j. packed_lock (sym s.held j) (sym s.closed j) (sym s.readers j)), subst (λ z. z < 2 ^ 32) (sym s.readers) w.few)

or-low : (k a r s : ℕ) → r < 2 ^ k → s < 2 ^ k → bit_or (a * 2 ^ k + r) s ≡ a * 2 ^ k + bit_or r s
or-low k a r s h i = ap (λ z. bit_or (a * 2 ^ k + r) z) (let e : s ≡ 0 * 2 ^ k + s = omega arith in e) ∙ (or_block k a 0 r s h i ∙ ap (λ z. z * 2 ^ k + bit_or r s) (or_zero_r a))

two-small : (h c : Bool) → bit h + 256 * bit c < 2 ^ 16
two-small h c = let a = small h in let b = small c in omega arith

or-held : (h c : Bool) (r : ℕ) → bit_or (packed_lock h c r) 1 ≡ packed_lock true c r
or-held h c r = ap (λ z. bit_or z 1) (let e : packed_lock h c r ≡ (bit c + 16777216 * r) * 2 ^ 8 + bit h = omega arith in e) ∙ (or-low 8 (bit c + 16777216 * r) (bit h) 1 (let z = small h in omega arith) (omega arith) ∙ by h)
  where
    by : (h : Bool) → (bit c + 16777216 * r) * 2 ^ 8 + bit_or (bit h) 1 ≡ packed_lock true c r
    by true = omega arith
    by false = omega arith

or-closed : (h c : Bool) (r : ℕ) → bit_or (packed_lock h c r) 256 ≡ packed_lock h true r
or-closed h c r = ap (λ z. bit_or z 256) (let e : packed_lock h c r ≡ (65536 * r) * 2 ^ 16 + (bit h + 256 * bit c) = omega arith in e) ∙ (or-low 16 (65536 * r) (bit h + 256 * bit c) 256 (two-small h c) (omega arith) ∙ by h c)
  where
    by : (h c : Bool) → (65536 * r) * 2 ^ 16 + bit_or (bit h + 256 * bit c) 256 ≡ packed_lock h true r
    by true true = omega arith
    by true false = omega arith
    by false true = omega arith
    by false false = omega arith

and-held : (h c : Bool) (r : ℕ) → r < 2 ^ 32 → bit_and (packed_lock h c r) 18446744073709551614 ≡ packed_lock false c r
and-held h c r b = ap (λ z. bit_and z 18446744073709551614) (let e : packed_lock h c r ≡ (bit c + 16777216 * r) * 2 ^ 8 + bit h = omega arith in e) ∙ (and_block 8 (bit c + 16777216 * r) (2 ^ 56 - 1) (bit h) 254 (let z = small h in omega arith) (omega arith) ∙
    (ap (λ z. z * 2 ^ 8 + bit_and (bit h) 254) (and_mask (bit c + 16777216 * r) 56 ∙ less (bit c + 16777216 * r) (high c)) ∙ by h))
  where
    high : (c : Bool) → bit c + 16777216 * r < 2 ^ 56
    high true = omega arith
    high false = omega arith

    less : (n : ℕ) → n < 2 ^ 56 → n % 2 ^ 56 ≡ n
    less n l = omega arith

    by : (h : Bool) → (bit c + 16777216 * r) * 2 ^ 8 + bit_and (bit h) 254 ≡ packed_lock false c r
    by true = omega arith
    by false = omega arith

and-closed : (h c : Bool) (r : ℕ) → r < 2 ^ 32 → bit_and (packed_lock h c r) 18446744073709551359 ≡ packed_lock h false r
and-closed h c r b = ap (λ z. bit_and z 18446744073709551359) (let e : packed_lock h c r ≡ (65536 * r) * 2 ^ 16 + (bit h + 256 * bit c) = omega arith in e) ∙ (and_block 16 (65536 * r) (2 ^ 48 - 1) (bit h + 256 * bit c) 65279 (two-small h c) (omega arith) ∙
    (ap (λ z. z * 2 ^ 16 + bit_and (bit h + 256 * bit c) 65279) (and_mask (65536 * r) 48 ∙ less (65536 * r) (omega arith)) ∙ by h c))
  where
    less : (n : ℕ) → n < 2 ^ 48 → n % 2 ^ 48 ≡ n
    less n l = omega arith

    by : (h c : Bool) → (65536 * r) * 2 ^ 16 + bit_and (bit h + 256 * bit c) 65279 ≡ packed_lock h false r
    by true true = omega arith
    by true false = omega arith
    by false true = omega arith
    by false false = omega arith

module _ (n : ℕ) (w : IsLockWord n) where
  pub lock-or-held : Says (bit_or n 1) true (closed_of n) (readers_of n)
  lock-or-held = let k = word-is n w in says _ true (closed_of n) (readers_of n) k.1 (ap (λ z. bit_or z 1) k.0 ∙ or-held (held_of n) (closed_of n) (readers_of n))

  pub lock-or-closed : Says (bit_or n 256) (held_of n) true (readers_of n)
  lock-or-closed = let k = word-is n w in says _ (held_of n) true (readers_of n) k.1 (ap (λ z. bit_or z 256) k.0 ∙ or-closed (held_of n) (closed_of n) (readers_of n))

  pub lock-and-held : Says (bit_and n 18446744073709551614) false (closed_of n) (readers_of n)
  lock-and-held = let k = word-is n w in says _ false (closed_of n) (readers_of n) k.1 (ap (λ z. bit_and z 18446744073709551614) k.0 ∙ and-held (held_of n) (closed_of n) (readers_of n) k.1)

  pub lock-and-closed : Says (bit_and n 18446744073709551359) (held_of n) false (readers_of n)
  lock-and-closed = let k = word-is n w in says _ (held_of n) false (readers_of n) k.1 (ap (λ z. bit_and z 18446744073709551359) k.0 ∙ and-closed (held_of n) (closed_of n) (readers_of n) k.1)

  bits : (h c : Bool) → bit h + 256 * bit c ≤ 257
  bits true true = omega arith
  bits true false = omega arith
  bits false true = omega arith
  bits false false = omega arith

  pub lock-add : readers_of n + 1 < 2 ^ 32 → Says ((n + 4294967296) % 2 ^ 64) (held_of n) (closed_of n) (readers_of n + 1)
  lock-add few = let k = word-is n w in let b = bits (held_of n) (closed_of n) in says _ (held_of n) (closed_of n) (readers_of n + 1) few (let e = k.0 in sum e b)
    where
      sum : n ≡ packed_lock (held_of n) (closed_of n) (readers_of n) → bit (held_of n) + 256 * bit (closed_of n) ≤ 257 → (n + 4294967296) % 2 ^ 64 ≡ packed_lock (held_of n) (closed_of n) (readers_of n + 1)
      sum e b = let f : n + 4294967296 ≡ packed_lock (held_of n) (closed_of n) (readers_of n + 1) = omega arith in let g : n + 4294967296 < 2 ^ 64 = omega arith in (let m : (n + 4294967296) % 2 ^ 64 ≡ n + 4294967296 = omega arith in m) ∙ f

  pub lock-sub : 0 < readers_of n → Says ((n + (2 ^ 64 - 4294967296)) % 2 ^ 64) (held_of n) (closed_of n) (readers_of n - 1)
  lock-sub some = let k = word-is n w in let b = bits (held_of n) (closed_of n) in let few = k.1 in says _ (held_of n) (closed_of n) (readers_of n - 1) (omega arith) (let e = k.0 in diff e b few)
    where
      diff : n ≡ packed_lock (held_of n) (closed_of n) (readers_of n) → bit (held_of n) + 256 * bit (closed_of n) ≤ 257 → readers_of n < 2 ^ 32 → (n + (2 ^ 64 - 4294967296)) % 2 ^ 64 ≡ packed_lock (held_of n) (closed_of n) (readers_of n - 1)
      diff e b few = let f : n ≡ packed_lock (held_of n) (closed_of n) (readers_of n - 1) + 4294967296 = omega arith in let g : packed_lock (held_of n) (closed_of n) (readers_of n - 1) < 2 ^ 64 = omega arith in
          let m : n + (2 ^ 64 - 4294967296) ≡ packed_lock (held_of n) (closed_of n) (readers_of n - 1) + 2 ^ 64 = omega arith in omega arith
