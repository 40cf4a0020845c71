-- Sums over tickets and over shares.
use Rattle.std.proofs.Common.{◌≡◌, ◌⊎◌, ℕ, zero, suc, ◌+◌, ◌<◌, ◌≤◌, List, [], ◌∷◌, ◌++◌, length, set, sym, refl, ap, inl, inr, ⊎_elim, arith}
use mathlib.Core.Option.{some, some-injective, some-ne-none}
use lib.ListN.{get_elem?}
use Rattle.call_queue.specs.declared.rule.Ticket.{Ticket}
use Rattle.call_queue.specs.declared.rule.Share.{Share}
use Rattle.call_queue.specs.Rule.{IsOneOf, weigh, total}

module _ {C : Type 0} where
  pub weigh-append : (h : Ticket C → ℕ) (xs ys : List (Ticket C)) → weigh h (xs ++ ys) ≡ weigh h xs + weigh h ys
  weigh-append h [] ys = let z : weigh h ys ≡ 0 + weigh h ys = omega arith in z
  weigh-append h (x ∷ xs) ys = let r = weigh-append h xs ys in omega arith

  pub total-append : (f : Share C → ℕ) (vs : List (Share C)) (w : Share C) → total f (vs ++ w ∷ []) ≡ total f vs + f w
  total-append f [] w = omega arith
  total-append f (v ∷ vs) w = let r = total-append f vs w in omega arith

  -- a share in place of another
  pub total_set : (f : Share C → ℕ) (vs : List (Share C)) (i : ℕ) (v w : Share C) → get_elem? vs i ≡ some v → total f (set vs i w) + f v ≡ total f vs + f w
  total_set f [] i v w e = absurd (some-ne-none v (sym e))
  total_set f (x ∷ xs) zero v w e = let is : f x ≡ f v = ap f (some-injective x v e) in omega arith
  total_set f (x ∷ xs) (suc i) v w e = let r = total_set f xs i v w e in omega arith

  -- where nobody has a part, a sum over what only they have is 0
  none_total : (f : Share C → ℕ) (vs : List (Share C)) → total (λ u. u.parts) vs ≡ 0 → ((seat : ℕ) (u : Share C) → get_elem? vs seat ≡ some u → u.parts ≡ 0 → f u ≡ 0) → total f vs ≡ 0
  none_total f [] none idle = refl
  none_total f (x ∷ xs) none idle = let a = idle 0 x refl (omega arith) in let b = none_total f xs (omega arith) (λ seat u e. idle (suc seat) u e) in omega arith

  pub part_within : (vs : List (Share C)) (id : ℕ) (v : Share C) → get_elem? vs id ≡ some v → v.parts ≤ total (λ u. u.parts) vs
  part_within [] id v at = absurd (some-ne-none v (sym at))
  part_within (x ∷ xs) zero v at = let p : x.parts ≡ v.parts = ap (λ (u : Share C). u.parts) (some-injective x v at) in omega arith
  part_within (x ∷ xs) (suc id) v at = let r = part_within xs id v at in omega arith

  -- where one has every part, the sum is its own
  pub alone_total : (f : Share C → ℕ) (vs : List (Share C)) (id : ℕ) (v : Share C) → get_elem? vs id ≡ some v → v.parts ≡ 1024 → total (λ u. u.parts) vs ≡ 1024
      → ((seat : ℕ) (u : Share C) → get_elem? vs seat ≡ some u → u.parts ≡ 0 → f u ≡ 0) → total f vs ≡ f v
  alone_total f [] id v at all sum idle = absurd (some-ne-none v (sym at))
  alone_total f (x ∷ xs) zero v at all sum idle = let is = some-injective x v at in let a : f x ≡ f v = ap f is in let p : x.parts ≡ v.parts = ap (λ (u : Share C). u.parts) is in
      let b = none_total f xs (omega arith) (λ seat u e. idle (suc seat) u e) in omega arith
  alone_total f (x ∷ xs) (suc id) v at all sum idle = let p = part_within xs id v at in let a = idle 0 x refl (omega arith) in
      let b = alone_total f xs id v at all (omega arith) (λ seat u e. idle (suc seat) u e) in omega arith

  pub is_within : (l : List (Share C)) (i : ℕ) (a : Share C) → get_elem? l i ≡ some a → i < length l
  is_within [] i a e = absurd (some-ne-none a (sym e))
  is_within (x ∷ xs) zero a e = omega arith
  is_within (x ∷ xs) (suc i) a e = let h = is_within xs i a e in omega arith

  pub one_of-append : (t : Ticket C) (xs ys : List (Ticket C)) → IsOneOf t (xs ++ ys) → IsOneOf t xs ⊎ IsOneOf t ys
  one_of-append t [] ys h = inr h
  one_of-append t (x ∷ xs) ys h = ⊎_elim (λ e. inl (inl e)) (λ z. ⊎_elim (λ a. inl (inr a)) inr (one_of-append t xs ys z)) h
