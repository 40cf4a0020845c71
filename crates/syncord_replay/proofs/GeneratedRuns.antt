-- The generated trace attaches once in a thousand calls.
use Rattle.std.proofs.Common.{◌≡◌, ℕ, zero, suc, ◌+◌, ◌/◌, ◌%◌, ◌≤◌, Bool, true, false, cond, eqb, ltb, [], ◌∷◌, length, refl, ap, arith}
use Rattle.std.specs.Prelude.{codes}
use Rattle.std.proofs.lemmas.Bool.Decides.{nat_tests}
use Rattle.std.proofs.lemmas.List.Sums.{sum_by-cons, sum_by-append, count_by-le-length}
use Rattle.trace_text.specs.Document.{Act, attach, CallLine}
use Rattle.trace_text.specs.Lines.{is_attach, attach_count}
use Rattle.trace_text.specs.Generator.{drawn, number_of, act_drawn, attached, call_drawn, calls_from}

either_calls : (b : Bool) (x y : Act) → is_attach x ≡ false → is_attach y ≡ false → is_attach (cond b x y) ≡ false
either_calls true x y first second = first
either_calls false x y first second = second

drawn_calls : (workers worker a b c : ℕ) → is_attach (act_drawn workers worker a b c) ≡ false
drawn_calls workers worker a b c =
    either_calls (ltb (a % 8) 3) _ _ refl
    (either_calls (eqb (a % 8) 3) _ _ refl
    (either_calls (eqb (a % 8) 4) _ _ refl
    (either_calls (eqb (a % 8) 5) _ _ refl
    (either_calls (eqb (a % 8) 6) _ _ refl refl))))

attached_step : (i : ℕ) → length (attached i) + (i + 499) / 1000 ≤ (suc i + 499) / 1000
attached_step i =
    let call : CallLine = record { worker = 0; act = attach (cond (eqb (i / 1000 % 2) 0) (codes "none") (codes "socket")) } in
    elim (eqb (i % 1000) 500) as (λ b. eqb (i % 1000) 500 ≡ b → length (cond b (call ∷ []) []) + (i + 499) / 1000 ≤ (suc i + 499) / 1000) [
      | true ↦ λ due. let is : i % 1000 ≡ 500 = grind (arith, nat_tests) in omega arith
      | false ↦ λ _. omega arith
    ] refl

pub drawn_attaches : (workers i x n : ℕ) → attach_count (calls_from workers i x n) + (i + 499) / 1000 ≤ (i + n + 499) / 1000
unfolding calls_from
drawn_attaches workers i x zero = omega arith
drawn_attaches workers i x (suc n) =
    let first = drawn x in let second = drawn first in let third = drawn second in
    let c = call_drawn workers i first second third in let rest = calls_from workers (suc i) third n in
    let weight : CallLine → ℕ = λ d. cond (is_attach d.act) 1 0 in
    let few = drawn_attaches workers (suc i) third n in
    let one = attached_step i in
    let here = count_by-le-length (λ (d : CallLine). is_attach d.act) (attached i) in
    let both = sum_by-append weight (attached i) (c ∷ rest) in
    let next = sum_by-cons weight c rest in
    let none : weight c ≡ 0 = ap (λ b. cond b 1 0) (drawn_calls workers (i % workers) (number_of first) (number_of second) (number_of third)) in
    omega (arith, few, one, here, both, next, none)
