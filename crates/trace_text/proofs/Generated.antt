-- One worker and one call of the generated trace at a time.
use Rattle.std.proofs.Common.{◌≡◌, ℕ, zero, suc, ◌+◌, ◌/◌, ◌%◌, ◌<◌, ◌≤◌, Bool, true, false, cond, eqb, ltb, leb, List, [], ◌∷◌, ◌++◌, length, refl, sym, ap, ◌∙◌, arith, append_assoc, length-append}
use Rattle.std.specs.Prelude.{codes, ◌&&◌}
use Rattle.std.proofs.lemmas.Bool.Decides.{nat_tests}
use Rattle.std.proofs.Math.Nat.{mul-le-mul_left}
use Rattle.trace_text.specs.declared.call_list.CallList.{CallList}
use Rattle.trace_text.specs.declared.trace.NamedSource.{NamedSource}
use Rattle.trace_text.specs.CallLists.{list_said}
use Rattle.trace_text.specs.Spelled.{MayBe}
use Rattle.trace_text.proofs.Gathering.{length-said}
use Rattle.shfl_line.specs.declared.words.Attr.{Attr}
use Rattle.trace_text.specs.Document.{Act, attach, CallLine}
use Rattle.trace_text.specs.Lines.{is_entry, is_in_range, may_do}
use Rattle.trace_text.specs.Generator.{drawn, number_of, dir_of, drawn_name, act_drawn, attached, call_drawn, calls_from, attr_of, workers_from, generated_policies}

-- the next worker goes to the end of those that are done
pub workers_more : (done : List Attr) (w n m : ℕ) → n ≡ suc m → (done ++ attr_of w ∷ []) ++ workers_from (w + 1) m ≡ done ++ workers_from w n
unfolding workers_from
workers_more done w n m more =
    let next : w + 1 ≡ suc w = omega arith in
    append_assoc done (attr_of w ∷ []) (workers_from (w + 1) m) ∙ ap (λ v. done ++ attr_of w ∷ workers_from v m) next ∙ ap (λ k. done ++ workers_from w k) (sym more)

pub workers_all : (done : List Attr) (w n : ℕ) → n ≡ 0 → done ++ workers_from w n ≡ done ++ []
unfolding workers_from
workers_all done w n none = ap (λ k. done ++ workers_from w k) none

-- the next call, behind the attachment before it
pub calls_more : (done after : List CallLine) (workers i x n m : ℕ) → n ≡ suc m
    → after ≡ (done ++ attached i) ++ call_drawn workers i (drawn x) (drawn (drawn x)) (drawn (drawn (drawn x))) ∷ []
    → after ++ calls_from workers (i + 1) (drawn (drawn (drawn x))) m ≡ done ++ calls_from workers i x n
unfolding calls_from
calls_more done after workers i x n m more added =
    let next : i + 1 ≡ suc i = omega arith in
    let call = call_drawn workers i (drawn x) (drawn (drawn x)) (drawn (drawn (drawn x))) in
    let rest = calls_from workers (suc i) (drawn (drawn (drawn x))) m in
    ap (λ xs. xs ++ calls_from workers (i + 1) (drawn (drawn (drawn x))) m) added
    ∙ ap (λ j. ((done ++ attached i) ++ call ∷ []) ++ calls_from workers j (drawn (drawn (drawn x))) m) next
    ∙ append_assoc (done ++ attached i) (call ∷ []) rest
    ∙ append_assoc done (attached i) (call ∷ rest)
    ∙ ap (λ k. done ++ calls_from workers i x k) (sym more)

pub calls_all : (done : List CallLine) (workers i x n : ℕ) → n ≡ 0 → done ++ calls_from workers i x n ≡ done ++ []
unfolding calls_from
calls_all done workers i x n none = ap (λ k. done ++ calls_from workers i x k) none

-- an attachment comes once in a thousand calls
attached_step : (i : ℕ) → length (attached i) + (i + 499) / 1000 ≤ (suc i + 499) / 1000
attached_step i =
    let call : CallLine = record { worker = 0; act = attach (cond (eqb (i / 1000 % 2) 0) (codes "none") (codes "socket")) } in
    elim (eqb (i % 1000) 500) as (λ b. eqb (i % 1000) 500 ≡ b → length (cond b (call ∷ []) []) + (i + 499) / 1000 ≤ (suc i + 499) / 1000) [
      | true ↦ λ due. let is : i % 1000 ≡ 500 = grind (arith, nat_tests) in omega arith
      | false ↦ λ _. omega arith
    ] refl

calls_few : (workers i x n : ℕ) → length (calls_from workers i x n) + (i + 499) / 1000 ≤ n + (i + n + 499) / 1000
unfolding calls_from
calls_few workers i x zero = omega arith
calls_few workers i x (suc n) =
    let third = drawn (drawn (drawn x)) in
    let rest = calls_from workers (suc i) third n in
    let few = calls_few workers (suc i) third n in
    let one = attached_step i in
    let both = length-append (attached i) (call_drawn workers i (drawn x) (drawn (drawn x)) third ∷ rest) in
    omega arith

-- the calls so far are few
pub listed_few : (policies : List NamedSource) (l : CallList) (rest : List CallLine) (workers x calls : ℕ) → calls ≤ 65000 → list_said policies l ++ rest ≡ calls_from workers 0 x calls → length l.calls.items ≤ 65065
listed_few policies l rest workers x calls most told = omega (arith, length-append (list_said policies l) rest, ap length told, calls_few workers 0 x calls, length-said policies l)

pub attached_few : (i : ℕ) → length (attached i) ≤ 1
attached_few i =
    let call : CallLine = record { worker = 0; act = attach (cond (eqb (i / 1000 % 2) 0) (codes "none") (codes "socket")) } in
    elim (eqb (i % 1000) 500) as (λ b. length (cond b (call ∷ []) []) ≤ 1) [ true ↦ omega arith | false ↦ omega arith ]

either_may : (b : Bool) (worker : ℕ) (x y : Act) → may_do generated_policies worker x ≡ true → may_do generated_policies worker y ≡ true → may_do generated_policies worker (cond b x y) ≡ true
either_may true worker x y first second = first
either_may false worker x y first second = second

drawn_may : (workers worker a b c : ℕ) → may_do generated_policies worker (act_drawn workers worker a b c) ≡ true
drawn_may workers worker a b c =
    either_may (ltb (a % 8) 3) worker _ _ refl
    (either_may (eqb (a % 8) 3) worker _ _ refl
    (either_may (eqb (a % 8) 4) worker _ _ refl
    (either_may (eqb (a % 8) 5) worker _ _ refl
    (either_may (eqb (a % 8) 6) worker _ _ refl refl))))

-- the directories and names that are drawn are in range
dir_below : (workers worker n : ℕ) → worker < workers → workers ≤ 16 → dir_of workers worker n < 64
dir_below workers worker n known few = let small : n % 4 ≤ 3 = omega arith in omega (arith, mul-le-mul_left workers small)

name_short : (b : Bool) (c d e : ℕ) → length (cond b (110 ∷ c ∷ []) (110 ∷ d ∷ e ∷ [])) ≤ 3
name_short true c d e = omega arith
name_short false c d e = omega arith

entry_ranged : (workers worker n : ℕ) → worker < workers → workers ≤ 16 → is_entry (dir_of workers worker n) (drawn_name n) ≡ true
entry_ranged workers worker n known few =
    let below = dir_below workers worker n known few in
    let short = name_short (ltb (n / 4 % 64) 10) (48 + n / 4 % 64) (48 + (n / 4 % 64) / 10) (48 + (n / 4 % 64) % 10) in
    let first : ltb (dir_of workers worker n) 64 ≡ true = grind (arith, nat_tests) in
    let second : leb (length (drawn_name n)) 255 ≡ true = grind (arith, nat_tests) in
    ap (λ b. b && leb (length (drawn_name n)) 255) first ∙ second

either_ranged : (b : Bool) (x y : Act) → is_in_range x ≡ true → is_in_range y ≡ true → is_in_range (cond b x y) ≡ true
either_ranged true x y first second = first
either_ranged false x y first second = second

drawn_ranged : (workers worker a b c : ℕ) → worker < workers → workers ≤ 16 → is_in_range (act_drawn workers worker a b c) ≡ true
drawn_ranged workers worker a b c known few =
    let here = entry_ranged workers worker b known few in
    let there = entry_ranged workers worker c known few in
    let below = dir_below workers worker b known few in
    let counted : ltb (dir_of workers worker b) 64 ≡ true = grind (arith, nat_tests) in
    either_ranged (ltb (a % 8) 3) _ _ here
    (either_ranged (eqb (a % 8) 3) _ _ here
    (either_ranged (eqb (a % 8) 4) _ _ (ap (λ t. t && is_entry (dir_of workers worker c) (drawn_name c)) here ∙ there)
    (either_ranged (eqb (a % 8) 5) _ _ here
    (either_ranged (eqb (a % 8) 6) _ _ counted here))))

pub drawn_call_may : (workers i first second third : ℕ) → 0 < workers → workers ≤ 16 → MayBe workers generated_policies (call_drawn workers i first second third)
drawn_call_may workers i first second third some few =
    let known : i % workers < workers = omega arith in
    record {
      known = known;
      ranged = drawn_ranged workers (i % workers) (number_of first) (number_of second) (number_of third) known few;
      may = drawn_may workers (i % workers) (number_of first) (number_of second) (number_of third);
    }

-- as many as are wanted
pub workers_many : (w n : ℕ) → length (workers_from w n) ≡ n
unfolding workers_from
workers_many w zero = refl
workers_many w (suc n) = ap suc (workers_many (suc w) n)
