-- Calls of which each worker makes its own ones in order.
use Rattle.std.proofs.Common.{◌≡◌, ◌≢◌, ℕ, suc, ◌+◌, ◌≤◌, true, false, cond, eqb, List, [], ◌∷◌, map, length, sym, refl, ap, ◌∙◌, subst, arith, inl, inr, length-append}
use Rattle.std.specs.List.{filter}
use Rattle.std.proofs.lemmas.Bool.{cases_eq}
use Rattle.std.proofs.lemmas.Bool.Decides.{nat_tests}
use Rattle.dir_table.specs.declared.calls.DirCall.{DirCall}
use Rattle.trace_text.specs.declared.trace.TraceAct.{TraceAct}
use Rattle.trace_text.specs.declared.trace.TraceAct.TheVariants as does
use Rattle.trace_text.specs.declared.trace.TraceCall.{TraceCall}
use Rattle.trace_text.specs.Histories.{Made, made_by, made_in, of_worker}

own_first : (k : ℕ) (m : Made) (ms : List Made) → m.worker ≡ k → of_worker k (m ∷ ms) ≡ m.call ∷ of_worker k ms
own_first k m ms same =
    let yes : eqb m.worker k ≡ true = grind (arith, nat_tests, same) in
    ap (λ b. map (λ (x : Made). x.call) (cond b (m ∷ filter (λ (x : Made). eqb x.worker k) ms) (filter (λ (x : Made). eqb x.worker k) ms))) yes

other_first : (k : ℕ) (m : Made) (ms : List Made) → m.worker ≢ k → of_worker k (m ∷ ms) ≡ of_worker k ms
other_first k m ms other =
    let not : eqb m.worker k ≡ false = grind (arith, nat_tests, other) in
    ap (λ b. map (λ (x : Made). x.call) (cond b (m ∷ filter (λ (x : Made). eqb x.worker k) ms) (filter (λ (x : Made). eqb x.worker k) ms))) not

-- the calls without the first one of a worker
record IsWithout (k : ℕ) (all rest : List Made) (left : List DirCall) : Type 0 where
  long : length all ≡ suc (length rest)
  own : of_worker k rest ≡ left
  others : (j : ℕ) → j ≢ k → of_worker j rest ≡ of_worker j all

without : (k : ℕ) (c : DirCall) (left : List DirCall) (all : List Made) → of_worker k all ≡ c ∷ left → (rest : List Made) × IsWithout k all rest left
without k c left [] is = absurd (cc)
without k c left (m ∷ ms) is = elim (cases_eq m.worker k) [
  | inl same ↦ (
    ms,
    record {
      long = refl;
      own = (let e : m.call ∷ of_worker k ms ≡ c ∷ left = sym (own_first k m ms same) ∙ is in cc);
      others = λ j other. sym (other_first j m ms (λ e. other (sym e ∙ same)));
    },
  )
  | inr other ↦
      let r = without k c left ms (sym (other_first k m ms other) ∙ is) in (
        m ∷ r.0,
        record {
          long = ap suc r.1.long;
          own = other_first k m r.0 other ∙ r.1.own;
          others = λ j apart. elim (cases_eq m.worker j) [
            | inl same ↦ own_first j m r.0 same ∙ ap (λ l. m.call ∷ l) (r.1.others j apart) ∙ sym (own_first j m ms same)
            | inr not ↦ other_first j m r.0 not ∙ r.1.others j apart ∙ sym (other_first j m ms not)
          ];
        },
      )
]

-- no more calls than those where each worker makes the same
pub no_more : (xs ys : List Made) → ((k : ℕ) → of_worker k xs ≡ of_worker k ys) → length xs ≤ length ys
no_more [] ys same = omega arith
no_more (x ∷ xs) ys same =
    let w = without x.worker x.call (of_worker x.worker xs) ys (sym (same x.worker) ∙ own_first x.worker x xs refl) in
    let rest = no_more xs w.0 (λ k. elim (cases_eq x.worker k) [
      | inl here ↦ subst (λ j. of_worker j xs ≡ of_worker j w.0) here (sym w.1.own)
      | inr not ↦ sym (other_first k x xs not) ∙ same k ∙ sym (w.1.others k (λ e. not (sym e)))
    ]) in
    let long = w.1.long in omega (arith, rest, long)

made_few_by : (worker : ℕ) (act : TraceAct) → length (made_by worker act) ≤ 1
made_few_by worker (does.Dir call) = omega arith
made_few_by worker (does.Attach policy) = omega arith

-- a trace has no more calls than lines
pub made_few : (calls : List TraceCall) → length (made_in calls) ≤ length calls
made_few [] = omega arith
made_few (c ∷ cs) =
    let e : length (made_in (c ∷ cs)) ≡ length (made_by c.worker c.act) + length (made_in cs) = length-append (made_by c.worker c.act) (made_in cs) in
    let one = made_few_by c.worker c.act in let rest = made_few cs in omega (arith, e, one, rest)
