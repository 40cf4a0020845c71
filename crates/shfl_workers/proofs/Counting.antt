-- How many calls each worker makes, with one call of the trace more.
use Rattle.std.proofs.Common.{◌≡◌, ℕ, ◌+◌, ◌<◌, ◌≤◌, List, [], ◌∷◌, ◌++◌, length, get_or, set, sum, sym, ap, ◌∙◌, arith, inl, inr, length-append}
use Rattle.std.proofs.lemmas.Bool.{cases_eq}
use Rattle.std.proofs.lemmas.List.{get_or-set_same, get_or-set_other}
use Rattle.std.proofs.lemmas.List.Sums.{sum_by-set}
use Rattle.std.proofs.Math.ListN.{length-set}
use Rattle.dir_table.specs.declared.calls.DirCall.{DirCall}
use Rattle.trace_text.specs.declared.trace.TraceAct.TheVariants as does
use Rattle.trace_text.specs.declared.trace.TraceCall.{TraceCall}
use Rattle.trace_text.specs.Histories.{made_by, made_in, of_worker}
use Rattle.shfl_workers.specs.Shares.{share_of, AreShares}
use Rattle.shfl_workers.proofs.Turns.{made_one, made_more, none_of_other, one_of_own}

share_more : (worker : ℕ) (calls : List TraceCall) (c : TraceCall) → share_of (calls ++ c ∷ []) worker ≡ share_of calls worker + length (made_one worker c)
share_more worker calls c = ap length (made_more worker calls c) ∙ length-append (of_worker worker (made_in calls)) (made_one worker c)

-- no share is above the sum
pub share_few : (shares : List ℕ) (k : ℕ) → k < length shares → get_or shares k 0 ≤ sum shares
share_few shares k lt = let e = sum_by-set (λ x. x) shares k 0 0 lt in omega (arith, e)

pub counted : (calls : List TraceCall) (workers : ℕ) (shares : List ℕ) (c : TraceCall) (call : DirCall) → AreShares calls workers shares
    → c.act ≡ does.Dir call → c.worker < length shares → AreShares (calls ++ c ∷ []) workers (set shares c.worker (get_or shares c.worker 0 + 1))
counted calls workers shares c call are is known =
    let more = get_or shares c.worker 0 + 1 in
    record {
      as_many = length-set shares c.worker more ∙ are.as_many;
      each = λ k lt. elim (cases_eq k c.worker) [
        | inl same ↦
            let one : length (made_one k c) ≡ 1 = ap (λ a. length (of_worker k (made_by c.worker a))) is ∙ ap length (one_of_own k c.worker call (sym same)) in
            let here : get_or (set shares c.worker more) k 0 ≡ more = ap (λ i. get_or (set shares c.worker more) i 0) same ∙ get_or-set_same shares c.worker more 0 known in
            let old : get_or shares c.worker 0 ≡ share_of calls k = ap (λ i. get_or shares i 0) (sym same) ∙ are.each k lt in
            let e = share_more k calls c in omega (arith, here, one, old, e)
        | inr other ↦
            let none : length (made_one k c) ≡ 0 = ap length (none_of_other k c.worker c.act (λ same. other (sym same))) in
            let here : get_or (set shares c.worker more) k 0 ≡ get_or shares k 0 = get_or-set_other shares c.worker k more 0 other in
            let old = are.each k lt in
            let e = share_more k calls c in omega (arith, here, none, old, e)
      ];
      few = (let e = sum_by-set (λ x. x) shares c.worker more 0 known in let few = are.few in let long = length-append calls (c ∷ []) in omega (arith, e, few, long));
    }

-- an attachment is no call on the directory
pub uncounted : (calls : List TraceCall) (workers : ℕ) (shares : List ℕ) (c : TraceCall) (policy : ℕ) → AreShares calls workers shares → c.act ≡ does.Attach policy
    → AreShares (calls ++ c ∷ []) workers shares
uncounted calls workers shares c policy are is = record {
  as_many = are.as_many;
  each = λ k lt.
      let none : length (made_one k c) ≡ 0 = ap (λ a. length (of_worker k (made_by c.worker a))) is in
      let old = are.each k lt in let e = share_more k calls c in omega (arith, none, old, e);
  few = (let few = are.few in let long = length-append calls (c ∷ []) in omega (arith, few, long));
}
