use Rattle.std.proofs.Common.{◌≡◌, length, slice_get, sym, ap, ◌∙◌, subst, arith}
use Rattle.shfl_policy.specs.Loading.{IsLoaded}
use Rattle.trace_text.specs.declared.trace.NamedSource.{NamedSource}
use Rattle.shfl_workers.specs.Loaded.{AreLoaded}
use Rattle.shfl_workers.proofs.Numbered.{at_index, at_each_more}
use Rattle.shfl_workers.proofs.policies.load_all.Goals as goal

pub loop-number-preserved : goal.loop-number-preserved
loop-number-preserved c =
    let v = c.loop-number.invariant in let told = c.in_ok-push.ensures in let before = c.loop-number.policies in let p = c.in_ok-policy.policy in
    let declared = c.args.declared.now in let number = c.loop-number.number in let here = c.index-declared-number in
    let ok = before.ok.0 in let count = v.count in
    let place : number ≡ length before.items = omega (arith, ok, count) in
    record {
      count = (let n = told.len in omega (arith, n, count));
      loaded = subst (AreLoaded c.args.profile declared) (sym told.items) (at_each_more _ before.items p v.loaded
          (λ d at. subst (λ k. IsLoaded k c.args.profile d.source p) place
          (subst (λ (x : NamedSource). IsLoaded number c.args.profile x.source p)
          (here.is ∙ (at_index declared number d here.result (ap (slice_get declared) place ∙ at)).1) c.in_ok-policy.ensures)));
    }
