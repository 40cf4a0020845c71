use Rattle.std.proofs.Common.{◌≡◌, [], ◌∷◌, ◌+◌, ◌-◌, ◌++◌, suc, length, Some, None, sym, ap, ◌∙◌, arith, append_assoc}
use Rattle.std.proofs.lemmas.List.{append-nil}
use Rattle.sim_report.specs.Tallies.{least_from, values_from}
use Rattle.sim_report.proofs.Values.{values-none, values-some}
use Rattle.sim_report.proofs.tallies.values_of.Goals as goal

pub returns-in_default-clause-values : goal.returns-in_default-clause-values
returns-in_default-clause-values c =
    let attrs = c.args.attrs.now in
    let over : least_from c.args.key c.loop-count.first attrs (length attrs) ≡ None = sym c.least_from.ensures.least ∙ c.in_default.is in
    sym (append-nil c.loop-count.values.items)
    ∙ ap (λ l. c.loop-count.values.items ++ l) (sym (values-none c.args.key attrs (length attrs - c.loop-count.count) c.loop-count.first over))
    ∙ c.loop-count.invariant.all

pub loop-count-preserved : goal.loop-count-preserved
loop-count-preserved c =
    let attrs = c.args.attrs.now in
    let value = c.in-Some.value in
    let n = length attrs - (c.loop-count.count + 1) in
    let left : length attrs - c.loop-count.count ≡ suc n = omega arith in
    let found : least_from c.args.key c.loop-count.first attrs (length attrs) ≡ Some value = sym c.least_from.ensures.least ∙ c.in-Some.is in
    let old = c.loop-count.values.items in
    let rest = values_from c.args.key attrs n (value + 1) in
    record {
      all = ap (λ l. l ++ rest) c.in_ok-push.ensures.items
          ∙ append_assoc old (value ∷ []) rest
          ∙ ap (λ l. old ++ l) (sym (values-some c.args.key attrs n (length attrs - c.loop-count.count) c.loop-count.first value left found))
          ∙ c.loop-count.invariant.all;
      few = omega (arith, c.in_ok-push.ensures.len, c.loop-count.invariant.few);
    }
