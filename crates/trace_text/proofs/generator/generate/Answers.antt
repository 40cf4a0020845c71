use Rattle.std.proofs.Common.{◌≡◌, ◌≤◌, ◌%◌, [], length, sym, ap, ◌∙◌, subst, arith, append-nil}
use Rattle.std.specs.List.{AllByRecursion}
use Rattle.std.proofs.lemmas.List.{length-map}
use Rattle.trace_text.specs.CallLists.{list_said, numbered_said, IsNumbered}
use Rattle.trace_text.specs.Generator.{calls_from}
use Rattle.trace_text.specs.Traces.{policy_of, IsCallOf}
use Rattle.trace_text.proofs.Generated.{listed_few, workers_many}
use Rattle.trace_text.proofs.Gathering.{length-said, length-numbered}
use Rattle.trace_text.proofs.generator.generate.Goals as goal

pub finish-requires-clause-few : goal.finish-requires-clause-few
finish-requires-clause-few c =
    let policies = c.as_slice.result.now in
    let list = c.in_ok-list.list in
    omega (arith, listed_few policies list [] c.args.workers (c.args.seed % 2147483648) c.args.calls c.requires.few_calls (append-nil (list_said policies list) ∙ c.in_ok-list.ensures.said))

pub returns-clause-within : goal.returns-clause-within
returns-clause-within c =
    let list = c.in_ok-list.list in
    let numbered = c.in_ok-numbered.numbered in
    let policies = c.in_ok-policies.policies.items in
    let workers : length c.in_ok-attributes.field-0.items ≡ c.args.workers = ap length c.in_ok-attributes.ensures ∙ workers_many 0 c.args.workers in
    let two : length policies ≡ 2 = sym (length-map policies policy_of) ∙ ap length c.in_ok-policies.ensures in
    let whole : IsNumbered c.args.workers policies numbered = rw c.as_slice-2.ensures.value at c.in_ok-numbered.ensures.numbered in
    let drawn : list_said policies list ≡ calls_from c.args.workers 0 (c.args.seed % 2147483648) c.args.calls = rw c.as_slice.ensures.value at c.in_ok-list.ensures.said in
    let few = listed_few policies list [] c.args.workers (c.args.seed % 2147483648) c.args.calls c.requires.few_calls (append-nil (list_said policies list) ∙ drawn) in
    let said : numbered_said policies numbered ≡ list_said policies list = rw c.as_slice-2.ensures.value at c.in_ok-numbered.ensures.said in
    let many : length numbered.calls.items ≤ 65065 = omega (arith, few, ap length said, length-said policies list, length-numbered policies numbered) in
    record {
      workers = (omega arith, omega arith);
      policies = (omega arith, omega arith);
      few = omega arith;
      names = omega (arith, whole.few);
      calls = subst (λ w. AllByRecursion (IsCallOf w (length numbered.names.items) (length policies)) numbered.calls.items) (sym workers) whole.named;
    }

pub returns-clause-named : goal.returns-clause-named
returns-clause-named c = rw c.as_slice-2.ensures.value at c.in_ok-numbered.ensures.numbered.same
