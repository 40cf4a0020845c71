use Rattle.std.proofs.Common.{◌≡◌, length, sym, ap, subst, arith}
use Rattle.std.specs.List.{AllByRecursion}
use Rattle.trace_text.specs.Traces.{IsCallOf}
use Rattle.trace_text.specs.Attachments.{attached_in}
use Rattle.policy_versions.specs.Models.{PublisherModel}
use Rattle.shfl_workers.specs.Attaching.{AreCopies}
use Rattle.shfl_workers.specs.Loaded.{AreLoaded}
use Rattle.shfl_workers.proofs.run.open_registry.Goals as goal

pub copies_of-requires : goal.copies_of-requires
copies_of-requires c =
    let t = c.args.trace.now in
    let many : length c.in-Ok.registry.declared ≡ length t.policies.items = (
    let d = ap length c.in-Ok.ensures.declared in let k = c.in_ok-policies.ensures.count in let v = ap length c.as_slice-declared.ensures.value in
    let ok = c.in_ok-policies.policies.ok.0 in omega (arith, d, k, v, ok)) in (
      length t.workers.items,
      length t.names.items,
      subst (λ n. AllByRecursion (IsCallOf (length t.workers.items) (length t.names.items) n) c.as_slice-calls.result.now) (sym many)
          (subst (AllByRecursion (IsCallOf (length t.workers.items) (length t.names.items) (length t.policies.items))) (sym c.as_slice-calls.ensures.value) c.requires.within.calls),
    )

pub returns-clause-attached : goal.returns-clause-attached
returns-clause-attached c = record {
  of_registry = ap (λ (m : PublisherModel). m.registry) c.in-Ok.ensures.publisher;
  rows = ap (λ (m : PublisherModel). m.rows) c.in-Ok.ensures.publisher;
  copied = subst (λ l. AreCopies c.in-Ok.registry (attached_in l) c.in_ok-copies.copies.items) c.as_slice-calls.ensures.value c.in_ok-copies.ensures;
  few = (let few = c.requires.attaches in omega (arith, few));
}

pub returns-clause-declared : goal.returns-clause-declared
returns-clause-declared c = let t = c.args.trace.now in
    subst (AreLoaded t.profile t.policies.items) (sym c.in-Ok.ensures.declared)
    (subst (λ l. AreLoaded t.profile l c.in_ok-policies.policies.items) c.as_slice-declared.ensures.value c.in_ok-policies.ensures.loaded)
