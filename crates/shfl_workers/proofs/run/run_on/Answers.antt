use Rattle.std.proofs.Common.{◌≡◌, ◌<◌, ◌≤◌, List, [], All, length, vec_capacity, slice_get, Some, sym, ap, ◌∙◌, subst, arith, rules}
use Rattle.std.specs.List.{AllByRecursion}
use Rattle.std.specs.Vec.{with_items}
use Rattle.std.proofs.lemmas.List.{with_items_is}
use Rattle.trace_text.specs.declared.trace.TraceCall.{TraceCall}
use Rattle.trace_text.specs.Traces.{IsCallOf}
use Rattle.policy_versions.specs.Models.{PassModel, IsClosed, IsRow}
use Rattle.policy_versions.specs.Rule.{version_of, which_of}
use Rattle.shfl_workers.specs.declared.activity.Activity.{Activity}
use Rattle.shfl_workers.specs.Activities.{IsAt, unlogged}
use Rattle.shfl_workers.specs.Passes.{AtEachPlace, IsDone}
use Rattle.shfl_workers.proofs.Numbered.{of_each, have_made}
use Rattle.shfl_workers.proofs.Starting.{joined_count, starts_empty, starts_numbered, starts_at}
use Rattle.shfl_workers.proofs.Logged.{have_rounds}
use Rattle.shfl_workers.proofs.Publishing.{first_of, is_there, published}
use Rattle.shfl_workers.proofs.Ran.{HaveRun, have_run, as_many_passes}
use Rattle.shfl_workers.proofs.run.run_on.Given as given_here
use Rattle.shfl_workers.proofs.run.run_on.Goals as goal
use Rattle.shfl_workers.proofs.run.run_on.Goals.{After-run_all}

pub run_all-requires-clause-calls : goal.run_all-requires-clause-calls
run_all-requires-clause-calls g c κs within =
    let t = c.args.trace.now in (
      length t.workers.items,
      length t.policies.items,
      subst (AllByRecursion (IsCallOf (length t.workers.items) (g.D.SharedDir.room c.in_ok-shared.shared) (length t.policies.items))) (sym c.as_slice-calls.ensures.value)
          (subst (λ n. AllByRecursion (IsCallOf (length t.workers.items) n (length t.policies.items)) t.calls.items) (sym c.in_ok-shared.ensures.room) c.requires.within.calls),
    )

pub run_all-requires-clause-ready : goal.run_all-requires-clause-ready
run_all-requires-clause-ready g c κs within =
    let t = c.args.trace.now in let D = g.D.SharedDir in let sh = c.in_ok-shared in let reg = c.in_ok-registry in let all = c.in_ok-activities.activities.items in
    let many : length sh.passes.items ≡ length t.workers.items = (let n = sh.ensures.count in let ok = sh.passes.ok.0 in omega (arith, n, ok)) in
    subst (All (IsAt (D.is_pass sh.shared) D.worker D.made D.left reg.registry [] c.as_slice-calls.result.now)) (sym c.as_mut_slice-lent.ensures.value)
    (subst (λ (l : List TraceCall). All (IsAt (D.is_pass sh.shared) D.worker D.made D.left reg.registry [] l) all) (sym c.as_slice-calls.ensures.value)
    (starts_at D.worker (D.is_pass sh.shared) D.made D.left reg.registry t.calls.items (length t.workers.items) _ _ _ _ all c.in_ok-activities.ensures many
    sh.ensures.passes reg.ensures.users reg.ensures.attached))

-- the workers behind their run
module _ (g : given_here.Over) (c : After-run_all g) where
  ran : HaveRun (g.D.SharedDir.is_pass c.in_ok-shared.shared) g.D.SharedDir.worker g.D.SharedDir.made g.D.SharedDir.left g.D.SharedDir.asks c.in_ok-registry.registry c.args.keeps
      (length c.args.trace.now.workers.items) c.args.trace.now.calls.items
      (with_items c.in_ok-activities.activities c.run_all.new.activities).items
  ran =
      let t = c.args.trace.now in let D = g.D.SharedDir in let sh = c.in_ok-shared in let reg = c.in_ok-registry in let old = c.in_ok-activities.activities in
      let joined = c.in_ok-activities.ensures in
      let many : length sh.passes.items ≡ length t.workers.items = (let n = sh.ensures.count in let ok = sh.passes.ok.0 in omega (arith, n, ok)) in
      let after : List (Activity _) = c.run_all.new.activities in
      let e = c.run_all.ensures in let lent = c.as_mut_slice-lent.ensures.value in
      have_run (D.is_pass sh.shared) D.worker D.made D.left D.asks reg.registry c.args.keeps (length t.workers.items) t.calls.items c.as_slice-calls.result.now old.items _ after _
      c.as_slice-calls.ensures.value lent (joined_count _ _ _ _ old.items joined ∙ many)
      (starts_numbered D.worker (D.is_pass sh.shared) D.made D.left reg.registry t.calls.items (length t.workers.items) _ _ _ _ old.items joined many
      sh.ensures.passes reg.ensures.users reg.ensures.attached)
      (starts_empty D.worker (D.is_pass sh.shared) D.made D.left reg.registry t.calls.items (length t.workers.items) _ _ _ _ old.items joined many
      sh.ensures.passes reg.ensures.users reg.ensures.attached)
      e.len e.works e.done (with_items_is old after (e.len ∙ ap length lent ∙ sym old.ok.0))

  some : 0 < length (with_items c.in_ok-activities.activities c.run_all.new.activities).items
  some = let m = ran.many in let w = c.requires.within.workers.0 in omega (arith, m, w)

  as_long : c.in_ok-activities.activities.len ≡ length c.args.trace.now.workers.items
  as_long =
      let n = joined_count _ _ _ _ c.in_ok-activities.activities.items c.in_ok-activities.ensures in let ok = c.in_ok-activities.activities.ok.0 in
      let m = c.in_ok-shared.ensures.count in let own = c.in_ok-shared.passes.ok.0 in omega (arith, n, ok, m, own)

pub take_apart-publisher-requires-clause-passes : goal.take_apart-publisher-requires-clause-passes
take_apart-publisher-requires-clause-passes g c =
    let d = (goal.at.take_apart-publisher-requires-clause-passes g c).After-run_all in let n = as_long g d in
    let empty : c.in_ok-passes.passes.items ≡ [] = search rules in
    let room : length c.args.trace.now.workers.items ≤ vec_capacity c.in_ok-passes.passes = search rules in
    (empty, omega (arith, n, room))

pub take_apart-publisher-requires-clause-users : goal.take_apart-publisher-requires-clause-users
take_apart-publisher-requires-clause-users g c =
    let d = (goal.at.take_apart-publisher-requires-clause-users g c).After-run_all in let n = as_long g d in
    let empty : c.in_ok-users.users.items ≡ [] = search rules in
    let room : length c.args.trace.now.workers.items ≤ vec_capacity c.in_ok-users.users = search rules in
    (empty, omega (arith, n, room))

pub take_apart-publisher-requires-clause-first : goal.take_apart-publisher-requires-clause-first
take_apart-publisher-requires-clause-first g c =
    let d = (goal.at.take_apart-publisher-requires-clause-first g c).After-run_all in let r = ran g d in
    let f = first_of _ _ _ _ _ _ _ (some g d) r.numbered r.at in (f.0, f.1, f.2, is_there _ f.0.attaching f.3)

pub close-policies-requires-clause-publisher : goal.close-policies-requires-clause-publisher
close-policies-requires-clause-publisher g c =
    let d = (goal.at.close-policies-requires-clause-publisher g c).After-run_all in let r = ran g d in
    (published _ _ _ _ _ _ _ c.take_apart-publisher.result (some g d) r.numbered r.at c.take_apart-publisher.ensures.publisher).0

pub close-policies-requires-clause-passes : goal.close-policies-requires-clause-passes
close-policies-requires-clause-passes g c i p at =
    let d = (goal.at.close-policies-requires-clause-passes g c).After-run_all in let r = ran g d in
    of_each (λ (a : Activity _). unlogged a.user) (IsClosed c.in_ok-registry.registry) _ (λ k x lt. (r.at k x lt).closed) i p (subst (λ (l : List PassModel). slice_get l i ≡ Some p) c.take_apart-publisher.ensures.users at)

pub take_apart-publisher-requires-clause-logs : goal.take_apart-publisher-requires-clause-logs
take_apart-publisher-requires-clause-logs g c =
    let d = (goal.at.take_apart-publisher-requires-clause-logs g c).After-run_all in let n = as_long g d in
    let empty : c.in_ok-rounds.rounds.items ≡ [] = search rules in
    let room : length c.args.trace.now.workers.items ≤ vec_capacity c.in_ok-rounds.rounds = search rules in
    (empty, omega (arith, n, room))

pub close-requires-clause-count : goal.close-requires-clause-count
close-requires-clause-count g c =
    let d = (goal.at.close-requires-clause-count g c).After-run_all in
    let e = as_many_passes _ _ _ _ _ _ _ _ _ _ _ (ran g d) c.take_apart-publisher.ensures.passes in
    let ok = c.take_apart-publisher.new.passes.ok.0 in omega (arith, e, ok)

pub close-requires-clause-passes : goal.close-requires-clause-passes
close-requires-clause-passes g c =
    let d = (goal.at.close-requires-clause-passes g c).After-run_all in let r = ran g d in let D = g.D.SharedDir in
    subst (AtEachPlace (IsDone (D.is_pass c.in_ok-shared.shared) D.worker D.made c.args.trace.now.calls.items)) (sym c.take_apart-publisher.ensures.passes)
    (have_made _ _ _ _ _ _ _ r.numbered r.at)

pub returns-clause-versions : goal.returns-clause-versions
returns-clause-versions g c =
    let d = (goal.at.returns-clause-versions g c).After-run_all in let r = ran g d in
    c.close-policies.ensures.rows ∙ (published _ _ _ _ _ _ _ c.take_apart-publisher.result (some g d) r.numbered r.at c.take_apart-publisher.ensures.publisher).1

pub returns-clause-rounds : goal.returns-clause-rounds
returns-clause-rounds g c =
    let d = (goal.at.returns-clause-rounds g c).After-run_all in let r = ran g d in let e = c.take_apart-publisher.ensures in
    have_rounds _ _ _ _ _ _ _ c.args.trace.now _ _ _ _ r c.in_ok-registry.ensures.declared e.users e.logs
    (λ i u k at h. subst (λ rows. IsRow rows (version_of k) (which_of k)) (sym c.close-policies.ensures.rows) (c.close-policies.ensures.loaded i u k at h))
