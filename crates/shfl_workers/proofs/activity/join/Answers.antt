use Rattle.std.proofs.Common.{◌≡◌, ◌∷◌, ◌++◌, [], Some, length, sym, ap, ◌∙◌, subst, arith, append_assoc, append-nil, length-append}
use Rattle.std.specs.Vec.Iter.{into_iter_items}
use Rattle.policy_versions.specs.Models.{PassModel}
use Rattle.shfl_workers.specs.Activities.{Joined, with_log}
use Rattle.shfl_workers.proofs.Joining.{none_left, joined_long, joined_more, no_items}
use Rattle.shfl_workers.proofs.activity.join.Goals as goal

pub unreachable-requires : goal.unreachable-requires
unreachable-requires g c =
    let v = c.loop-pass.invariant in
    let none : length c.loop-pass.users.rest.items ≡ 0 = (let n = c.in_default.ensures.cases.0 in let o = c.loop-pass.users.rest.ok in omega arith) in
    let long = joined_long _ v.users.0 _ _ _ v.users.2 in
    let ps = ap length v.all ∙ length-append c.loop-pass.yielded c.loop-pass.pass-iterator.rest.items in
    let us = ap length v.users.1 ∙ length-append v.users.0 (into_iter_items c.loop-pass.users) in
    let more = ap length c.in-Some.ensures.steps.0 in
    let same = c.requires in let po = c.args.passes.ok.0 in let uo = c.args.users.ok.0 in
    omega (arith, none, long, ps, us, more, same, po, uo)

pub loop-pass-preserved : goal.loop-pass-preserved
loop-pass-preserved g c =
    let v = c.loop-pass.invariant in let done = v.users.0 in let user : PassModel = c.in-Some-next.user in
    let told = c.push_reserved.ensures in
    record {
      next = tt;
      finite = tt;
      all = v.all ∙ ap (λ l. c.loop-pass.yielded ++ l) c.in-Some.ensures.steps.0 ∙ sym (append_assoc c.loop-pass.yielded (c.in-Some.pass ∷ []) c.next.new.self.rest.items);
      users = (
        done ++ user ∷ [],
        v.users.1 ∙ ap (λ l. done ++ l) c.in-Some-next.ensures.items ∙ sym (append_assoc done (user ∷ []) (into_iter_items c.next-in-loop-pass.new.self)),
        subst (Joined (c.loop-pass.yielded ++ c.in-Some.pass ∷ []) (done ++ user ∷ []) c.args.keeps (Some c.args.attaching))
            (sym (told.items ∙ ap (λ x. c.loop-pass.activities.items ++ record { pass = c.in-Some.pass; user = x; attaching = c.take-attaching.result } ∷ []) c.begin_log.ensures
            ∙ ap (λ x. c.loop-pass.activities.items ++ record { pass = c.in-Some.pass; user = with_log user c.args.keeps; attaching = x } ∷ []) (c.take-attaching.ensures.value ∙ v.attaching)))
            (joined_more c.loop-pass.yielded done _ _ c.loop-pass.activities.items c.in-Some.pass user v.users.2),
      );
      attaching = c.take-attaching.ensures.after ∙ none_left c.loop-pass.yielded c.in-Some.pass _;
      room = (let l = told.len in let k = told.capacity in let r = v.room in let more = ap length c.in-Some.ensures.steps.0 in omega (arith, l, k, r, more));
    }

pub returns : goal.returns
returns g c =
    let v = c.loop-pass.invariant in let done = v.users.0 in
    let none : length c.loop-pass.pass-iterator.rest.items ≡ 0 = (let n = c.in-None.ensures.steps.0 in let o = c.loop-pass.pass-iterator.rest.ok in omega arith) in
    let long = joined_long _ done _ _ _ v.users.2 in
    let ps = ap length v.all ∙ length-append c.loop-pass.yielded c.loop-pass.pass-iterator.rest.items in
    let us = ap length v.users.1 ∙ length-append done (into_iter_items c.loop-pass.users) in
    let same = c.requires in let po = c.args.passes.ok.0 in let uo = c.args.users.ok.0 in
    let nobody = no_items (into_iter_items c.loop-pass.users) (omega (arith, none, long, ps, us, same, po, uo)) in
    subst (λ l. Joined l c.args.users.items c.args.keeps (Some c.args.attaching) c.loop-pass.activities.items)
    (sym (v.all ∙ ap (λ l. c.loop-pass.yielded ++ l) (no_items _ none) ∙ append-nil c.loop-pass.yielded))
    (subst (λ l. Joined c.loop-pass.yielded l c.args.keeps (Some c.args.attaching) c.loop-pass.activities.items)
    (sym (v.users.1 ∙ ap (λ l. done ++ l) nobody ∙ append-nil done)) v.users.2)
