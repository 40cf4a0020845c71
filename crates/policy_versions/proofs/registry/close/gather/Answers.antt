use Rattle.std.proofs.Common.{arith, ◌≡◌, sym, ap, ◌∙◌, subst, [], ◌∷◌, ◌++◌, append_assoc, append-nil, ⊎_elim, slice_get, Some, length}
use Rattle.policy_versions.specs.Rule.{IsAmong}
use Rattle.policy_versions.proofs.Steps.{join_keeps}
use Rattle.policy_versions.proofs.Indexed.{get_mid, snoc_either, has_longer, has_front, none_left}
use Rattle.policy_versions.proofs.registry.close.gather.Goals as goal

pub join_seat-requires : goal.join_seat-requires
join_seat-requires c = let i = c.loop-pass.invariant in (
  i.0 ∙ c.requires.table,
  ap (λ m. m.registry.table) c.pass.view_is ∙ c.requires.passes (length c.loop-pass.yielded) c.in-Some.pass (get_mid c.args.passes.items c.loop-pass.yielded c.next.new.self.rest.items c.in-Some.pass (i.4 ∙ ap (λ l. c.loop-pass.yielded ++ l) c.in-Some.ensures.steps.0)),
  c.pass.invariant.2,
  (let e = c.requires.word in omega arith),
  join_keeps _ _ _ _ _,
)

pub loop-pass-preserved : goal.loop-pass-preserved
loop-pass-preserved c = let i = c.loop-pass.invariant in let e = c.join_seat.ensures.2 in let v : c.join_seat.new.seat.me.0.seen ≡ c.pass.inside.seat.me.0.seen ++ c.loop-pass.seat.me.0.seen = ap (λ m. m.0.seen) e in (
  c.join_seat.ensures.0 ∙ i.0,
  ap (λ m. m.0.publisher) e ∙ i.1,
  ap (λ m. m.0.words) e ∙ i.2,
  ap (λ m. m.1) e ∙ i.3,
  i.4 ∙ (ap (λ l. c.loop-pass.yielded ++ l) c.in-Some.ensures.steps.0 ∙ sym (append_assoc c.loop-pass.yielded (c.in-Some.pass ∷ []) c.next.new.self.rest.items)),
  λ j p k at h. subst (IsAmong k) (sym v) (⊎_elim (λ old. has_longer k c.pass.inside.seat.me.0.seen c.loop-pass.seat.me.0.seen (i.5 j p k old h))
      (λ z. has_front k c.pass.inside.seat.me.0.seen c.loop-pass.seat.me.0.seen (subst (IsAmong k) (ap (λ m. m.seen) (sym z.1 ∙ sym c.pass.view_is)) h))
      (snoc_either c.loop-pass.yielded c.in-Some.pass j p at)),
)

pub returns-clause-seen : goal.returns-clause-seen
returns-clause-seen c = let i = c.loop-pass.invariant in λ j p k at h. i.5 j p k (subst (λ l. slice_get l j ≡ Some p) (i.4 ∙ (ap (λ l. c.loop-pass.yielded ++ l) (none_left c.loop-pass.pass-iterator.rest.items (let n = c.in-None.ensures.steps.0 in let o = c.loop-pass.pass-iterator.rest.ok in omega arith)) ∙ append-nil c.loop-pass.yielded)) at) h
