use Rattle.std.proofs.Common.{arith, ◌≤◌, ◌∷◌, sym, ap, ◌∙◌, subst}
use Rattle.policy_versions.specs.Rule.{IsAmong, version_of, word_of}
use Rattle.policy_versions.proofs.Indexed.{has_longer, word_is}
use Rattle.policy_versions.proofs.registry.VersionPass.enter.Goals as goal

pub returns-in-Some-try_enter-clause-newest : goal.returns-in-Some-try_enter-clause-newest
returns-in-Some-try_enter-clause-newest g c k h = let l = c.in-Some-try_enter.ensures.tries in let i = c.loop.invariant.3 in
    let le = l.newest k (subst (IsAmong k) (sym i.1) (has_longer k i.0 c.args.self.now.seen h)) in
    subst (λ m. version_of k ≤ m) (sym l.names.0) le

pub returns-in-Some-try_enter-clause-current : goal.returns-in-Some-try_enter-clause-current
returns-in-Some-try_enter-clause-current g c = let l = c.in-Some-try_enter.ensures.tries in let i = c.loop.invariant.3 in (
  i.0,
  l.seen ∙ (λ j. (word_is l.word ∙ (λ z. word_of (sym l.names.0 z) (sym l.names.1 z))) j ∷ i.1 j),
)

pub returns-in-Some-try_enter-clause-version : goal.returns-in-Some-try_enter-clause-version
returns-in-Some-try_enter-clause-version g c = let e = c.in-Some-try_enter.ensures.tries.names.0 in omega (arith, e)

pub loop-preserved : goal.loop-preserved
loop-preserved g c = let e = c.try_enter.ensures in let i = c.loop.invariant in (
  e.same.0 ∙ i.0,
  e.same.1 ∙ i.1,
  e.none c.in_default.is,
  (e.tries.word ∷ i.3.0, e.tries.seen ∙ ap (λ l. e.tries.word ∷ l) i.3.1),
  e.log ∙ i.4,
)
