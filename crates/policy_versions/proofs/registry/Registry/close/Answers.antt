use Rattle.std.proofs.Common.{ap, ◌∙◌, subst}
use Rattle.policy_versions.specs.Rule.{IsPublished}
use Rattle.policy_versions.specs.Models.{AreRows, words_of}
use Rattle.policy_versions.proofs.Steps.{close_tells}
use Rattle.policy_versions.proofs.Indexed.{published_row}
use Rattle.policy_versions.proofs.registry.Registry.close.Goals as goal

pub returns-clause-loaded : goal.returns-clause-loaded
returns-clause-loaded c = let i = c.publisher.invariant in let e = c.gather.ensures in let rows = ap (λ m. m.rows) c.publisher.view_is in λ j p k at h.
    published_row _ k (subst AreRows rows i.4)
    (subst (λ l. IsPublished l k) (e.words ∙ (i.3 ∙ ap words_of rows))
    (close_tells _ _ _ _ _ (e.publisher ∙ i.0) c.close_with-closed.ensures.values.2 k (e.seen j p k at h)))
