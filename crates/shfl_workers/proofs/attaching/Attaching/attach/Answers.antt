use Rattle.std.proofs.Common.{ap, ◌∙◌}
use Rattle.policy_versions.specs.Models.{with_row}
use Rattle.shfl_workers.proofs.Attachments.{rows_few, attached_one}
use Rattle.shfl_workers.proofs.attaching.Attaching.attach.Goals as goal

pub publish-requires-clause-room : goal.publish-requires-clause-room
publish-requires-clause-room g c = let r = c.requires in rows_few _ r.0 r.1 _ _ _ r.2

pub returns : goal.returns
returns g c = λ done left a. attached_one _ done left _ _ _ c.in-Some.copy _ _ a c.in-Some.ensures.items
    (c.publish.ensures.row ∙ ap (λ v. with_row c.args.self.now.publisher v c.in-Some.copy.which) c.publish.ensures.version)
