use Rattle.policy_text.proofs.Verdicts.{verdict}
use Rattle.policy_text.proofs.acceptance.is_program.Goals as goal

pub returns-in-Err-verify : goal.returns-in-Err-verify
returns-in-Err-verify c = verdict c.args.profile c.args.bytes.now c.in-Ok.insns.items c.in-Err-verify.refusal c.refused.result c.in-Ok.ensures.exact c.in-Err-verify.ensures.refused c.refused.ensures
