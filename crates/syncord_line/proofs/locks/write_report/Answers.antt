use Rattle.syncord_line.proofs.Safe.{always-safe}
use Rattle.syncord_line.proofs.locks.write_report.Goals as goal

pub returns-clause-safe : goal.returns-clause-safe
returns-clause-safe g c = always-safe c.args.schedule.now c.requires

pub returns-in_err-lock-clause-safe : goal.returns-in_err-lock-clause-safe
returns-in_err-lock-clause-safe g c = always-safe c.args.schedule.now c.requires
