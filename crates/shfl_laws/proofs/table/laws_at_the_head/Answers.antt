use Rattle.shfl_laws.proofs.laws.HeadLaws.{peek-law, grab-law, write-grab-law, head-count-law, head-look-law}
use Rattle.shfl_laws.proofs.table.laws_at_the_head.Goals as goal

pub returns : goal.returns
returns c = record { laws = λ t. record { peek = peek-law t; grab = grab-law t; write_grab = write-grab-law t; head_count = head-count-law t; head_look = head-look-law t } }
