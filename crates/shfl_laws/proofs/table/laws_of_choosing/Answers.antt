use Rattle.shfl_laws.proofs.laws.RoundReads.{next-law, tail-law, attr-law, decide-law, after-law}
use Rattle.shfl_laws.proofs.laws.BeginLaw.{begin-law}
use Rattle.shfl_laws.proofs.table.laws_of_choosing.Goals as goal

pub returns : goal.returns
returns c = record { laws = λ t. record { begin = begin-law t; next = next-law t; tail = tail-law t; attr = attr-law t; decide = decide-law t; after = after-law t } }
