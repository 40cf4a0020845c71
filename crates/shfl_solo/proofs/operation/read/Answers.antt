use Rattle.std.proofs.Common.{◌<◌, sym, subst}
use Rattle.shfl_solo.proofs.Permits.{reads-allowed}
use Rattle.shfl_solo.proofs.operation.read.Goals as goal

pub load-requires : goal.load-requires
load-requires c = (
  c.requires.table.0,
  subst (λ n. n < c.args.shared.now.table_id.words) (sym c.index.ensures) c.requires.place,
  reads-allowed c.args.shared.now.key c.args.shared.now.table_id.slots c.args.seat.now.id c.args.seat.now.me c.index.result c.requires.table.1,
)
