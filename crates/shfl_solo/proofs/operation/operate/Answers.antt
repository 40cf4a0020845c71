use Rattle.shfl_solo.proofs.Permits.{permits}
use Rattle.shfl_solo.proofs.operation.operate.Goals as goal

pub perform-requires-clause-permits : goal.perform-requires-clause-permits
perform-requires-clause-permits g c = let a = c.args in let m = g.M.Stepping in
    permits a.shared.now.key a.rules a.shared.now.table_id.slots a.seat.now.id a.pass m.pass a.own m.own a.choice m.choice m.rules a.seat.now.me a.access
    c.requires.stepping c.requires.table.1 c.requires.seat c.requires.planned
