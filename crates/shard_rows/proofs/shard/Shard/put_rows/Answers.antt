use Rattle.std.proofs.Common.{◌≡◌, ap, ◌∙◌, arith}
use Rattle.std.specs.Vec.{vec_capacity}
use Rattle.shard_rows.proofs.OwnRows.{with_own, own_fits}
use Rattle.shard_rows.proofs.shard.Shard.put_rows.Goals as goal

pub push_rows-requires : goal.push_rows-requires
push_rows-requires c =
    own_fits c.args.journal.now c.args.self.now c.bring_forward.new.self c.args.rows.now.items c.bring_forward.ensures c.requires.room c.requires.lesser (vec_capacity c.args.rows.now)
    c.legal.ensures.within c.requires.reserved

pub returns-clause-rows : goal.returns-clause-rows
returns-clause-rows c =
    c.push_rows.ensures.rows
    ∙ with_own c.args.journal.now c.args.self.now c.bring_forward.new.self c.args.rows.now.items c.bring_forward.ensures c.requires.room c.requires.lesser
