use Rattle.std.proofs.Common.{◌≡◌, drop, take, length, ap, arith}
use Rattle.std.proofs.lemmas.List.{length-append, take_all}
use Rattle.dir_table.specs.Blocks.{joined}
use Rattle.dir_table.proofs.Joined.{length-joins_parts}
use Rattle.dir_table.proofs.view.Rows.len.Goals as goal

pub returns : goal.returns
returns c =
    let first = c.self.inside.first.now in
    let blocks = c.self.inside.list.now.blocks in
    let next = c.self.inside.next in
    let last = c.len.result in
    let all : take last blocks ≡ blocks = take_all last blocks (omega (arith, c.len.ensures)) in
    omega (arith, c.rows_between.ensures, ap (λ bs. length (joined bs)) all, length-joins_parts blocks next, length-append first (joined (drop next blocks)), ap length c.self.view_is)
