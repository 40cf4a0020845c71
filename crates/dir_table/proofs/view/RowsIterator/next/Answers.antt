use Rattle.std.proofs.Common.{◌≡◌, ◌+◌, ◌<◌, [], ◌∷◌, drop, length, ap, ◌∙◌, arith}
use Rattle.std.proofs.lemmas.List.{length-append, drop_more}
use Rattle.std.proofs.lemmas.List.Elements.{All-rest}
use Rattle.dir_table.specs.Blocks.{joined, block_at}
use Rattle.dir_table.proofs.view.RowsIterator.next.Goals as goal

pub invariant_of-self-2 : goal.invariant_of-self-2
invariant_of-self-2 c =
    let blocks = c.self.inside.list.now.blocks in
    let next = c.self.inside.next in
    let left = c.self.invariant in
    let known : next < length blocks = omega (arith, left.within, c.len.ensures, c.if-self-len.false) in
    let parts : drop next blocks ≡ block_at blocks next ∷ drop (next + 1) blocks = drop_more blocks next [] known in
    let count = ap (λ bs. length (joined bs)) parts ∙ length-append (block_at blocks next) (joined (drop (next + 1) blocks)) in
    let here = ap length c.rows_of.ensures in
    let rest = c.in_ok-row.ensures.cases.1 in
    record {
      within = omega (arith, known);
      filled = All-rest (λ rows. 0 < length rows) (block_at blocks next) (drop (next + 1) blocks) (drop next blocks) parts left.filled;
      few = left.few;
      fewer = omega (arith, left.fewer, count, here, rest);
    }
