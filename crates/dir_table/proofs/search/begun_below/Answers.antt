use Rattle.std.proofs.Common.{◌≡◌, suc, ◌+◌, ◌-◌, ◌/◌, ◌<◌, [], drop, length, get_or, sym, ap, ◌∙◌, subst, arith}
use Rattle.std.proofs.lemmas.Grind.{get_or_after_one}
use Rattle.std.proofs.lemmas.List.{get_or_default, length-drop}
use Rattle.dir_table.specs.Blocks.{block_at, is_below, begins_with}
use Rattle.dir_table.proofs.Cuts.{Narrowed, narrowed_half}
use Rattle.dir_table.proofs.Firsts.{begins_by_first}
use Rattle.dir_table.proofs.Reading.{later_filled}
use Rattle.dir_table.proofs.search.begun_below.Goals as goal

pub loop-left-preserved : goal.loop-left-preserved
loop-left-preserved c =
    let blocks = c.args.list.now.blocks in
    let test = begins_with (is_below (c.args.dir, c.args.name)) in
    let begun = c.loop-left.begun in
    let left = c.loop-left.left in
    let half = left - left / 2 in
    let known : begun + half < length blocks = omega (arith, c.loop-left.invariant.within, length-drop 1 blocks) in
    let some : 0 < length (block_at blocks (begun + half)) =
    subst (λ n. 0 < length (block_at blocks n)) {x = suc (begun + half - 1)} {y = begun + half} (omega arith) (later_filled blocks (begun + half - 1) c.requires.filled.filled (omega arith)) in
    let narrowed = narrowed_half test (drop 1 blocks) c.is_below-below.result begun left c.requires.in_order c.loop-left-test.true c.loop-left.invariant
    (λ d.
    let here : get_or (drop 1 blocks) (begun + half - 1) d ≡ block_at blocks (begun + half) =
    get_or_after_one blocks (begun + half - 1) d ∙ ap (λ n. get_or blocks n d) {x = 1 + (begun + half - 1)} {y = begun + half} (omega arith)
    ∙ get_or_default blocks (begun + half) d [] known in
    ap test here ∙ begins_by_first (is_below (c.args.dir, c.args.name)) (block_at blocks (begun + half)) some
    ∙ ap (is_below (c.args.dir, c.args.name)) (sym c.first_of.ensures) ∙ sym c.is_below-below.ensures) in
    subst (λ n. Narrowed test (drop 1 blocks) (begun + n) (left / 2)) (sym c.count_if-begun.ensures) narrowed
