use Rattle.std.proofs.Common.{◌≡◌, ◌-◌, ◌<◌, length, get_or, Some, None, sym, ap, ◌∙◌, arith}
use Rattle.dir_table.specs.Names.{Place}
use Rattle.dir_table.specs.Blocks.{is_below}
use Rattle.dir_table.proofs.Nearby.{cut_by_sides, none_before, not_true}
use Rattle.dir_table.proofs.search.begins_at.Goals as goal

pub returns-in-Some-clause-cut : goal.returns-in-Some-clause-cut
returns-in-Some-clause-cut c passes =
    let blocks = c.args.list.now.blocks in
    let spot = c.args.spot in
    let limit : Place = (c.args.dir, c.args.name) in
    let known : spot.block < length blocks = omega (arith, c.if-spot-len.false) in
    let here = c.rows_of-rows.ensures in
    let behind = c.is_behind_below.ensures in
    let is = c.if-not-is_behind_below.false in
    cut_by_sides blocks spot limit c.requires.in_order known (behind.start is) (omega (arith, ap length here, c.if-spot-rows.false))
    (λ none inside. ap (λ rs. is_below limit (get_or rs (spot.at - 1) none)) (sym here) ∙ behind.below none is inside)
    (λ row there.
    let one : Some row ≡ Some c.in-Some.row = sym there ∙ sym c.row_from.ensures ∙ c.in-Some.is in
    let same : row ≡ c.in-Some.row = cc in
    (λ k. is_below limit (same k)) ∙ sym c.is_below.ensures ∙ not_true _ passes)

pub returns-in-Some-clause-start : goal.returns-in-Some-clause-start
returns-in-Some-clause-start c passes = none_before c.args.list.now.blocks c.args.spot (c.is_behind_below.ensures.start c.if-not-is_behind_below.false)

pub returns-in-None-clause-cut : goal.returns-in-None-clause-cut
returns-in-None-clause-cut c passes =
    let blocks = c.args.list.now.blocks in
    let spot = c.args.spot in
    let limit : Place = (c.args.dir, c.args.name) in
    let known : spot.block < length blocks = omega (arith, c.if-spot-len.false) in
    let here = c.rows_of-rows.ensures in
    let behind = c.is_behind_below.ensures in
    let is = c.if-not-is_behind_below.false in
    cut_by_sides blocks spot limit c.requires.in_order known (behind.start is) (omega (arith, ap length here, c.if-spot-rows.false))
    (λ none inside. ap (λ rs. is_below limit (get_or rs (spot.at - 1) none)) (sym here) ∙ behind.below none is inside)
    (λ row there. absurd (let none_there : Some row ≡ None = sym there ∙ sym c.row_from.ensures ∙ c.in-None.is in cc))

pub returns-in-None-clause-start : goal.returns-in-None-clause-start
returns-in-None-clause-start c passes = none_before c.args.list.now.blocks c.args.spot (c.is_behind_below.ensures.start c.if-not-is_behind_below.false)
