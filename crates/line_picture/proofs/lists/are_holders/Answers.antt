use Rattle.std.proofs.Common.{rules, tests, ◌∙◌}
use Rattle.std.proofs.lemmas.Iterator.Search.{all_from_yields_List}
use Rattle.std.proofs.lemmas.Iterator.Splits.{YieldsList-from_slice_split}
use Rattle.line_picture.specs.Lists.{is_holder}
use Rattle.line_picture.proofs.Dashes.{no_dash}
use Rattle.line_picture.proofs.lists.are_holders.Goals as goal

pub returns-else-is_same : goal.returns-else-is_same
returns-else-is_same c =
    all_from_yields_List (is_holder c.args.form c.args.passes) _ _ c.all.result c.all.ensures.ran (YieldsList-from_slice_split _ _ c.args.word.now c.split.ensures.rest c.split.ensures.done c.split.ensures.closure (λ x r q k. search (rules, tests))) (λ x b q k. search (rules, tests))
    ∙ no_dash (is_holder c.args.form c.args.passes) c.args.word.now c.is_same.result c.is_same.ensures c.if-is_same.false
