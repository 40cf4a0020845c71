use Rattle.std.proofs.Common.{◌≡◌, true, map, length, vec_len, ◌∙◌, arith}
use Rattle.std.proofs.lemmas.List.{length-map}
use Rattle.dir_table.specs.Numbers.{call_numbers, reply_numbers}
use Rattle.hist_log.specs.Numbers.{numbers}
use Rattle.shfl_cell.proofs.EachPass.{all_in_order}
use Rattle.call_pool.proofs.Running.{in_order, one_of_all}
use Rattle.call_pool.proofs.Workers.{all_below}
use Rattle.call_pool.proofs.run.close_in_order.Goals as goal

pub close-requires-clause-all : goal.close-requires-clause-all
close-requires-clause-all c =
    let all = c.args.passes.items in
    let long : length all ≡ c.args.pool.cell.count = (let ok = c.args.passes.ok.0 in let n = c.requires.count.1 in omega arith) in
    all_in_order c.args.pool.cell.count (map (λ p. p.cell) all) (length-map all (λ p. p.cell) ∙ long) (in_order all c.requires.numbered)

pub close-requires-clause-ended : goal.close-requires-clause-ended
close-requires-clause-ended c =
    let ok = c.args.passes.ok.0 in let n = c.requires.count.0 in
    one_of_all (λ p. p.taker.ended ≡ true) c.args.passes.items (omega arith) c.requires.ended

pub returns-clause-workers : goal.returns-clause-workers
returns-clause-workers c =
    let many = c.requires.count.1 in
    all_below (numbers call_numbers) reply_numbers (vec_len c.args.passes) c.close.result.1.items (λ k past. c.close.ensures.nobody_else k (omega (arith, many, past)))
