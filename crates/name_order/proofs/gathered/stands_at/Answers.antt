use Rattle.std.proofs.Common.{sym, ◌∙◌}
use Rattle.std.specs.Cmp.Lexicographic.{bytes_decides}
use Rattle.name_order.proofs.Placing.{read_stands}
use Rattle.name_order.proofs.gathered.stands_at.Goals as goal

pub returns : goal.returns
returns c = λ h. read_stands (λ n. n.now) c.args.names.now c.args.place _ c.args.name.now c.if-place-names.false ((bytes_decides _ c.args.name.now).0 (sym c.eq.ensures ∙ h))
