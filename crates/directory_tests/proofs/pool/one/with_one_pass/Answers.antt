use Rattle.std.proofs.Common.{IfSome, subst}
use Rattle.std.proofs.lemmas.List.Elements.{All-pop}
use Rattle.dir_table.specs.Numbers.{call_numbers}
use Rattle.dir_table.specs.Meanings.{Admits}
use Rattle.call_pool.specs.Pools.{IsPassOf}
use Rattle.directory_tests.proofs.pool.one.with_one_pass.Goals as goal

pub returns : goal.returns
returns g c = subst (λ o. IfSome o (IsPassOf call_numbers Admits c.in-Ok.pool)) c.in-Some.is
    (All-pop (IsPassOf call_numbers Admits c.in-Ok.pool) c.in-Ok.passes.items c.pop.new.self.items c.pop.result c.pop.ensures.items c.in-Ok.ensures.passes).1
