use Rattle.std.proofs.Common.{arith, All, sym, subst}
use Rattle.std.proofs.lemmas.List.Elements.{All-pop, All-push}
use Rattle.shfl_arena.specs.SeatModels.{IsNewAt}
use Rattle.arena_tests.proofs.closing.values_left.Goals as goal

pub loop-own-preserved : goal.loop-own-preserved
loop-own-preserved g c = let i = c.loop-own.invariant in let p = c.push_reserved.ensures in let n = c.in-Some.ensures.cases in
    let long = p.len in let room = p.capacity in let sum = i.2 in let enough = i.3 in (
      (All-pop (IsNewAt c.args.mutexes.id) c.loop-own.seats.items c.pop.new.self.items c.pop.result c.pop.ensures.items i.0).0,
      subst (All (IsNewAt c.args.mutexes.id)) (sym p.items) (All-push (IsNewAt c.args.mutexes.id) c.loop-own.back.items c.in_ok-left.left i.1 c.in_ok-left.ensures),
      omega arith,
      omega arith,
    )
