use Rattle.std.proofs.Common.{◌≡◌, ◌+◌, ◌∷◌, ◌++◌, [], List, map, length, vec_len, option_to_list, refl, sym, ap, ◌∙◌, subst, arith, length-append, IfSome, All}
use Rattle.std.proofs.lemmas.List.{length-map}
use Rattle.std.proofs.lemmas.List.Elements.{All-pop, All-cons}
use Rattle.call_queue.specs.Queues.{TakerModel, IsFresh}
use Rattle.shfl_cell.specs.Cells.{CellPassModel}
use Rattle.call_pool.specs.Pools.{PoolPassModel}
use Rattle.call_pool.proofs.Members.{last_same, first_removed}
use Rattle.call_pool.proofs.opening.pair.Given as given_here
use Rattle.call_pool.proofs.opening.pair.Goals as goal
use Rattle.call_pool.proofs.opening.pair.Goals.{In-Some, In_ok-pair_all}

module _ (g : given_here.Over) (c : In-Some g) where
  abbrev Fresh : TakerModel g.row.C.Denot → Type 0
  Fresh = IsFresh c.args.queue.now.id c.args.queue.now.calls

  popped : All Fresh c.pop.new.self.items × IfSome c.pop.result Fresh
  popped = All-pop Fresh c.args.takers.items c.pop.new.self.items c.pop.result c.pop.ensures.items c.requires.fresh

pub pair_all-requires-clause-fresh : goal.pair_all-requires-clause-fresh
pair_all-requires-clause-fresh g c = (popped g (goal.at.pair_all-requires-clause-fresh g c).In-Some).0

module _ (g : given_here.Over) (c : In_ok-pair_all g) where
  abbrev first : PoolPassModel g.row.C.Denot
  first = record { taker = c.in-Some.last; cell = c.remove.result }

  abbrev added : List (PoolPassModel g.row.C.Denot)
  added = c.in_ok-pair_all.ensures.0

  items : c.pair_all.new.passes.items ≡ first ∷ added
  items = c.in_ok-pair_all.ensures.1 ∙ ap (λ l. l ++ added) (c.push_reserved.ensures.items ∙ (λ j. c.in_ok-passes.ensures.items j ++ c.in_ok-new_pass.ensures j ∷ []))

  cells : c.args.cells.items ≡ c.remove.result ∷ c.remove.new.self.items
  cells = first_removed c.args.cells.items c.remove.new.self.items c.remove.result (let n = c.requires.count.1 in let ok = c.args.cells.ok.0 in omega arith) c.remove.ensures.value c.remove.ensures.by_index.2

pub returns-clause-rest : goal.returns-clause-rest
returns-clause-rest g c = let d = (goal.at.returns-clause-rest g c).In_ok-pair_all in
    let rest = c.requires.rest in
    let takers : c.args.takers.items ≡ c.pop.new.self.items ++ c.in-Some.last ∷ [] = c.pop.ensures.items ∙ ap (λ o. c.pop.new.self.items ++ option_to_list o) c.in-Some.is in
    let same : c.in-Some.last ≡ rest.1 = last_same c.pop.new.self.items rest.0 c.in-Some.last rest.1 (sym takers ∙ rest.2) in
    let parts : c.in-Some.last.parts ≡ rest.1.parts = ap (λ (t : TakerModel _). t.parts) same in
    let all : rest.1.parts + length rest.0 ≡ 1024 = rest.3 in
    let n = ap length rest.2 ∙ length-append rest.0 (rest.1 ∷ []) in
    let m = ap length (cells g d) in let k = ap length c.in_ok-pair_all.ensures.2.1 in let l = length-map (added g d) (λ (p : PoolPassModel _). p.cell) in
    let count = c.requires.count.0 in let a = c.args.takers.ok.0 in let b = c.args.cells.ok.0 in (
      first g d,
      added g d,
      items g d,
      (let z : c.in-Some.last.parts + length (added g d) ≡ 1024 = omega arith in z),
    )

pub returns-clause-paired : goal.returns-clause-paired
returns-clause-paired g c = let d = (goal.at.returns-clause-paired g c).In_ok-pair_all in let e = (goal.at.returns-clause-paired g c).In-Some in (
  subst (All (λ (p : PoolPassModel _). IsFresh c.args.queue.now.id c.args.queue.now.calls p.taker)) (sym (items g d))
      (All-cons (λ (p : PoolPassModel _). IsFresh c.args.queue.now.id c.args.queue.now.calls p.taker) (first g d) (added g d)
      (subst (λ o. IfSome o (IsFresh c.args.queue.now.id c.args.queue.now.calls)) c.in-Some.is (popped g e).1) c.in_ok-pair_all.ensures.2.0),
  ap (map (λ (p : PoolPassModel _). p.cell)) (items g d) ∙ (ap (λ (l : List CellPassModel). c.remove.result ∷ l) c.in_ok-pair_all.ensures.2.1 ∙ sym (cells g d)),
)
