use Rattle.std.proofs.Common.{◌≡◌, ◌∷◌, ◌++◌, [], map, length, vec_len, refl, sym, ap, ◌∙◌, subst, arith, append_assoc, append-nil, IfSome, All}
use Rattle.std.proofs.lemmas.List.{map-append}
use Rattle.std.proofs.lemmas.List.Elements.{All-nil, All-pop, All-push}
use Rattle.call_queue.specs.Queues.{TakerModel, IsFresh}
use Rattle.call_pool.specs.Pools.{PoolPassModel}
use Rattle.call_pool.proofs.opening.pair_all.Goals as goal

pub loop-cell-init : goal.loop-cell-init
loop-cell-init g c =
    let items = c.into_iter-cell-iterator.ensures.into_iter_gives.0 in let cells = c.args.cells.ok.0 in let n = ap length items in record {
      next = tt;
      finite = tt;
      all = sym items;
      paired = ([], sym (append-nil c.args.passes.now.items), (All-nil (λ (p : PoolPassModel _). IsFresh c.args.queue.now.id c.args.queue.now.calls p.taker), refl));
      fresh = c.requires.fresh;
      left = (let same = c.requires.count in omega (arith, same, cells, n));
      room = (let room = c.requires.room in omega (arith, room, cells, n));
    }

pub loop-cell-preserved : goal.loop-cell-preserved
loop-cell-preserved g c =
    let v = c.loop-cell.invariant in let told = c.push_reserved.ensures in let steps = c.in-Some.ensures.steps.0 in
    let Fresh : TakerModel _ → Type 0 = IsFresh c.args.queue.now.id c.args.queue.now.calls in
    let popped = All-pop Fresh c.loop-cell.takers.items c.pop.new.self.items c.pop.result c.pop.ensures.items v.fresh in
    let here : PoolPassModel _ = record { taker = c.in-Some-pop.taker; cell = c.in-Some.cell } in
    let added = v.paired.0 in
    record {
      next = tt;
      finite = tt;
      all = v.all ∙ ap (λ l. c.loop-cell.yielded ++ l) steps ∙ sym (append_assoc c.loop-cell.yielded (c.in-Some.cell ∷ []) c.next.new.self.rest.items);
      paired = (
        added ++ here ∷ [],
        told.items ∙ ((λ j. v.paired.1 j ++ c.in_ok-new_pass.ensures j ∷ [])
            ∙ append_assoc c.args.passes.now.items added (here ∷ [])),
        (
          All-push (λ (p : PoolPassModel _). Fresh p.taker) added here v.paired.2.0 (subst (λ o. IfSome o Fresh) c.in-Some-pop.is popped.1),
          map-append (λ (p : PoolPassModel _). p.cell) added (here ∷ []) ∙ ap (λ l. l ++ c.in-Some.cell ∷ []) v.paired.2.1,
        ),
      );
      fresh = popped.0;
      left = (let l = c.in-Some-pop.ensures.cases in let r = v.left in let more = ap length steps in omega (arith, l, r, more));
      room = (let l = told.len in let k = told.capacity in let r = v.room in let more = ap length steps in omega (arith, l, k, r, more));
    }
