use Rattle.std.proofs.Common.{rules, ◌≡◌, ◌<◌, ◌≤◌, ℕ, ◌+◌, ◌-◌, ◌∷◌, ◌++◌, [], List, All, IfSome, Contains, map, reverse, take, length, vec_len, vec_capacity, slice_index_or, Some, sym, refl, ap, ◌∙◌, subst, arith, length-append, append_assoc, option_to_list}
use Rattle.std.proofs.lemmas.List.{length-map, map-append, reverse-append}
use Rattle.std.proofs.lemmas.List.Elements.{All-pop}
use Rattle.shfl_table.specs.PassModel.{BoardModel, BoardId}
use Rattle.dir_shards.specs.KeptShards.{state_of}
use Rattle.dir_shards.specs.ShardPasses.{ShardPassModel, AreAll, without_last}
use Rattle.dir_shards.specs.Closings.{without_locks}
use Rattle.dir_shards.proofs.Places.{got_map, all_got, all_at}
use Rattle.dir_shards.proofs.LockEnds.{take_front, without_any, numbers_same}
use Rattle.dir_shards.proofs.LockRuns.{AskedTheSame, asked_at-first, asked_at-last, runs_none, run_before, runs_more}
use Rattle.dir_shards.proofs.lock_closing.close_locks.Goals as goal

abbrev id_of : BoardModel → BoardId
id_of b = b.id

abbrev state_at : BoardModel → List ℕ
state_at b = b.initial_state

pub loop-board-init : goal.loop-board-init
loop-board-init c = record {
  locks = c.requires.locks;
  boards = c.requires.boards;
  passes = refl;
  kept = ap (λ l. map state_of l ++ reverse (map state_at c.args.boards.items)) (sym c.requires.empty);
  asked = asked_at-first (length c.args.boards.items) c.args.passes.now;
  runs = runs_none c.args.boards.items c.args.passes.now;
  reserved = search rules;
}

pub close_lock-requires-clause-last : goal.close_lock-requires-clause-last
close_lock-requires-clause-last c k d within = let v = c.loop-board.invariant in let front = c.pop.new.self.items in let board = c.in-Some.board in
    let items : c.loop-board.boards.items ≡ front ++ board ∷ [] = c.pop.ensures.items ∙ ap (λ o. front ++ option_to_list o) c.in-Some.is in
    (map id_of front, v.locks k d within ∙ ap (map id_of) items ∙ map-append id_of front (board ∷ []))

pub close_lock-requires-clause-all : goal.close_lock-requires-clause-all
close_lock-requires-clause-all c = let v = c.loop-board.invariant in
    let P : BoardModel → Type 0 = λ b. (b.id.table.slots ≡ 1) × AreAll b.count c.args.passes.now in
    let here = subst (λ o. IfSome o P) c.in-Some.is (All-pop P c.loop-board.boards.items c.pop.new.self.items c.pop.result c.pop.ensures.items v.boards).1 in
    subst (λ ns. (k : ℕ) → k < c.in-Some.board.count → Contains ns k) (sym (numbers_same c.args.passes.now c.loop-board.passes v.passes)) here.1

pub loop-board-preserved : goal.loop-board-preserved
loop-board-preserved c = let v = c.loop-board.invariant in let front = c.pop.new.self.items in let board = c.in-Some.board in let passes = c.loop-board.passes in
    let items : c.loop-board.boards.items ≡ front ++ board ∷ [] = c.pop.ensures.items ∙ ap (λ o. front ++ option_to_list o) c.in-Some.is in
    let P : BoardModel → Type 0 = λ b. (b.id.table.slots ≡ 1) × AreAll b.count c.args.passes.now in
    let Q : ShardPassModel → Type 0 = λ p. p.locks ≡ map id_of front in
    let kept = c.loop-board.kept.items in let next = c.close_lock.result in
    let long : length c.loop-board.boards.items ≡ length front + 1 = ap length items ∙ length-append front (board ∷ []) in
    let many : All (λ (p : ShardPassModel). length p.locks ≡ length front + 1) passes =
    (λ k d within. ap length (v.locks k d within) ∙ (length-map c.loop-board.boards.items id_of ∙ long)) in
    record {
      locks = subst (All Q) (sym c.close_lock.ensures.passes) (all_got Q (map without_last passes) (λ k q at.
          let m = got_map without_last passes k q at in
          let was = all_at (λ (p : ShardPassModel). p.locks ≡ map id_of c.loop-board.boards.items) passes k m.0 v.locks m.1 in
          ap (λ (p : ShardPassModel). p.locks) m.2 ∙ take_front m.0.locks (map id_of front) board.id (was ∙ ap (map id_of) items ∙ map-append id_of front (board ∷ []))));
      boards = (All-pop P c.loop-board.boards.items front c.pop.result c.pop.ensures.items v.boards).0;
      passes = ap (map without_locks) c.close_lock.ensures.passes ∙ (without_any passes ∙ v.passes);
      kept = v.kept
          ∙ (ap (λ l. map state_of kept ++ reverse (map state_at l)) items
          ∙ (ap (λ l. map state_of kept ++ reverse l) (map-append state_at front (board ∷ []))
          ∙ (ap (λ l. map state_of kept ++ l) (reverse-append (map state_at front) (board.initial_state ∷ []))
          ∙ (sym (append_assoc (map state_of kept) (board.initial_state ∷ []) (reverse (map state_at front)))
          ∙ ap (λ l. l ++ reverse (map state_at front))
          (ap (λ s. map state_of kept ++ s ∷ []) (sym c.close_lock.ensures.kept) ∙ (sym (map-append state_of kept (next ∷ [])) ∙ ap (map state_of) (sym c.push_reserved.ensures.items)))))));
      asked = subst (AskedTheSame (length front) c.args.passes.now) (sym c.close_lock.ensures.passes)
          (asked_at-last (length front) c.args.passes.now passes c.close_lock.ensures.asked many (subst (λ n. AskedTheSame n c.args.passes.now passes) long v.asked));
      runs = runs_more c.args.boards.items c.loop-board.boards.items front board c.args.passes.now v.runs items
          (run_before (length c.loop-board.boards.items) (length front) board.count board.id c.args.passes.now passes v.asked (omega arith) (c.close_lock.ensures.run (length front) many));
      reserved = (let r = v.reserved in let n = c.in-Some.ensures.cases in let l = c.push_reserved.ensures.len in let k = c.push_reserved.ensures.capacity in omega (arith, r, n, l, k));
    }

pub returns-clause-runs : goal.returns-clause-runs
returns-clause-runs c dir b at = let n = c.in_default.ensures.cases.0 in let ok = c.loop-board.boards.ok.0 in c.loop-board.invariant.runs.each dir b (omega arith) at
