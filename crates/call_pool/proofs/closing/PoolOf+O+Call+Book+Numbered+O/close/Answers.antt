use Rattle.std.proofs.Common.{◌≡◌, ℕ, ◌+◌, ◌<◌, ◌≤◌, ◌∷◌, ◌++◌, [], true, List, map, length, All, Contains, slice_index_or, vec_len, sym, ap, ◌∙◌, subst, arith}
use Rattle.std.specs.List.{flat_map, list_any, sum_by}
use Rattle.std.proofs.lemmas.List.Elements.{All-drop, All-head, All-map, All-weaker, Contains-get_or}
use Rattle.std.proofs.lemmas.List.Folds.{list_any-from_Any}
use Rattle.std.proofs.lemmas.List.Sums.{sum_by-cons}
use Rattle.hist_log.specs.declared.entry.Entry.{Entry}
use Rattle.hist_log.specs.History.{operations, state_left, IsLegal}
use Rattle.hist_log.specs.declared.numbered.Numbered.{Numbered}
use Rattle.hist_log.specs.declared.numbered.NumberedCall.{NumberedCall}
use Rattle.hist_log.specs.Numbers.{numbers, inner}
use Rattle.call_queue.specs.Rule.{whole}
use Rattle.call_queue.specs.Queues.{TakerModel, IsEachTaken}
use Rattle.shfl_table.specs.Books.{actions}
use Rattle.shfl_table.specs.Histories.{actions_by, HasSeen}
use Rattle.shfl_cell.specs.Cells.{CellPassModel, number, AreAll, HasRunOf}
use Rattle.call_pool.specs.Pools.{PoolModel, PoolPassModel, IsPassOf, calls_by}
use Rattle.call_pool.proofs.Members.{all_of-map, first_removed}
use Rattle.call_pool.proofs.AllPasses.{every_part}
use Rattle.call_pool.proofs.PoolHistory.{each_pass, each_worker, pool_history}
use Rattle.call_pool.proofs.closing.PoolOf+O+Call+Book+Numbered+O.close.Given as given_here
use Rattle.call_pool.proofs.closing.PoolOf+O+Call+Book+Numbered+O.close.Goals as goal
use Rattle.call_pool.proofs.closing.PoolOf+O+Call+Book+Numbered+O.close.Goals.{After-unite_all, After-into_inner}

pub unite_all-requires-clause-others : goal.unite_all-requires-clause-others
unite_all-requires-clause-others g c = let O = g.O.Object in
    All-weaker (IsPassOf O.call_numbers O.admits c.args.self) (λ p. p.taker.queue ≡ c.self.inside.queue.id) (λ p own. own.queue ∙ sym (ap (λ (z : PoolModel _). z.queue.id) c.self.view_is)) c.remove.new.self.items
    (subst (All (IsPassOf O.call_numbers O.admits c.args.self)) (sym c.remove.ensures.items) (All-drop (IsPassOf O.call_numbers O.admits c.args.self) 1 c.args.passes.items c.requires.pool))

module _ (g : given_here.Over) (c : After-unite_all g) where
  -- the first pass, and the others
  abbrev first : PoolPassModel g.row.O-Call.Denot
  first = record { taker = c.taker.inside.taker; cell = c.taker.inside.cell }

  abbrev others : List (PoolPassModel g.row.O-Call.Denot)
  others = c.remove.new.self.items

  some : 0 < c.args.self.cell.count
  some = subst (λ (z : PoolModel g.row.O-Call.Denot). 0 < z.cell.count) c.self.view_is c.self.invariant.1

  long : length c.args.passes.items ≡ c.args.self.cell.count
  long = let n = c.requires.count in let ok = c.args.passes.ok.0 in omega arith

  passes : c.args.passes.items ≡ first ∷ others
  passes = first_removed c.args.passes.items others c.remove.result (let n = long in let m = some in omega arith) c.remove.ensures.value c.remove.ensures.items ∙ sym (ap (λ (p : PoolPassModel g.row.O-Call.Denot). p ∷ others) c.taker.view_is)

  cells : c.unite_all.new.cells.items ≡ map (λ p. p.cell) c.args.passes.items
  cells = c.unite_all.ensures.cells ∙ (ap (λ (l : List CellPassModel). l ++ map (λ p. p.cell) others) (c.push_reserved.ensures.items ∙ ap (λ (l : List CellPassModel). l ++ first.cell ∷ []) c.taker.invariant.0)
      ∙ sym (ap (map (λ (p : PoolPassModel g.row.O-Call.Denot). p.cell)) passes))

pub finish-requires-clause-whole : goal.finish-requires-clause-whole
finish-requires-clause-whole g c = let d = (goal.at.finish-requires-clause-whole g c).After-unite_all in let O = g.O.Object in
    let parts : PoolPassModel g.row.O-Call.Denot → ℕ = λ p. p.taker.parts in
    let every = every_part O.call_numbers O.admits c.args.self c.args.passes.items c.requires.pool c.requires.all (long g d) (some g d) (subst (λ (z : PoolModel _). z.queue.takers ≡ z.cell.count) c.self.view_is c.self.invariant.0) in
    subst (λ n. whole ≤ n) (ap (sum_by parts) (passes g d) ∙ (sum_by-cons parts (first g d) (others g d) ∙ sym (ap (λ (t : TakerModel _). t.parts) c.unite_all.ensures.taker))) every

pub finish-requires-clause-ended : goal.finish-requires-clause-ended
finish-requires-clause-ended g c = let d = (goal.at.finish-requires-clause-ended g c).After-unite_all in
    let ended : PoolPassModel g.row.O-Call.Denot → _ = λ p. p.taker.ended in
    ap (λ (t : TakerModel _). t.ended) c.unite_all.ensures.taker ∙ (sym (ap (list_any ended) (passes g d)) ∙ list_any-from_Any ended c.args.passes.items c.requires.ended)

pub close-object-requires-clause-cell : goal.close-object-requires-clause-cell
close-object-requires-clause-cell g c = let d = (goal.at.close-object-requires-clause-cell g c).After-unite_all in
    let O = g.O.Object in let P : CellPassModel → Type 0 = λ p. p.cell ≡ c.self.inside.cell.id in
    subst (All P) (sym (cells g d)) (All-map P (λ (p : PoolPassModel _). p.cell) c.args.passes.items
    (All-weaker (IsPassOf O.call_numbers O.admits c.args.self) (λ p. P p.cell) (λ p own. own.cell ∙ sym (ap (λ (z : PoolModel _). z.cell.id) c.self.view_is)) c.args.passes.items c.requires.pool))

pub close-object-requires-clause-all : goal.close-object-requires-clause-all
close-object-requires-clause-all g c k below = let d = (goal.at.close-object-requires-clause-all g c).After-unite_all in
    subst (λ (l : List CellPassModel). Contains (map number l) k) (sym (cells g d)) (c.requires.all k (subst (λ (z : PoolModel _). k < z.cell.count) c.self.view_is below))

module _ (g : given_here.Over) (c : After-into_inner g) where
  abbrev C : Type 0
  C = g.row.O-Call.Denot

  abbrev entries : List (Entry (Numbered g.row.O.Denot C g.row.O-Reply.Denot) (NumberedCall C) g.row.O-Reply.Denot)
  entries = c.close-object.result.1.items

  -- the history has begun with what a pass saw, and has no more of it
  abbrev Seen : PoolPassModel C → Type 0
  Seen p = HasSeen (actions (numbers g.O.Object.call_numbers) g.O.Object.reply_numbers entries) (number p.cell) p.cell.seen

  nobody : (k : ℕ) → c.args.self.cell.count ≤ k → actions_by k (actions (numbers g.O.Object.call_numbers) g.O.Object.reply_numbers entries) ≡ []
  nobody k above = c.close-object.ensures.nobody_else k (subst (λ (z : PoolModel C). z.cell.count ≤ k) (sym c.self.view_is) above)

  taken : IsEachTaken c.args.self.queue.calls (flat_map (λ (p : PoolPassModel C). p.taker.taken) c.args.passes.items)
  taken = let before = passes g c.before.before.before in let P : PoolPassModel C → Type 0 = IsPassOf g.O.Object.call_numbers g.O.Object.admits c.args.self in
      let own = All-head P (first g c.before.before.before) (others g c.before.before.before) (subst (All P) before c.requires.pool) in
      let calls : c.unite_all.new.taker.calls ≡ c.args.self.queue.calls = ap (λ (t : TakerModel C). t.calls) c.unite_all.ensures.taker ∙ own.calls in
      let all : c.unite_all.new.taker.taken ≡ flat_map (λ (p : PoolPassModel C). p.taker.taken) c.args.passes.items =
      ap (λ (t : TakerModel C). t.taken) c.unite_all.ensures.taker ∙ sym (ap (flat_map (λ (p : PoolPassModel C). p.taker.taken)) before) in
      subst (λ (z : List C × List (NumberedCall C)). IsEachTaken z.0 z.1) (λ j. (calls j, all j)) c.finish.ensures

  seen : All Seen c.args.passes.items
  seen = all_of-map (λ (p : CellPassModel). HasSeen (actions (numbers g.O.Object.call_numbers) g.O.Object.reply_numbers entries) (number p) p.seen) (λ (p : PoolPassModel C). p.cell) c.args.passes.items
      (subst (All (λ (p : CellPassModel). HasSeen (actions (numbers g.O.Object.call_numbers) g.O.Object.reply_numbers entries) (number p) p.seen)) (cells g c.before.before.before) c.close-object.ensures.seen)

  ran : HasRunOf c.args.self.cell (map (λ p. p.cell) c.args.passes.items) (actions (numbers g.O.Object.call_numbers) g.O.Object.reply_numbers entries)
  ran =
      let made = actions (numbers g.O.Object.call_numbers) g.O.Object.reply_numbers entries in
      subst (λ (z : PoolModel C). HasRunOf z.cell (map (λ (p : PoolPassModel C). p.cell) c.args.passes.items) made) c.self.view_is
      (subst (λ (l : List CellPassModel). HasRunOf c.self.inside.cell l made) (cells g c.before.before.before) c.close-object.ensures.run)

pub returns-clause-state : goal.returns-clause-state
returns-clause-state g c = let O = g.O.Object in
    c.into_inner.ensures.state ∙ (c.close-object.ensures.state
    ∙ ap (λ (z : PoolModel _). state_left (λ state call. O.state_after state (inner call)) z.cell.opening (operations (numbers O.call_numbers) O.reply_numbers c.close-object.result.1.items)) c.self.view_is)

pub returns-clause-nobody_else : goal.returns-clause-nobody_else
returns-clause-nobody_else g c = nobody g (goal.at.returns-clause-nobody_else g c).After-into_inner

pub returns-clause-seen : goal.returns-clause-seen
returns-clause-seen g c = seen g (goal.at.returns-clause-seen g c).After-into_inner

pub returns-clause-run : goal.returns-clause-run
returns-clause-run g c = ran g (goal.at.returns-clause-run g c).After-into_inner

pub returns-clause-taken : goal.returns-clause-taken
returns-clause-taken g c k d below = let e = (goal.at.returns-clause-taken g c).After-into_inner in let O = g.O.Object in
    each_pass O.call_numbers g.met.O.Object.calls_differ O.reply_numbers O.admits (entries g e) c.args.self c.args.self.cell.count c.args.passes.items c.requires.pool c.requires.all (seen g e) (nobody g e)
    (slice_index_or c.args.passes.items k d) (Contains-get_or c.args.passes.items k d below)

pub returns-clause-history : goal.returns-clause-history
returns-clause-history g c = let e = (goal.at.returns-clause-history g c).After-into_inner in let O = g.O.Object in
    let pass = each_pass O.call_numbers g.met.O.Object.calls_differ O.reply_numbers O.admits (entries g e) c.args.self c.args.self.cell.count c.args.passes.items c.requires.pool c.requires.all (seen g e) (nobody g e) in
    let worker = each_worker O.call_numbers g.met.O.Object.calls_differ O.reply_numbers O.admits (entries g e) c.args.self c.args.self.cell.count c.args.passes.items c.requires.pool c.requires.all (seen g e) (nobody g e) in
    pool_history O.call_numbers g.met.O.Object.calls_differ O.reply_numbers O.admits (entries g e) c.args.self c.args.self.cell.count c.args.passes.items c.requires.pool pass worker O.reply_at O.state_after c.args.self.cell.opening
    (subst (λ (z : PoolModel _). IsLegal (λ state call. O.reply_at state (inner call)) (λ state call. O.state_after state (inner call)) z.cell.opening (operations (numbers O.call_numbers) O.reply_numbers (entries g e))) c.self.view_is c.close-object.ensures.legal)
    (taken g e)
