use Rattle.std.proofs.Common.{rules, ◌≡◌, ℕ, ◌<◌, sym, ap, ◌∙◌, subst, List, map, Some}
use Rattle.std.specs.Mem.Slots.{slots_items}
use Rattle.shfl_table.specs.PassModel.{BoardModel, ClosingModel}
use Rattle.shfl_table.specs.Views.{IsAmong}
use Rattle.shfl_laws.specs.Moves.{told_terms}
use Rattle.shfl_table.specs.Histories.{IsCurrent, initial_state_of}
use Rattle.shfl_table.specs.Places.{Every}
use Rattle.shfl_table.specs.declared.view.Given.{Given}
use Rattle.shfl_table.specs.declared.view.Part.{Part}
use Rattle.shfl_table.proofs.First.{count-is}
use Rattle.shfl_table.proofs.Ends.{Ended, closes, all_alike}
use Rattle.shfl_table.proofs.closing.Closing.finish.Given as given_here
use Rattle.shfl_table.proofs.closing.Closing.finish.Goals as goal
use Rattle.shfl_table.proofs.closing.Closing.finish.Goals.{After-close_with}

module _ (g : given_here.Over) (c : After-close_with g) where
  is_ending : Ended g.V.Kept.initial_state g.V.Kept.history c.args.self.board.id.rules c.args.self.board.id.attrs c.args.self.board.count c.args.self.board.initial_state c.args.self.back c.args.self.parts (slots_items c.close_with.result.slots)
  is_ending = let i = c.self.invariant in let v = c.self.inside.desk.me.0 in let key = c.board.inside.table.shared.key in
      let b = c.board.view_is ∙ ap (λ (z : ClosingModel). z.board) c.self.view_is in let same = ap (λ (z : BoardModel). z.count) b in let back = ap (λ (z : ClosingModel). z.back) c.self.view_is in
      let e = closes g.V.Kept.initial_state g.V.Kept.history (told_terms key.rules key.count key.words.value.items) key.count (count-is key.rules key.count key.words.value.items) (initial_state_of g.V.Kept.initial_state key.values.value.items) c.self.inside.desk.id v _ _ i.1 i.2
      (λ k h. let all = c.requires.all k (subst (λ (n : ℕ). k < n) same h) in (all.0, subst (IsAmong all.0) (sym back) all.1, all.2))
      c.close_with.ensures.values.2 in
      subst (λ (z : BoardModel × List Given × List Part). Ended g.V.Kept.initial_state g.V.Kept.history z.0.id.rules z.0.id.attrs z.0.count z.0.initial_state z.1 z.2 (slots_items c.close_with.result.slots)) (λ j. (b j, back j, ap (λ (z : ClosingModel). z.parts) c.self.view_is j)) e

pub drained-requires-clause-all : goal.drained-requires-clause-all
drained-requires-clause-all g c k h = let a = (goal.at.drained-requires-clause-all g c).After-close_with in let e = is_ending g a in let s = c.slot_count-places.ensures in
    let f = c.close_with.ensures.values.2 in let long = f.3 in let n = c.close_with.ensures.counts.1 in
    let x = e.home k (search rules) in (x.0, x.1)

module _ (g : given_here.Over) (c : After-close_with g) (values : List _) (drained : map Some values ≡ slots_items c.close_with.result.slots) where
  alike : Every (IsCurrent g.V.Kept.initial_state g.V.Kept.history c.args.self.board.initial_state (is_ending g c).total) values
  alike = all_alike g.V.Kept.initial_state g.V.Kept.history c.args.self.board.initial_state (is_ending g c).total values (slots_items c.close_with.result.slots) drained (is_ending g c).home

pub returns-clause-values : goal.returns-clause-values
returns-clause-values g c = let a = (goal.at.returns-clause-values g c).After-close_with in let e = is_ending g a in (
  e.total,
  alike g a c.drained.result.items c.drained.ensures,
  e.knew,
  e.only,
)

pub returns-clause-run : goal.returns-clause-run
returns-clause-run g c = let a = (goal.at.returns-clause-run g c).After-close_with in let e = is_ending g a in (
  e.total,
  alike g a c.drained.result.items c.drained.ensures,
  e.run,
)
