use Rattle.std.proofs.Common.{◌≡◌, ◌+◌, ℕ, sym, refl, ap, ◌∙◌, subst, List, [], ◌∷◌, ◌++◌, length, Some, set, slice_get, slice_index, ◌<◌}
use Rattle.hist_log.specs.History.{IsLegal}
use Rattle.shfl_line.specs.declared.events.Mode.{Mode}
use Rattle.shfl_line.specs.declared.events.Mode.TheVariants.{Write}
use Rattle.shfl_table.specs.declared.kept.Action.{Action}
use Rattle.shfl_table.specs.Histories.{actions_by}
use Rattle.shfl_table.specs.Places.{place_index}
use Rattle.shfl_table.specs.PassModel.{HasAt, PassModel}
use Rattle.shfl_table.specs.Books.{BookModel, MayCall, pack, opening_of, allowed_of, operations_of}
use Rattle.shfl_core.specs.Plan.{is_resting}
use Rattle.shfl_table.specs.Waits.{as_idle}
use Rattle.shfl_table.proofs.BookVisits.{may_call, history_after, legal_after, write_stays}
use Rattle.shfl_cell.proofs.calls.call_and_free.Given as given_here
use Rattle.shfl_cell.proofs.calls.call_and_free.Goals as goal
use Rattle.shfl_cell.proofs.calls.call_and_free.Goals.{After-visit-reply}

-- the only place has the object that the pass knows
only-here : (p : PassModel BookModel) (x : BookModel) → p.own.reg.mode ≡ Write → p.values ≡ Some x ∷ [] → HasAt p 0 x
only-here p x writes is = (λ j. slice_get (is j) (place_index (writes j) 0))

module _ (g : given_here.Over) (c : After-visit-reply g) where
  here : HasAt c.args.pass.now 0 c.requires.within.0
  here = only-here c.args.pass.now c.requires.within.0 c.requires.mode c.requires.within.1

  abbrev left : BookModel
  left = (c.visit-reply.ensures.done c.requires.within.0 here).0

  abbrev made : Action
  made = record { worker = c.args.pass.now.own.reg.me; call = g.O.Object.call_numbers c.args.call.now; reply = g.O.Object.reply_numbers c.visit-reply.result.0 }

  by-own : record { worker = c.number-worker.result; call = g.O.Object.call_numbers c.args.call.now; reply = g.O.Object.reply_numbers c.visit-reply.result.0 } ≡ made
  by-own = (λ j. record { worker = c.number-worker.ensures j; call = g.O.Object.call_numbers c.args.call.now; reply = g.O.Object.reply_numbers c.visit-reply.result.0 })

  history-left : left.history ≡ c.args.pass.now.history ++ made ∷ []
  history-left = history_after g.O.Object.reply_at g.O.Object.state_after c.args.pass.now 0 c.requires.within.0 here c.requires.within.2 c.requires.within.3 _ _ left (c.visit-reply.ensures.done c.requires.within.0 here).1
      ∙ ap (λ (a : Action). c.args.pass.now.history ++ a ∷ []) by-own

  in-place : c.visit-reply.new.self ≡ record c.args.pass.now { values = Some left ∷ [] }
  in-place = (c.visit-reply.ensures.done c.requires.within.0 here).2 ∙ (λ j. record c.args.pass.now { values = set (c.requires.within.1 j) (place_index (c.requires.mode j) 0) (Some left) })

pub visit-reply-requires-clause-ready : goal.visit-reply-requires-clause-ready
visit-reply-requires-clause-ready g c = let old = c.args.pass.now in let w = c.requires.within in let O = g.O.Object in
    (w.0, only-here old w.0 c.requires.mode w.1, may_call old c.number-worker.result c.number-worker.ensures O.admits (O.call_numbers c.args.call.now) w.0 w.2 w.3 c.requires.room c.requires.admitted)

pub visit-reply-requires-clause-leaves : goal.visit-reply-requires-clause-leaves
visit-reply-requires-clause-leaves g c x answer y there done = let old = c.args.pass.now in let O = g.O.Object in let w = c.requires.within in
    write_stays O.reply_at O.state_after old 0 w.0 (only-here old w.0 c.requires.mode w.1) w.2 w.3 _ _ x y c.requires.mode c.number-worker.ensures there done

pub free-requires-clause-board : goal.free-requires-clause-board
free-requires-clause-board g c = let d = (goal.at.free-requires-clause-board g c).After-visit-reply in ap (λ (p : PassModel BookModel). p.board) (in-place g d) ∙ c.requires.board

pub free-requires-clause-holds : goal.free-requires-clause-holds
free-requires-clause-holds g c = let d = (goal.at.free-requires-clause-holds g c).After-visit-reply in ap (λ (p : PassModel BookModel). is_resting p.own) (in-place g d) ∙ c.requires.holds

pub free-requires-clause-within : goal.free-requires-clause-within
free-requires-clause-within g c = let d = (goal.at.free-requires-clause-within g c).After-visit-reply in (left g d ∷ [], ap (λ (p : PassModel BookModel). p.values) (in-place g d), (refl, tt))

pub returns-clause-place : goal.returns-clause-place
returns-clause-place g c = let d = (goal.at.returns-clause-place g c).After-visit-reply in let w = c.requires.within in
    (c.visit-reply.ensures.done w.0 (here g d)).1.place_is ∙ ap length w.3

pub returns-clause-pass : goal.returns-clause-pass
returns-clause-pass g c = let d = (goal.at.returns-clause-pass g c).After-visit-reply in let i = in-place g d in
    let freed = (c.free.ensures (left g d ∷ []) (ap (λ (p : PassModel BookModel). p.values) i)).1 in
    freed ∙ (λ j. record { board = (i j).board; own = as_idle (i j).own; steps_taken = (i j).steps_taken + 1; found = sym (ap (λ (p : PassModel BookModel). p.found) freed) j; decisions = (i j).decisions; attempts = (i j).attempts; initial_state = (i j).initial_state; history = history-left g d j; values = [] })

pub returns-clause-finds : goal.returns-clause-finds
returns-clause-finds g c = let d = (goal.at.returns-clause-finds g c).After-visit-reply in let i = in-place g d in let freed = c.free.ensures (left g d ∷ []) (ap (λ (p : PassModel BookModel). p.values) i) in
    (freed.0 ∷ [], ap (λ (p : PassModel BookModel). p.found) freed.1 ∙ ap (λ (p : PassModel BookModel). p.found ++ freed.0 ∷ []) i)

pub returns-clause-legal : goal.returns-clause-legal
returns-clause-legal g c = let d = (goal.at.returns-clause-legal g c).After-visit-reply in let i = in-place g d in let old = c.args.pass.now in let O = g.O.Object in let w = c.requires.within in
    let is : c.free.new.pass.history ≡ old.history ++ made g d ∷ [] = ap (λ (p : PassModel BookModel). p.history) (c.free.ensures (left g d ∷ []) (ap (λ (p : PassModel BookModel). p.values) i)).1 ∙ history-left g d in
    subst (λ (l : List Action). IsLegal O.reply_at O.state_after (opening_of old.initial_state) (operations_of l)) (ap (λ (a : Action). old.history ++ a ∷ []) (by-own g d) ∙ sym is)
    (legal_after O.reply_at O.state_after old 0 w.0 (here g d) w.2 w.3 _ _ (left g d) (c.visit-reply.ensures.done w.0 (here g d)).1)
