use Rattle.std.proofs.Common.{◌≡◌, ℕ, ◌+◌, ◌++◌, length, refl, sym, ap, ◌∙◌, subst, set, slice_get, List, [], ◌∷◌, Some}
use Rattle.shfl_line.specs.declared.events.Mode.TheVariants.{Read}
use Rattle.shfl_table.specs.Places.{place_index}
use Rattle.shfl_table.specs.PassModel.{HasAt, PassModel}
use Rattle.shfl_core.specs.Plan.{is_resting}
use Rattle.shfl_table.specs.Waits.{as_idle}
use Rattle.shfl_table.specs.Books.{BookModel}
use Rattle.shfl_table.proofs.BookVisits.{reply_is, look_stays, same_opening}
use Rattle.rw_cell.proofs.reads.read_and_free.Given as given_here
use Rattle.rw_cell.proofs.reads.read_and_free.Goals as goal
use Rattle.rw_cell.proofs.reads.read_and_free.Goals.{After-visit-reply}

-- a reader's only place has the copy that it knows
only-here : (p : PassModel BookModel) (place : ℕ) (x : BookModel) → p.own.reg.mode ≡ Read → p.values ≡ Some x ∷ [] → HasAt p place x
only-here p place x reads is = (λ j. slice_get (is j) (place_index (reads j) place))

module _ (g : given_here.Over) (c : After-visit-reply g) where
  here : HasAt c.args.pass.now c.number-number.result c.requires.within.0
  here = only-here c.args.pass.now c.number-number.result c.requires.within.0 c.requires.mode c.requires.within.1

  abbrev left : BookModel
  left = (c.visit-reply.ensures.done c.requires.within.0 here).0

  history-left : left.history ≡ c.args.pass.now.history
  history-left = ap (λ (b : BookModel). b.history) (c.visit-reply.ensures.done c.requires.within.0 here).1.0 ∙ c.requires.within.3

  still : c.visit-reply.new.self ≡ record c.args.pass.now { values = Some left ∷ [] }
  still = (c.visit-reply.ensures.done c.requires.within.0 here).2 ∙ (λ j. record c.args.pass.now { values = set (c.requires.within.1 j) (place_index (c.requires.mode j) c.number-number.result) (Some left) })

pub visit-reply-requires-clause-ready : goal.visit-reply-requires-clause-ready
visit-reply-requires-clause-ready g c = let old = c.args.pass.now in let w = c.requires.within in
    (w.0, only-here old c.number-number.result w.0 c.requires.mode w.1, (c.requires.read, subst (λ (o : List ℕ). g.O.Object.admits o (g.O.Object.call_numbers c.args.call.now)) (same_opening old w.0 w.2) c.requires.admitted))

pub visit-reply-requires-clause-leaves : goal.visit-reply-requires-clause-leaves
visit-reply-requires-clause-leaves g c x answer y there done = let old = c.args.pass.now in let w = c.requires.within in let O = g.O.Object in
    look_stays O.reply_at O.state_after old c.number-number.result w.0 (only-here old c.number-number.result w.0 c.requires.mode w.1) w.2 w.3 x y c.requires.mode there done.0

pub free-requires-clause-board : goal.free-requires-clause-board
free-requires-clause-board g c = let d = (goal.at.free-requires-clause-board g c).After-visit-reply in ap (λ (p : PassModel BookModel). p.board) (still g d) ∙ c.requires.board

pub free-requires-clause-holds : goal.free-requires-clause-holds
free-requires-clause-holds g c = let d = (goal.at.free-requires-clause-holds g c).After-visit-reply in ap (λ (p : PassModel BookModel). is_resting p.own) (still g d) ∙ c.requires.holds

pub free-requires-clause-within : goal.free-requires-clause-within
free-requires-clause-within g c = let d = (goal.at.free-requires-clause-within g c).After-visit-reply in (left g d ∷ [], ap (λ (p : PassModel BookModel). p.values) (still g d), (refl, tt))

pub returns-clause-reply : goal.returns-clause-reply
returns-clause-reply g c = let d = (goal.at.returns-clause-reply g c).After-visit-reply in let old = c.args.pass.now in let w = c.requires.within in let O = g.O.Object in
    (c.visit-reply.ensures.done w.0 (here g d)).1.2 ∙ reply_is O.reply_at O.state_after old c.number-number.result w.0 (here g d) w.2 w.3 (O.call_numbers c.args.call.now)

pub returns-clause-place : goal.returns-clause-place
returns-clause-place g c = let d = (goal.at.returns-clause-place g c).After-visit-reply in let w = c.requires.within in
    (c.visit-reply.ensures.done w.0 (here g d)).1.1 ∙ ap length w.3

pub returns-clause-pass : goal.returns-clause-pass
returns-clause-pass g c = let d = (goal.at.returns-clause-pass g c).After-visit-reply in let p = still g d in
    let freed = (c.free.ensures (left g d ∷ []) (ap (λ (p : PassModel BookModel). p.values) p)).1 in
    freed ∙ (λ i. record { board = (p i).board; own = as_idle (p i).own; steps_taken = (p i).steps_taken + 1; found = sym (ap (λ (q : PassModel BookModel). q.found) freed) i; decisions = (p i).decisions; attempts = (p i).attempts; initial_state = (p i).initial_state; history = history-left g d i; values = [] })

pub returns-clause-finds : goal.returns-clause-finds
returns-clause-finds g c = let d = (goal.at.returns-clause-finds g c).After-visit-reply in let p = still g d in
    let freed = c.free.ensures (left g d ∷ []) (ap (λ (q : PassModel BookModel). q.values) p) in
    (freed.0 ∷ [], ap (λ (q : PassModel BookModel). q.found) freed.1 ∙ ap (λ (q : PassModel BookModel). q.found ++ freed.0 ∷ []) p)
