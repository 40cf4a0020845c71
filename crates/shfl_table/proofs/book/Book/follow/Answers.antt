use Rattle.std.proofs.Common.{◌≡◌, ℕ, ◌<◌, refl, sym, ap, ◌∙◌, subst, List, [], ◌∷◌, ◌++◌, length, slice_index, arith}
use Rattle.hist_log.specs.declared.entry.Entry.{Entry}
use Rattle.hist_log.specs.History.{IsLegal, state_left}
use Rattle.hist_log.proofs.LongerHistories.{admits-left}
use Rattle.shfl_table.specs.Histories.{actions_by}
use Rattle.shfl_table.specs.Books.{BookModel, operations_of, actions}
use Rattle.shfl_table.proofs.LongerBooks.{room-for, legal-longer, invariant-kept}
use Rattle.shfl_table.proofs.book.Book.follow.Given as given_here
use Rattle.shfl_table.proofs.book.Book.follow.Goals as goal
use Rattle.shfl_table.proofs.book.Book.follow.Goals.{After-keep}

pub follow-requires-clause-left : goal.follow-requires-clause-left
follow-requires-clause-left g c = let i = c.self.inside in let O = g.O.Object in
    (room-for O.call_numbers O.reply_numbers O.reply_at O.state_after (O.state_numbers i.opening.value) i.allowed.items i.history.items c.args.worker _ _ _ c.self.invariant
    (subst (λ (m : BookModel). length (actions_by c.args.worker m.history) < slice_index m.allowed c.args.worker) (sym c.self.view_is) c.requires.left)).1

pub follow-requires-clause-admitted : goal.follow-requires-clause-admitted
follow-requires-clause-admitted g c = let i = c.self.inside in let O = g.O.Object in let h = actions O.call_numbers O.reply_numbers i.history.items in
    subst (λ (s : List ℕ). O.admits s (O.call_numbers c.args.call.now)) (sym c.self.invariant.state_is)
    (admits-left O.state_after O.admits g.met.O.Object.admits_stays (O.state_numbers i.opening.value) (operations_of h) (O.call_numbers c.args.call.now)
    (subst (λ (m : BookModel). O.admits m.opening (O.call_numbers c.args.call.now)) (sym c.self.view_is) c.requires.admitted))

pub follow-requires-clause-answered : goal.follow-requires-clause-answered
follow-requires-clause-answered g c = let O = g.O.Object in
    subst (λ (m : BookModel). O.reply_numbers c.args.reply.now ≡ O.reply_at (state_left O.state_after m.opening (operations_of m.history)) (O.call_numbers c.args.call.now)) (sym c.self.view_is) c.requires.answered
    ∙ ap (λ s. O.reply_at s (O.call_numbers c.args.call.now)) (sym c.self.invariant.state_is)

pub keep-requires : goal.keep-requires
keep-requires g c = let i = c.self.inside in let O = g.O.Object in let ok = i.history.ok.0 in
    let room = (room-for O.call_numbers O.reply_numbers O.reply_at O.state_after (O.state_numbers i.opening.value) i.allowed.items i.history.items c.args.worker _ _ _ c.self.invariant
    (subst (λ (m : BookModel). length (actions_by c.args.worker m.history) < slice_index m.allowed c.args.worker) (sym c.self.view_is) c.requires.left)).0 in omega arith

module _ (g : given_here.Over) (c : After-keep g) where
  more : length (actions_by c.args.worker (actions g.O.Object.call_numbers g.O.Object.reply_numbers c.self.inside.history.items)) < slice_index c.self.inside.allowed.items c.args.worker
  more = subst (λ (m : BookModel). length (actions_by c.args.worker m.history) < slice_index m.allowed c.args.worker) (sym c.self.view_is) c.requires.left

  abbrev entry : Entry g.row.O.Denot g.row.O-Call.Denot g.row.O-Reply.Denot
  entry = record { worker = c.args.worker; call = c.args.call.now; reply = c.args.reply.now; receipt = length c.self.inside.history.items }

  replied : g.O.Object.reply_numbers c.args.reply.now
      ≡ g.O.Object.reply_at (state_left g.O.Object.state_after (g.O.Object.state_numbers c.self.inside.opening.value) (operations_of (actions g.O.Object.call_numbers g.O.Object.reply_numbers c.self.inside.history.items)))
      (g.O.Object.call_numbers c.args.call.now)
  replied = subst (λ (m : BookModel). g.O.Object.reply_numbers c.args.reply.now
      ≡ g.O.Object.reply_at (state_left g.O.Object.state_after m.opening (operations_of m.history)) (g.O.Object.call_numbers c.args.call.now)) (sym c.self.view_is) c.requires.answered

pub invariant_of-self : goal.invariant_of-self
invariant_of-self g c = let d = (goal.at.invariant_of-self g c).After-keep in let i = c.self.inside in let O = g.O.Object in
    invariant-kept O.call_numbers O.reply_numbers O.reply_at O.state_after (O.state_numbers i.opening.value) i.allowed.items i.history.items (entry g d) (replied g d)
    _ _ _ _ _ _ _ c.keep.ensures.entry c.keep.ensures.room c.self.invariant (more g d) refl c.follow.ensures.state c.follow.ensures.spare

pub returns-clause-legal : goal.returns-clause-legal
returns-clause-legal g c = let d = (goal.at.returns-clause-legal g c).After-keep in let i = c.self.inside in let O = g.O.Object in
    subst (λ (l : List (Entry g.row.O.Denot g.row.O-Call.Denot g.row.O-Reply.Denot)). IsLegal O.reply_at O.state_after (O.state_numbers i.opening.value) (operations_of (actions O.call_numbers O.reply_numbers l))) (sym c.keep.ensures.entry)
    (legal-longer O.call_numbers O.reply_numbers O.reply_at O.state_after (O.state_numbers i.opening.value) i.allowed.items i.history.items (entry g d) (replied g d) c.self.invariant.legal)
