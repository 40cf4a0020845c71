use Rattle.std.proofs.Common.{◌∙◌, subst}
use Rattle.hist_log.specs.History.{IsLegal, operations, state_left}
use Rattle.shfl_table.specs.Books.{BookModel}
use Rattle.shfl_table.proofs.Entries.{operations_of-actions}
use Rattle.shfl_table.proofs.book.Book.into_parts.Goals as goal

pub returns-clause-state : goal.returns-clause-state
returns-clause-state g c = let O = g.O.Object in
    c.self.invariant.state_is
    ∙ (λ j. state_left O.state_after (c.self.view_is j).opening (operations_of-actions O.call_numbers O.reply_numbers c.self.inside.history.items j))

pub returns-clause-legal : goal.returns-clause-legal
returns-clause-legal g c = let O = g.O.Object in
    subst (λ (m : BookModel). IsLegal O.reply_at O.state_after m.opening (operations O.call_numbers O.reply_numbers c.self.inside.history.items)) c.self.view_is
    (subst (IsLegal O.reply_at O.state_after (O.state_numbers c.self.inside.opening.value)) (operations_of-actions O.call_numbers O.reply_numbers c.self.inside.history.items) c.self.invariant.legal)
