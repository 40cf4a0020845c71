use Rattle.std.proofs.Common.{ℕ, List, sym, subst}
use Rattle.hist_log.proofs.LongerHistories.{admits-left}
use Rattle.shfl_table.specs.Books.{BookModel, operations_of, actions}
use Rattle.shfl_table.proofs.book.Book.look.Goals as goal

pub look-requires-clause-admitted : goal.look-requires-clause-admitted
look-requires-clause-admitted g c = let i = c.self.inside in let O = g.O.Object in let h = actions O.call_numbers O.reply_numbers i.history.items in
    subst (λ (s : List ℕ). O.admits s (O.call_numbers c.args.call.now)) (sym c.self.invariant.state_is)
    (admits-left O.state_after O.admits g.met.O.Object.admits_stays (O.state_numbers i.opening.value) (operations_of h) (O.call_numbers c.args.call.now)
    (subst (λ (m : BookModel). O.admits m.opening (O.call_numbers c.args.call.now)) (sym c.self.view_is) c.requires.admitted))
