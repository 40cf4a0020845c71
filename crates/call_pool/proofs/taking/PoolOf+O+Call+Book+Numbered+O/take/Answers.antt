use Rattle.std.proofs.Common.{◌≡◌, ◌<◌, ◌∷◌, ◌++◌, [], All, slice_get, Some, sym, ap, ◌∙◌, subst}
use Rattle.hist_log.specs.Numbers.{inner}
use Rattle.shfl_line.proofs.Rounds.{asks-nothing}
use Rattle.shfl_table.specs.Waits.{answers_of}
use Rattle.hist_log.specs.declared.numbered.NumberedCall.{NumberedCall}
use Rattle.call_pool.specs.Pools.{PoolPassModel, IsPassOf, TakesCall}
use Rattle.call_pool.proofs.Takings.{one_left, still_own, at_place}
use Rattle.call_pool.proofs.taking.PoolOf+O+Call+Book+Numbered+O.take.Given as given_here
use Rattle.call_pool.proofs.taking.PoolOf+O+Call+Book+Numbered+O.take.Goals as goal
use Rattle.call_pool.proofs.taking.PoolOf+O+Call+Book+Numbered+O.take.Goals.{In-Some}

module _ (g : given_here.Over) (c : In-Some g) where
  abbrev C : Type 0
  C = g.row.O-Call.Denot

  -- the pass before the call
  abbrev before : PoolPassModel C
  before = record { taker = c.pass.inside.taker; cell = c.pass.inside.cell }

  own : IsPassOf g.O.Object.call_numbers g.O.Object.admits c.args.self.now before
  own = subst (IsPassOf g.O.Object.call_numbers g.O.Object.admits c.args.self.now) (sym c.pass.view_is) c.requires

  listed : slice_get c.args.self.now.queue.calls c.in-Some.call.at ≡ Some c.in-Some.call.call
  listed = ap (λ l. slice_get l c.in-Some.call.at) (sym own.calls) ∙ c.in-Some.ensures.listed

pub apply-reply-requires-clause-left : goal.apply-reply-requires-clause-left
apply-reply-requires-clause-left g c = let d = (goal.at.apply-reply-requires-clause-left g c).In-Some in
    one_left g.O.Object.call_numbers g.O.Object.admits c.args.self.now (before g d) c.in-Some.call (own g d) (listed g d) c.in-Some.ensures.rising

pub apply-reply-requires-clause-admitted : goal.apply-reply-requires-clause-admitted
apply-reply-requires-clause-admitted g c = let d = (goal.at.apply-reply-requires-clause-admitted g c).In-Some in let O = g.O.Object in
    subst (λ s. O.admits s (O.call_numbers c.in-Some.call.call)) (sym (own g d).opening)
    (at_place (λ x. O.admits c.args.self.now.cell.opening (O.call_numbers x)) c.args.self.now.queue.calls c.in-Some.call.at c.in-Some.call.call (listed g d) (own g d).admitted)

pub returns-clause-pool : goal.returns-clause-pool
returns-clause-pool g c = let d = (goal.at.returns-clause-pool g c).In-Some in let O = g.O.Object in
    still_own O.call_numbers O.admits (λ state call. O.reply_at state (inner call)) (λ state call. O.state_after state (inner call)) c.args.self.now (before g d)
    (record { taker = c.take.new.taker; cell = c.apply-reply.new.pass }) c.in-Some.call (O.reply_numbers c.apply-reply.result.0) c.apply-reply.result.1.place
    (own g d) c.in-Some.ensures.queue c.in-Some.ensures.calls c.in-Some.ensures.parts c.in-Some.ensures.taken (listed g d) c.in-Some.ensures.rising c.apply-reply.ensures.made

pub returns-clause-some : goal.returns-clause-some
returns-clause-some g c = let d = (goal.at.returns-clause-some g c).In-Some in let O = g.O.Object in
    subst (λ (z : PoolPassModel _). TakesCall O.call_numbers O.reply_at O.state_after c.args.self.now.queue.calls z c.in-Some.call.at (O.reply_numbers c.apply-reply.result.0) c.apply-reply.result.1.place
    (record { taker = c.take.new.taker; cell = c.apply-reply.new.pass })) c.pass.view_is
    (record { call = c.in-Some.call.call; listed = listed g d; taken = c.in-Some.ensures.taken; made = c.apply-reply.ensures.made; going_on = c.in-Some.ensures.going_on })

pub returns-in_default-clause-asked : goal.returns-in_default-clause-asked
returns-in_default-clause-asked g c = let told = g.Ch.Chooser.told c.args.chooser.now in
    asks-nothing (answers_of c.args.pass.now.cell.attr) c.args.pass.now.cell.decisions c.pass.inside.cell.decisions told (ap (λ (z : PoolPassModel _). z.cell.decisions) c.pass.view_is)
