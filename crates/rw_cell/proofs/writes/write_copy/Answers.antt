use Rattle.std.proofs.Common.{ap, ◌∙◌, subst, length, set, [], ◌∷◌, ◌++◌, Some}
use Rattle.hist_log.specs.History.{IsLegal}
use Rattle.shfl_table.specs.declared.kept.Action.{Action}
use Rattle.shfl_table.specs.Books.{opening_of, operations_of}
use Rattle.shfl_table.proofs.BookVisits.{reply_is, packed_after, history_after, legal_after, may_call, write_stays}
use Rattle.rw_cell.proofs.PlacedCopies.{at_place, has_at, same_write}
use Rattle.rw_cell.proofs.writes.write_copy.Goals as goal

pub visit-requires-clause-ready : goal.visit-requires-clause-ready
visit-requires-clause-ready g c = let old = c.args.pass.now in let w = c.requires.within in let O = g.O.Object in
    (w.0, has_at old c.requires.mode c.args.place w.0 w.1, may_call old c.number-worker.result c.number-worker.ensures O.admits (O.call_numbers c.args.call.now) w.0 w.2 w.3 c.requires.room c.requires.admitted)

pub visit-requires-clause-leaves : goal.visit-requires-clause-leaves
visit-requires-clause-leaves g c x answer y there made = let old = c.args.pass.now in let O = g.O.Object in let w = c.requires.within in
    write_stays O.reply_at O.state_after old c.args.place w.0 (has_at old c.requires.mode c.args.place w.0 w.1) w.2 w.3 _ _ x y c.requires.mode c.number-worker.ensures there made

pub returns : goal.returns
returns g c = let old = c.args.pass.now in let O = g.O.Object in let w = c.requires.within in let here = has_at old c.requires.mode c.args.place w.0 w.1 in
    let v = c.visit.ensures.done w.0 here in let call = O.call_numbers c.args.call.now in
    let answer = v.1.answered ∙ reply_is O.reply_at O.state_after old c.args.place w.0 here w.2 w.3 call in
    let made = same_write old c.number-worker.result c.number-worker.ensures O.reply_at O.state_after call _ answer in record {
      reply = answer;
      place = v.1.place_is ∙ ap length w.3;
      legal = subst (λ (a : Action). IsLegal O.reply_at O.state_after (opening_of old.initial_state) (operations_of (old.history ++ a ∷ []))) made
          (legal_after O.reply_at O.state_after old c.args.place w.0 here w.2 w.3 _ _ v.0 v.1);
      pass = (
        v.0,
        v.2 ∙ (λ j. record old { values = set old.values (at_place old c.requires.mode c.args.place j) (Some v.0) }),
        packed_after O.reply_at O.state_after old c.args.place w.0 here w.2 w.3 _ _ v.0 v.1,
        history_after O.reply_at O.state_after old c.args.place w.0 here w.2 w.3 _ _ v.0 v.1 ∙ ap (λ (a : Action). old.history ++ a ∷ []) made,
      );
    }
