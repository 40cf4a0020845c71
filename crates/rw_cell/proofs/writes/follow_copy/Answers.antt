use Rattle.std.proofs.Common.{sym, ap, ◌∙◌, set, [], ◌∷◌, ◌++◌, Some}
use Rattle.shfl_table.specs.declared.kept.Action.{Action}
use Rattle.shfl_table.proofs.BookVisits.{reply_is, packed_after, history_after, may_call, write_stays}
use Rattle.rw_cell.proofs.PlacedCopies.{at_place, has_at, same_write}
use Rattle.rw_cell.proofs.writes.follow_copy.Goals as goal

pub visit-requires-clause-ready : goal.visit-requires-clause-ready
visit-requires-clause-ready g c = let old = c.args.pass.now in let w = c.requires.within in let O = g.O.Object in let here = has_at old c.requires.mode c.args.place w.0 w.1 in let call = O.call_numbers c.args.call.now in (
  w.0,
  here,
  (
    may_call old c.number-worker.result c.number-worker.ensures O.admits call w.0 w.2 w.3 c.requires.room c.requires.admitted,
    c.requires.answered ∙ sym (reply_is O.reply_at O.state_after old c.args.place w.0 here w.2 w.3 call),
  ),
)

pub visit-requires-clause-leaves : goal.visit-requires-clause-leaves
visit-requires-clause-leaves g c x answer y there made = let old = c.args.pass.now in let O = g.O.Object in let w = c.requires.within in
    write_stays O.reply_at O.state_after old c.args.place w.0 (has_at old c.requires.mode c.args.place w.0 w.1) w.2 w.3 _ _ x y c.requires.mode c.number-worker.ensures there made

pub returns : goal.returns
returns g c = let old = c.args.pass.now in let O = g.O.Object in let w = c.requires.within in let here = has_at old c.requires.mode c.args.place w.0 w.1 in
    let v = c.visit.ensures.done w.0 here in
    let made = same_write old c.number-worker.result c.number-worker.ensures O.reply_at O.state_after (O.call_numbers c.args.call.now) _ c.requires.answered in record {
      pass = (
        v.0,
        v.2 ∙ (λ j. record old { values = set old.values (at_place old c.requires.mode c.args.place j) (Some v.0) }),
        packed_after O.reply_at O.state_after old c.args.place w.0 here w.2 w.3 _ _ v.0 v.1,
        history_after O.reply_at O.state_after old c.args.place w.0 here w.2 w.3 _ _ v.0 v.1 ∙ ap (λ (a : Action). old.history ++ a ∷ []) made,
      );
    }
