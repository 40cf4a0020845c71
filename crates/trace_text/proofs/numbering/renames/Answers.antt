use Rattle.name_order.proofs.Placing.{two_put}
use Rattle.trace_text.proofs.numbering.renames.Goals as goal

pub returns-in_err-to_place-clause-put : goal.returns-in_err-to_place-clause-put
returns-in_err-to_place-clause-put c = two_put c.args.names.now c.place.new.self c.place-2.new.self c.args.name.now c.args.to_name.now c.place.ensures.one c.place-2.ensures.one c.place.ensures.put c.place-2.ensures.put

pub returns-clause-put : goal.returns-clause-put
returns-clause-put c = two_put c.args.names.now c.place.new.self c.place-2.new.self c.args.name.now c.args.to_name.now c.place.ensures.one c.place-2.ensures.one c.place.ensures.put c.place-2.ensures.put
