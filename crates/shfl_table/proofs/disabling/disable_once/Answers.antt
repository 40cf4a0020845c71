use Rattle.shfl_table.specs.Histories.{initial_state_of}
use Rattle.shfl_laws.specs.Moves.{told_terms}
use Rattle.shfl_table.proofs.HeadDisables.{disabling-permits}
use Rattle.shfl_table.proofs.disabling.disable_once.Goals as goal

pub perform-requires-clause-permits : goal.perform-requires-clause-permits
perform-requires-clause-permits g c = let a = c.args in let k = a.shared.now.key in
    disabling-permits g.V.Kept.initial_state g.V.Kept.history a.shared.now.table_id.slots a.seat.now.id (initial_state_of g.V.Kept.initial_state k.values.value.items) (told_terms k.rules k.count k.words.value.items) g.M.DisablingTerms.lock a.seat.now.me c.disable_access.result
    c.requires.made c.requires.live c.disable_access.ensures
