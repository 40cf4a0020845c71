use Rattle.std.proofs.Common.{◌≡◌, ◌<◌, length, Some, slice_index, sym, ap, ◌∙◌, subst, arith}
use Rattle.std.specs.Prelude.{slice_get}
use Rattle.std.proofs.lemmas.Option.{slice_get_within}
use Rattle.shard_rows.specs.Values.{JournalValue}
use Rattle.shard_rows.proofs.journal.Journal.newest.Goals as goal

pub returns-in-Some : goal.returns-in-Some
returns-in-Some c i e at named =
    let there = c.self.invariant.named c.args.dir i e (subst (λ (j : JournalValue). slice_get j.entries i ≡ Some e) (sym c.self.view_is) at) named in
    let is : c.in-Some.place.now ≡ slice_index c.self.inside.newest.items c.args.dir = c.in-Some.ensures.lookup.3.1 0 ∙ ap (λ l. slice_index l c.args.dir) c.deref.ensures.value in
    omega (arith, there, is)

pub returns-in-None : goal.returns-in-None
returns-in-None c i e at named = let within = slice_get_within c.args.self.now.entries i e at in omega (arith, within, c.len.ensures.len)
