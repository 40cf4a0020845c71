use Rattle.std.proofs.Common.{◌≡◌, ℕ, ◌<◌, length, slice_index, get_or, ap, sym, ◌∙◌, subst, arith}
use Rattle.std.proofs.lemmas.List.{get_or_default}
use Rattle.shard_rows.specs.Replay.{opening, numbers_of}
use Rattle.shard_rows.proofs.Longer.{numbers-length}
use Rattle.shard_rows.proofs.journal.Journal.number.Goals as goal

pub index-requires : goal.index-requires
index-requires c =
    let len = ap length c.self.invariant.beside ∙ numbers-length (opening c.self.inside.room) c.self.inside.entries.items in
    let same = ap (λ j. length j.entries) c.self.view_is in
    omega (arith, len, same, c.requires)

pub returns : goal.returns
returns c =
    let len = ap length c.self.invariant.beside ∙ numbers-length (opening c.self.inside.room) c.self.inside.entries.items in
    let same = ap (λ j. length j.entries) c.self.view_is in
    c.index.ensures ∙ get_or_default c.self.inside.numbers.items c.args.place c.index.result.now 0 (omega (arith, len, same, c.requires))
    ∙ ap (λ ns. slice_index ns c.args.place) c.self.invariant.beside
    ∙ ap (λ j. slice_index (numbers_of (opening j.room) j.entries) c.args.place) c.self.view_is
