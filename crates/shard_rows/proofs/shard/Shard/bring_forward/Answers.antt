use Rattle.std.proofs.Common.{◌≡◌, ℕ, ◌+◌, ◌≤◌, length, take, slice_index, ap, sym, ◌∙◌, subst, arith}
use Rattle.std.proofs.lemmas.Option.{slice_get_within}
use Rattle.shard_rows.specs.Replay.{opening, left_by, numbers_of}
use Rattle.shard_rows.specs.Shares.{names_in, advanced}
use Rattle.shard_rows.specs.Values.{ShardValue, NamedBelow}
use Rattle.shard_rows.proofs.Quiet.{skips}
use Rattle.shard_rows.proofs.Forward.{forward_step}
use Rattle.shard_rows.proofs.shard.Shard.bring_forward.Goals as goal

pub loop-place-preserved : goal.loop-place-preserved
loop-place-preserved c =
    let i = c.loop-place.invariant in
    let s = c.args.self.now in
    let es = c.args.journal.now.entries in
    let e = c.call-call.ensures.call.0 in
    let found = c.call-call.ensures.call.1 in
    let called = c.call-call.ensures.call.2 in
    let within = slice_get_within es c.loop-place.place e found in (
      ap (λ (x : ShardValue). x.known) c.follow.ensures ∙ ap (λ n. n + 1) i.0,
      ap (λ (x : ShardValue). x.dir) c.follow.ensures ∙ i.1,
      ap (λ (x : ShardValue). x.room) c.follow.ensures ∙ i.2,
      omega (arith, within),
      ap (λ (x : ShardValue). x.names) c.follow.ensures
          ∙ ap (λ k. advanced k c.loop-place.self.names c.call-call.result c.number.result) i.1
          ∙ ap (λ call. advanced s.dir c.loop-place.self.names call c.number.result) called
          ∙ ap (advanced s.dir c.loop-place.self.names e.call) (c.number.ensures ∙ ap (λ r. slice_index (numbers_of (opening r) es) c.loop-place.place) (sym c.requires.room))
          ∙ forward_step s.room s.dir c.loop-place.place es e c.loop-place.self.names found i.4,
    )

pub returns-then-newest-known : goal.returns-then-newest-known
returns-then-newest-known c =
    let es = c.args.journal.now.entries in
    let s = c.args.self.now in
    c.skip_to.ensures ∙ ap (λ n. record s { known = n }) c.len.ensures.len
    ∙ skips es s c.newest.result (subst (λ dir. NamedBelow es dir c.newest.result) c.dir.ensures c.newest.ensures) (omega (arith, c.if-newest-known.true, c.known.ensures)) c.requires.up_to
