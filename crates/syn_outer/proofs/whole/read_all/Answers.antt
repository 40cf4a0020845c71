use Rattle.std.proofs.Common.{◌<◌, ◌≤◌, ◌≢◌, ◌++◌, length, take, arith}
use Rattle.std.proofs.lemmas.Grind.{common_steps}
use Rattle.std.proofs.KnownBytes.{Consumes-trans}
use Rattle.syn_outer.specs.Bytes.{ConsumesAtMost}
use Rattle.syn_outer.specs.declared.whole.ReadError.TheVariants as ReadError
use Rattle.syn_outer.proofs.TakenBytes.{at_any_error}
use Rattle.syn_outer.proofs.whole.read_all.Goals as goal

pub returns-then-count-limit-clause-large : goal.returns-then-count-limit-clause-large
returns-then-count-limit-clause-large g c =
    let bytes = c.loop-bytes.bytes.items ++ take c.in-Ok.count c.read.new.buf in
    let more : c.args.limit < length bytes = grind (arith, common_steps) in
    λ _. (bytes, more, Consumes-trans _ _ _ _ _ c.loop-bytes.invariant.taken c.in-Ok.ensures.bytes.0)

pub returns-in_err-extend_from_slice-in-Ok-clause-small : goal.returns-in_err-extend_from_slice-in-Ok-clause-small
returns-in_err-extend_from_slice-in-Ok-clause-small g c =
    let bytes = c.loop-bytes.bytes.items ++ take c.in-Ok.count c.read.new.buf in
    let few : length bytes ≤ c.args.limit = grind (arith, common_steps) in
    at_any_error c.from_residual.result (λ e. e ≢ ReadError.TooLarge → ConsumesAtMost c.args.limit (g.R.Source.left c.args.src.now) (g.R.Source.left c.read.new.self))
    (λ e other. (bytes, few, Consumes-trans _ _ _ _ _ c.loop-bytes.invariant.taken c.in-Ok.ensures.bytes.0))
