use Rattle.std.proofs.Common.{ℕ, ◌+◌, Option, sym, ◌∙◌, subst, arith}
use Rattle.bpf_asm.specs.Names.{IsLowest}
use Rattle.bpf_asm.proofs.Settling.{no_repeat_at, repeat_at}
use Rattle.bpf_asm.proofs.names.lowest_repeat.Goals as goal
use Rattle.bpf_asm.proofs.names.lowest_repeat.Goals.{then-repeats, else-repeats}

pub loop-place-preserved : goal.loop-place-preserved
loop-place-preserved c =
    let names = c.args.names.now in
    let place = c.loop-place.place in
    elim c.if-repeats.branch [
      | then-repeats w ↦
          let now = repeat_at names place _ c.loop-place.found (omega arith) (omega arith) (sym c.repeats.ensures ∙ w.if-repeats.true) c.loop-place.invariant in
          subst (λ (o : Option ℕ). IsLowest names (place + 1) o) (sym (w.found-is ∙ w.lower-found.ensures)) now
      | else-repeats w ↦
          let now = no_repeat_at names place _ c.loop-place.found (omega arith) (omega arith) (sym c.repeats.ensures ∙ w.if-repeats.false) c.loop-place.invariant in
          subst (λ (o : Option ℕ). IsLowest names (place + 1) o) (sym w.found-is) now
    ]
