use Rattle.std.proofs.Common.{sym, arith}
use Rattle.std.proofs.lemmas.Grind.{common_steps}
use Rattle.bpf_isa.proofs.Halves.{half-step, half-zero}
use Rattle.bpf_isa.proofs.decoder.second_halves.Goals as goal

pub loop-i-init : goal.loop-i-init
loop-i-init c = record { count = grind (arith, common_steps); half = half-zero c.args.bytes.now; each = λ k lt. absurd (omega (arith, lt)) }

pub loop-i-preserved : goal.loop-i-preserved
loop-i-preserved c = record {
  count = grind (arith, common_steps);
  half = rw (c.next_half-half.ensures, c.loop-i.invariant.half) (sym (half-step c.args.bytes.now c.loop-i.i));
  each = λ k lt. grind (arith, common_steps, c.loop-i.invariant.each k);
}
