use Rattle.std.proofs.Common.{◌≡◌, ◌<◌, ℕ, length, get_or, false}
use Rattle.bpf_isa.specs.Slots.{is_second_half}
use Rattle.bpf_isa.proofs.decoder.second_halves.Given as goal

abbrev pub invariant-loop-i : goal.invariant-loop-i
invariant-loop-i l = record {
  count : length l.halves.items ≡ l.i;
  half : l.half ≡ is_second_half l.bytes l.i;
  each : (k : ℕ) → k < l.i → get_or l.halves.items k false ≡ is_second_half l.bytes k;
}
