use Rattle.std.proofs.Common.{refl}
use Rattle.bpf_isa.specs.Slots.{raw_at}
use Rattle.program_tests.proofs.running.worked_by_hand.Goals as goal

pub returns-clause-programs : goal.returns-clause-programs
unfolding raw_at
returns-clause-programs c = record {
  divide_by_zero = λ context. refl;
  modulo_zero = λ context. refl;
  modulo_zero_clears_the_upper_half = λ context. refl;
  shift_by_64 = λ context. refl;
  shift_by_32_at_32 = λ context. refl;
  add_wraps_at_32 = λ context. refl;
  divide_by_minus_one = λ context. refl;
  arithmetic_shift = λ context. refl;
  wide_load = λ context. refl;
}

pub returns-clause-extensions : goal.returns-clause-extensions
unfolding raw_at
returns-clause-extensions c = record {
  move_extends_a_byte = λ context. refl;
  move_extends_at_32 = λ context. refl;
  swap_of_16 = λ context. refl;
  big_endian_of_32 = λ context. refl;
  little_endian_of_16 = λ context. refl;
}
