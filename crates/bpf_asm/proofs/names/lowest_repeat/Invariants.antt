use Rattle.bpf_asm.specs.Names.{IsLowest}
use Rattle.bpf_asm.proofs.names.lowest_repeat.Given as goal

abbrev pub invariant-loop-place : goal.invariant-loop-place
invariant-loop-place l = IsLowest l.names l.place l.found
