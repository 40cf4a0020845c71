use Rattle.std.proofs.Common.{◌≡◌, drop}
use Rattle.bpf_asm.specs.Names.{key_on}
use Rattle.bpf_asm.proofs.names.key_of.Given as goal

abbrev pub invariant-loop-byte : goal.invariant-loop-byte
invariant-loop-byte l = key_on l.key (drop l.byte-index l.name) ≡ key_on 0 l.name
