use Rattle.std.proofs.Common.{arith}
use Rattle.bpf_isa.proofs.RoundTrip.{encoding-decoding}
use Rattle.shfl_policy.proofs.laws.a_loaded_program_is_its_bytes.Goals as goal

pub returns : goal.returns
returns c = record { law = λ profile bytes insns small loads. encoding-decoding profile bytes insns (λ i. omega (arith, small i)) loads.0 }
