use Rattle.std.proofs.Common.{◌≡◌, ℕ, List, Result, Ok, Err, IfOk, arith}
use Rattle.bpf_isa.specs.declared.error.IsaError.{IsaError}
use Rattle.bpf_isa.specs.declared.insn.Insn.{Insn}
use Rattle.bpf_isa.specs.Faults.{Gives}
use Rattle.bpf_isa.proofs.Decoded.{decoded}
use Rattle.bpf_isa.proofs.RoundTrip.{encoding-decoding, decoding_is_well_formed, decoding_is_of}
use Rattle.bpf_isa.proofs.SlotBytes.{IsBytes}
use Rattle.bpf_isa.proofs.decoder.decode.Goals as goal

if_given : {X : Type 0} (view : X → List Insn) (r : Result X IsaError) (due : Result (List Insn) IsaError) (P : X → Type 0) → Gives view r due → ((x : X) → due ≡ Ok (view x) → P x) → IfOk r P
if_given view (Ok x) due P given law = law x given
if_given view (Err e) due P given law = tt

pub returns-clause-encodes : goal.returns-clause-encodes
returns-clause-encodes c =
    let bytes : List ℕ = c.args.bytes.now in
    let small : IsBytes bytes = λ i. omega (arith, c.type_inv.bytes i) in
    if_given _ c.decode_exactly.result _ _ c.decode_exactly.ensures (λ v e. encoding-decoding c.args.profile bytes v.items small e)

pub returns-clause-well_formed : goal.returns-clause-well_formed
returns-clause-well_formed c =
    let bytes : List ℕ = c.args.bytes.now in
    let small : IsBytes bytes = λ i. omega (arith, c.type_inv.bytes i) in
    if_given _ c.decode_exactly.result _ _ c.decode_exactly.ensures (λ v e. decoding_is_well_formed c.args.profile bytes v.items small e)

pub returns-clause-of_profile : goal.returns-clause-of_profile
returns-clause-of_profile c =
    let bytes : List ℕ = c.args.bytes.now in
    let small : IsBytes bytes = λ i. omega (arith, c.type_inv.bytes i) in
    if_given _ c.decode_exactly.result _ _ c.decode_exactly.ensures (λ v e. decoding_is_of c.args.profile bytes v.items small e)

pub returns-clause-slots : goal.returns-clause-slots
returns-clause-slots c =
    if_given _ c.decode_exactly.result _ _ c.decode_exactly.ensures (λ v e.
    let d = decoded c.args.profile c.args.bytes.now v.items e in
    record { whole = d.whole; each = d.each })
